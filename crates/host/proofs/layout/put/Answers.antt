use Rattle.std.proofs.Common.{◌+◌, take, refl, ap, ◌∙◌}
use Rattle.host.specs.Layout.{word}
use Rattle.host.proofs.Bytes.{came_back}
use Rattle.host.proofs.layout.put.Goals as goal

pub returns : goal.returns
returns c =
    came_back c.args.out.now c.args.at (c.args.at + 4) c.copy_from_slice.new.self (word c.args.value) refl
    (c.copy_from_slice.ensures.after ∙ ap (take 4) c.to_le_bytes-bytes.ensures)

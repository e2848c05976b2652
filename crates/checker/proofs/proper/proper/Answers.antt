use Rattle.std.proofs.Common.{rules, refl}
use Rattle.parser.specs.Table.{tree_at, Proper}
use Rattle.checker.proofs.Ranged.{decides_below}
use Rattle.checker.proofs.proper.proper.Goals as goal

pub returns : goal.returns
returns c = decides_below _ _ _ c.args.used (λ i. Proper c.args.sheet_len c.args.tree.now i (tree_at c.args.tree.now i)) c.all.ensures.ran refl (λ i b q k. search rules)

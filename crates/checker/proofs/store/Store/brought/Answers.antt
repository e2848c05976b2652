use Rattle.std.proofs.Common.{refl}
use Rattle.checker.proofs.Stored.{part_ready, copy_part}
use Rattle.checker.proofs.store.Store.brought.Goals as goal

pub returns-clause-brought : goal.returns-clause-brought
returns-clause-brought c ts t tabled within filled light h = part_ready _ _ tabled c.limit-limit.ensures.limit _ c.copied.new.types c.copied.auto.types refl t _ _ _ c.ok_or.ensures.value refl refl refl c.copied.ensures.kept
    (copy_part _ _ _ t c.args.made _ light (c.copied.ensures.made within filled t h))

use Rattle.std.proofs.Common.{refl}
use Rattle.checker.proofs.Stored.{part_ready, string_part}
use Rattle.checker.proofs.store.Store.spelled.Goals as goal

pub returns-clause-spelled : goal.returns-clause-spelled
returns-clause-spelled c ts t tabled h = part_ready _ _ tabled c.limit-limit.ensures.limit _ c.string_of.new.types c.string_of.auto.types refl _ _ _ _ c.ok_or.ensures.value refl refl refl c.string_of.ensures.kept
    (string_part _ _ _ t _ (c.string_of.ensures.made t h))

use Rattle.std.proofs.Common.{refl}
use Rattle.checker.proofs.Stored.{given, part_ready, union_part}
use Rattle.checker.proofs.store.Store.united.Goals as goal

pub returns-clause-united : goal.returns-clause-united
returns-clause-united c ts t u v tabled a b f g h = let limit = c.limit-limit.ensures.limit in
    part_ready _ _ tabled limit _ c.union_of_two.new.types c.union_of_two.auto.types refl v _ _ _ c.ok_or.ensures.value refl refl refl c.union_of_two.ensures.kept
    (union_part _ _ _ _ h (c.union_of_two.ensures.made t u (given _ _ tabled limit a) (given _ _ tabled limit b) f g))

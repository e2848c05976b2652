use Rattle.std.proofs.Common.{arith}
use Rattle.building.proofs.PartsMade.{part_added, no_part_added}
use Rattle.building.proofs.members.OpenUnion.add_part.Goals as goal

pub returns-in-None-clause-added : goal.returns-in-None-clause-added
returns-in-None-clause-added c = no_part_added _ _ _ _ _ (λ t h. c.in-None.ensures (omega arith) t h)

pub returns-in-Some-clause-added : goal.returns-in-Some-clause-added
returns-in-Some-clause-added c = part_added _ _ _ _ _ _ _ _ (λ t h. c.in-Some.ensures (omega arith) t h) c.add.ensures.added

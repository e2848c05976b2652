use Rattle.building.proofs.PartsMade.{part_any}
use Rattle.building.proofs.parts.part_is_any.Goals as goal

pub returns : goal.returns
returns c = part_any c.own_part.result c.eq.ensures c.own_part.ensures

use Rattle.building.proofs.PartsMade.{part_told}
use Rattle.building.proofs.parts_are_told.Goals as goal

pub returns : goal.returns
returns c = part_told

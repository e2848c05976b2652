use Rattle.building.proofs.LiteralsMade.{literal_laws}
use Rattle.building.proofs.literals_are_one.Goals as goal

pub returns : goal.returns
returns c = literal_laws

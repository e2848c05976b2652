use Rattle.building.proofs.Unite.{union_exists}
use Rattle.building.proofs.unions_exist.Goals as goal

pub returns : goal.returns
returns c = union_exists

use Rattle.types.proofs.Worked.{examples_hold_lem}
use Rattle.types.proofs.examples_hold.Goals as goal

pub returns : goal.returns
returns c = examples_hold_lem

use Rattle.checker.proofs.Typable.{typing_exists_law}
use Rattle.checker.proofs.laws.typings_exist.Goals as goal

pub returns : goal.returns
returns c = typing_exists_law

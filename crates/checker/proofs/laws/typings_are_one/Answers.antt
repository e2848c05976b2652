use Rattle.checker.proofs.Typings.{one_typing_law}
use Rattle.checker.proofs.laws.typings_are_one.Goals as goal

pub returns : goal.returns
returns c = one_typing_law

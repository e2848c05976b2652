use Rattle.std.proofs.Common.{⊎_elim}
use Rattle.checker.proofs.Tested.{number_numeric, literal_numeric}
use Rattle.checker.proofs.conditions.is_numeric.Goals as goal

pub returns-in-Number : goal.returns-in-Number
returns-in-Number c = ⊎_elim number_numeric (λ h. literal_numeric h.2) c.in-Number.is

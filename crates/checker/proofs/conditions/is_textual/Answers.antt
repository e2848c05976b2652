use Rattle.std.proofs.Common.{⊎_elim}
use Rattle.checker.proofs.Tested.{string_textual, literal_textual}
use Rattle.checker.proofs.conditions.is_textual.Goals as goal

pub returns-in-String : goal.returns-in-String
returns-in-String c = ⊎_elim string_textual (λ h. literal_textual h.2) c.in-String.is

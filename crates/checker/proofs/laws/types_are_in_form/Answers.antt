use Rattle.checker.proofs.Typable.{types_in_form_law}
use Rattle.checker.proofs.laws.types_are_in_form.Goals as goal

pub returns : goal.returns
returns c = types_in_form_law

use Rattle.std.proofs.Common.{◌≡◌, get_or}
use Rattle.lexer.specs.Classes.{class}
use Rattle.lexer.specs.declared.classes.Class.TheVariants.{Quote}
use Rattle.lexer.proofs.UnitRuns.{Agrees}
use Rattle.lexer.proofs.strings.is_string_of.Given as goal

abbrev pub invariant-loop-unit : goal.invariant-loop-unit
invariant-loop-unit l = (l.decoder.text.now ≡ l.text) × (class (get_or l.text 0 0) ≡ Quote) × Agrees l.text l.units l.decoder.at l.unit-index

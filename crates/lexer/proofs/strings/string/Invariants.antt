use Rattle.std.proofs.Common.{◌≡◌, ◌-◌, length, get_or}
use Rattle.lexer.specs.Classes.{class}
use Rattle.lexer.specs.declared.classes.Class.TheVariants.{Quote}
use Rattle.lexer.proofs.Decodings.{Sofar}
use Rattle.lexer.proofs.strings.string.Given as goal

abbrev pub invariant-loop-units : goal.invariant-loop-units
invariant-loop-units l = (l.decoder.text.now ≡ l.bytes) × (class (get_or l.bytes 0 0) ≡ Quote) × Sofar l.bytes l.decoder.at l.units

abbrev pub decreases-loop-units : goal.decreases-loop-units
decreases-loop-units l = length l.bytes - l.decoder.at

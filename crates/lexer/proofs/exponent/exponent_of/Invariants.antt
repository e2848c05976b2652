use Rattle.std.proofs.Common.{◌≡◌, ◌^◌, min, take}
use Rattle.lexer.specs.Numbers.{read}
use Rattle.lexer.proofs.exponent.exponent_of.Given as goal

abbrev pub invariant-loop-b : goal.invariant-loop-b
invariant-loop-b l = l.x ≡ min (read (take l.b-index l.digits)) (2 ^ 108)

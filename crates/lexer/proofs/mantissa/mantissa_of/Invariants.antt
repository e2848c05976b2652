use Rattle.std.proofs.Common.{ℕ, ◌+◌, ◌≤◌, take}
use Rattle.lexer.specs.Mantissas.{Holds, read_on, zeros_of}
use Rattle.lexer.proofs.mantissa.mantissa_of.Given as goal

abbrev pub invariant-loop-b : goal.invariant-loop-b
invariant-loop-b l = ((d : ℕ) → Holds d l.initial.all → Holds (read_on d (take l.b-index l.digits)) l.all) × (zeros_of l.all ≤ zeros_of l.initial.all + l.b-index)

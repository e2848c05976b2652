use Rattle.std.proofs.Common.{ℕ, ◌+◌, ◌-◌, ◌≤◌, length, drop}
use Rattle.lexer.specs.Gaps.{Gap}
use Rattle.lexer.proofs.gaps.gap_len.Given as goal

abbrev pub invariant-loop-n : goal.invariant-loop-n
invariant-loop-n l = (l.at ≤ length l.bytes) × ((m : ℕ) → Gap (drop l.at l.bytes) m → Gap l.bytes (l.at + m))

abbrev pub decreases-loop-n : goal.decreases-loop-n
decreases-loop-n l = length l.bytes - l.at

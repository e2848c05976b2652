use Rattle.std.proofs.Common.{◌≡◌, ◌+◌, ◌≤◌, take}
use Rattle.lexer.specs.Positions.{line_after, column_after}
use Rattle.lexer.proofs.positions.position_of.Given as goal

abbrev pub invariant-loop-b : goal.invariant-loop-b
invariant-loop-b l = (l.line ≡ line_after (take l.b-index l.sheet)) × (l.column ≡ column_after (take l.b-index l.sheet)) × (l.line ≤ l.b-index + 1) × (l.column ≤ l.b-index + 1)

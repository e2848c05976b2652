use Rattle.std.proofs.Common.{◌≡◌, ℕ, ◌+◌, ◌<◌}
use Rattle.types.specs.Table.{entry_at}
use Rattle.building.specs.Entries.{shift}
use Rattle.building.specs.Made.{Kept}
use Rattle.building.proofs.copies.copied.Given as goal

-- the entries so far are copied
abbrev pub invariant-loop-k : goal.invariant-loop-k
invariant-loop-k l = Kept l.initial.types l.types l.used × ((j : ℕ) → j < l.k → entry_at l.types (l.used + j) ≡ shift l.used (entry_at l.entries j))

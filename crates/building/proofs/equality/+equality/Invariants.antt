use Rattle.std.proofs.Common.{◌≡◌, ◌-◌, ◌≤◌, ℕ, ◌+◌, ◌*◌, ◌<◌, true}
use Rattle.types.specs.Table.{entry_at}
use Rattle.std.specs.Iterator.Adapters.{zip_first, zip_second}
use Rattle.building.specs.Made.{SaysSameType}
use Rattle.building.proofs.equality.+equality.Given as goal

-- each call goes to lower indexes, or from a type to its parts
abbrev pub decreases-same : goal.decreases-same
decreases-same l = 3 * (l.a.used + l.b.used) + 2

abbrev pub decreases-same_parts : goal.decreases-same_parts
decreases-same_parts l = 3 * (l.a.used + l.b.used) + 1

abbrev pub decreases-same_runs : goal.decreases-same_runs
decreases-same_runs l = 3 * (l.run.end + l.other.end)

-- the types so far are the same
abbrev pub invariant-same_runs-loop-x : goal.invariant-same_runs-loop-x
invariant-same_runs-loop-x l =
    ((zip_first l.x-iterator).end ≡ l.fn.run.end)
    × ((zip_second l.x-iterator).end ≡ l.fn.other.end)
    × (l.fn.run.start ≤ (zip_first l.x-iterator).start)
    × ((zip_second l.x-iterator).start ≡ l.fn.other.start + ((zip_first l.x-iterator).start - l.fn.run.start))
    × ((j : ℕ) → j < (zip_first l.x-iterator).start - l.fn.run.start → SaysSameType l.types (l.fn.run.start + j) (entry_at l.types (l.fn.run.start + j)) (l.fn.other.start + j) (entry_at l.types (l.fn.other.start + j)) true)

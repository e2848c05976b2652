use Rattle.std.proofs.Common.{◌≡◌, ℕ, ◌+◌, ◌*◌, ◌<◌, ◌≤◌, false}
use Rattle.types.specs.Table.{entry_at, SaysMeet}
use Rattle.types.proofs.meeting.+meeting.Given as goal

-- each call goes to lower indexes, or from a type to its parts
abbrev pub decreases-meets : goal.decreases-meets
decreases-meets l = 2 * (l.a.used + l.b.used) + 1

abbrev pub decreases-parts_meet : goal.decreases-parts_meet
decreases-parts_meet l = 2 * (l.a.used + l.b.used)

abbrev pub decreases-some_meets : goal.decreases-some_meets
decreases-some_meets l = 2 * (l.run.end + l.other.used)

abbrev pub decreases-meets_some : goal.decreases-meets_some
decreases-meets_some l = 2 * (l.run.end + l.other.used)

-- no type so far meets the other one
abbrev pub invariant-some_meets-loop-k : goal.invariant-some_meets-loop-k
invariant-some_meets-loop-k l =
    (l.k-iterator.end ≡ l.fn.run.end)
    × (l.fn.run.start ≤ l.k-iterator.start)
    × ((j : ℕ) → l.fn.run.start ≤ j → j < l.k-iterator.start → SaysMeet l.types j (entry_at l.types j) l.other.used l.other.entry false)

abbrev pub invariant-meets_some-loop-j : goal.invariant-meets_some-loop-j
invariant-meets_some-loop-j l =
    (l.j-iterator.end ≡ l.fn.run.end)
    × (l.fn.run.start ≤ l.j-iterator.start)
    × ((k : ℕ) → l.fn.run.start ≤ k → k < l.j-iterator.start → SaysMeet l.types k (entry_at l.types k) l.other.used l.other.entry false)

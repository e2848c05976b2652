use Rattle.std.proofs.Common.{◌≡◌, ◌+◌, ◌*◌, ◌≤◌, length}
use Rattle.building.proofs.Weigh.{Left}
use Rattle.building.proofs.weights.+weights.Given as goal

-- each call goes to lower indexes, or from a type to its parts
abbrev pub decreases-weight_within : goal.decreases-weight_within
decreases-weight_within l = 3 * l.a.used + 2

abbrev pub decreases-parts_weigh : goal.decreases-parts_weigh
decreases-parts_weigh l = 3 * l.a.used + 1

abbrev pub decreases-run_weighs : goal.decreases-run_weighs
decreases-run_weighs l = 3 * l.run.end

-- the weights so far, and what the others add
abbrev pub invariant-run_weighs-loop-k : goal.invariant-run_weighs-loop-k
invariant-run_weighs-loop-k l =
    (l.k-iterator.end ≡ l.fn.run.end)
    × (l.sum ≤ l.limit)
    × (l.fn.run.end ≤ length l.types → Left l.types l.fn.run.start l.fn.run.end l.limit l.k-iterator.start l.sum)

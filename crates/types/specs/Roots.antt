-- Types in hand, and their parts. Assumes nothing.
use Rattle.std.specs.Prelude.{◌≡◌, ℕ, ◌+◌, ◌<◌, ◌≤◌, List, length, Some, None, Option}
use Rattle.std.specs.declared.ops.Range.{Range}
use Rattle.types.specs.declared.entries.TypeEntry.{TypeEntry}
use Rattle.types.specs.declared.entries.Root.{Root}
use Rattle.types.specs.Table.{entry_at}

-- the type that the entry at an index holds
abbrev pub root_at : List TypeEntry → ℕ → Root
root_at es i = record { entry = entry_at es i; used = i }

-- the answer r: the type at i, or that i is no index below n
abbrev pub GivesPart : List TypeEntry → ℕ → ℕ → Option Root → Type 0
GivesPart es n i (Some r) = (i < n) × (r ≡ root_at es i)
GivesPart es n i None = n ≤ length es → n ≤ i

-- the answer r: the indexes of size entries from first on, or that they do not stand below n
abbrev pub GivesRun : ℕ → ℕ → ℕ → Option (Range ℕ) → Type 0
GivesRun n first size (Some r) = (r.start ≡ first) × (r.end ≡ first + size) × (first + size ≤ n)
GivesRun n first size None = n < first + size

-- The tables that a call is lent. Assumes nothing.
use Rattle.std.specs.Prelude.{◌≡◌, ℕ, List, length}
use Rattle.std.specs.Borrow.{MutBor}
use Rattle.parser.specs.declared.tables.Tables.{Tables}
use Rattle.parser.specs.Reading.{Sizes}

-- the sizes of a tree table of n entries and of the other tables
abbrev pub sizes_of : ℕ → Tables → Sizes
sizes_of n t = record { of_tree = n; of_operators = length t.operators.now; of_frames = length t.frames.now; of_types = length t.types.now }

-- the table that was lent, as long as it was
abbrev pub GivenBack : {T : Type 0} → MutBor (List T) → MutBor (List T) → Type 0
GivenBack a b = (b.ghost_name ≡ a.ghost_name) × (length b.now ≡ length a.now)

-- a call gives the tables back that it was lent
pub record Lent (t u : Tables) : Type 0 where
  pub operators : GivenBack t.operators u.operators
  pub frames : GivenBack t.frames u.frames
  pub types : GivenBack t.types u.types

-- What the inner functions of the meeting test say. No public contract cites it. Assumes nothing.
use Rattle.std.specs.Prelude.{◌≡◌, ℕ, ◌-◌, ◌≤◌, Bool, false, Decides, List, length, Some, None, Option}
use Rattle.types.specs.declared.entries.TypeEntry.{TypeEntry}
use Rattle.types.specs.declared.kinds.Kind.{Kind}
use Rattle.types.specs.declared.kinds.Verdict.TheVariants.{ByParts}
use Rattle.types.specs.Values.{Value}
use Rattle.types.specs.Types.{Ty, Types, Belongs, BelongsToSome}
use Rattle.types.specs.Table.{Is, Run, SaysMeet}
use Rattle.types.specs.Kinds.{entry_kind, verdict}

-- r says whether one of the types at the indexes from first on and below end meets the type b, with its parts below m
abbrev pub SaysSomeMeet : List TypeEntry → ℕ → ℕ → ℕ → TypeEntry → Bool → Type 0
SaysSomeMeet es first end m b r = first ≤ end → (ts : Types) → Run es first (end - first) ts → end ≤ length es → m ≤ length es → (t : Ty) → Is es m b t → Decides r ((v : Value) × BelongsToSome v ts × Belongs v t)

-- the answer r for types that meet by their parts, or that one of them is no type
abbrev pub SaysMeetByParts : List TypeEntry → ℕ → TypeEntry → ℕ → TypeEntry → Option Bool → Type 0
SaysMeetByParts es n a m b (Some r) = (k l : Kind) → entry_kind a ≡ Some k → entry_kind b ≡ Some l → verdict k l ≡ ByParts → SaysMeet es n a m b r
SaysMeetByParts es n a m b None = SaysMeet es n a m b false

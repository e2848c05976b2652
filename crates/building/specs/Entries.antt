-- What the inner functions say of entries. No public contract cites it. Assumes nothing.
use Rattle.std.specs.Prelude.{◌≡◌, ℕ, ◌+◌, ◌-◌, ◌^◌, ◌<◌, ◌≤◌, min, Bool, false, List, length, take, ◌++◌, Some, None, Decides, Option, ◌≢◌}
use Rattle.types.specs.declared.entries.TypeEntry.{TypeEntry}
use Rattle.types.specs.declared.entries.TypeEntry.TheVariants.{Unused, Any, Number, NumberLiteral, String, StringLiteral, CodeUnit, Boolean, True, False, Undefined, Null, Function, Pair, List as ListOf, Union}
use Rattle.types.specs.Types.{Ty, Types, any, union, no_types, ◌and◌, count}
use Rattle.types.specs.Table.{entry_at, Is, Run}
use Rattle.types.specs.declared.kinds.Kind.{Kind}
use Rattle.types.specs.Kinds.{OfKind, entry_kind, rank}
use Rattle.building.specs.Unions.{◌then◌, Brings, In, Members}
use Rattle.building.specs.Forms.{InForm, AllInForm}
use Rattle.building.specs.declared.parts.Side.{Side}
use Rattle.building.specs.declared.members.OpenUnion.{OpenUnion}
use Rattle.building.specs.HeadsAndTails.{OwnPart, OwnParts}
use Rattle.types.specs.declared.entries.Root.{Root}
use Rattle.building.specs.Made.{UnionMade, SaysSameType, Hold}
use Rattle.building.specs.Weights.{weight, weights}
use Rattle.std.specs.Option.{unwrap_or}

-- the answer r for the parts of two types, or that one of them is no type
abbrev pub SaysSameParts : List TypeEntry → ℕ → TypeEntry → ℕ → TypeEntry → Option Bool → Type 0
SaysSameParts es n a m b r = SaysSameType es n a m b (unwrap_or r false)

-- r says whether the types at the indexes from first on and below end are those from other on and below stop
abbrev pub SaysSameRuns : List TypeEntry → ℕ → ℕ → ℕ → ℕ → Bool → Type 0
SaysSameRuns es first end other stop r =
    first ≤ end → other ≤ stop → end ≤ length es → stop ≤ length es
    → (ts us : Types) → Run es first (end - first) ts → Run es other (stop - other) us → Decides r (ts ≡ us)

-- with r more, or one more and the limit where that is less, is the weight of the type e, whose parts stand below n
abbrev pub SaysPartsWeigh : List TypeEntry → ℕ → TypeEntry → ℕ → Option ℕ → Type 0
SaysPartsWeigh es n e limit (Some r) = n ≤ length es → (t : Ty) → Is es n e t → min (weight t) limit ≡ min (1 + r) limit
SaysPartsWeigh es n e limit None = n ≤ length es → (t : Ty) → Is es n e t → ⊥

-- r is the weight of the types at the indexes from first on and below end, or the limit where it is more
abbrev pub SaysRunWeighs : List TypeEntry → ℕ → ℕ → ℕ → ℕ → Type 0
SaysRunWeighs es first end limit r = end ≤ length es → (ts : Types) → Run es first (end - first) ts → r ≡ min (weights ts) limit

-- r says whether the type e is one of those that the entries hs hold, all with their parts in ps
abbrev pub SaysIn : List TypeEntry → List TypeEntry → TypeEntry → Bool → Type 0
SaysIn ps hs e r = (t : Ty) (ms : Types) → Is ps (length ps) e t → Hold ps (length ps) hs ms → Decides r (In t ms)

-- the rank of an entry's kind; `any` and a union have none
abbrev pub entry_rank : TypeEntry → ℕ
entry_rank e = elim (entry_kind e) [ Some k ↦ rank k | None ↦ 12 ]

-- of the entries hs, the first p have no higher rank than r, and the next one has
pub record Place (hs : List TypeEntry) (r p : ℕ) : Type 0 where
  pub within : p ≤ length hs
  pub before : (j : ℕ) → j < p → entry_rank (entry_at hs j) ≤ r
  pub next : p < length hs → r < entry_rank (entry_at hs p)

-- the entries hs, with their parts in ps, are the members of the types that arrived, none of them `any` or a union
pub record Open (ps hs : List TypeEntry) (xs : Types) : Type 0 where
  pub members : Types
  pub stored : Hold ps (length ps) hs members
  pub are_members : Members xs members
  pub of_kinds : (t : Ty) → In t members → (k : Kind) × OfKind t k

-- the first n of some slots are
abbrev pub OpenIn : List TypeEntry → List TypeEntry → ℕ → Types → Type 0
OpenIn ps es n xs = n ≤ length es × Open ps (take n es) xs

-- no list with all the types that arrived fits in
abbrev pub HasNoRoom : List TypeEntry → Types → Type 0
HasNoRoom es xs = (ms : Types) → ((t : Ty) → In t xs → In t ms) → length es < count ms

-- the answer r: how many of the slots fs are members of the types that arrived, or that they have no room
abbrev pub Opened : List TypeEntry → List TypeEntry → Types → Option ℕ → Type 0
Opened ps fs xs (Some m) = OpenIn ps fs m xs
Opened ps fs xs None = HasNoRoom fs xs

-- the slots es, of which n are members, become fs with one more type, or there is no room
abbrev pub Adds : List TypeEntry → List TypeEntry → List TypeEntry → ℕ → TypeEntry → Option ℕ → Type 0
Adds ps es fs n e r =
    (t : Ty) (k : Kind) (xs : Types) → Is ps (length ps) e t → OfKind t k → OpenIn ps es n xs
    → Opened ps fs (xs then (t and no_types)) r

-- the type brings the types of the list: itself, or its members, which are neither `any` nor unions
pub data Flat : Ty → Types → Type 0 where
  flat_any : Flat any (any and no_types)
  flat_one : {t : Ty} {k : Kind} → OfKind t k → Flat t (t and no_types)
  flat_members : {t : Ty} {ts : Types} → ((u : Ty) → In u (t and ts) → (k : Kind) × OfKind u k) → Flat (union t ts) (t and ts)

-- the same of all that the type e, which is not `any`, brings
abbrev pub AddsAll : List TypeEntry → List TypeEntry → List TypeEntry → ℕ → TypeEntry → Option ℕ → Type 0
AddsAll ps es fs n e r =
    (t : Ty) (xs ys : Types) → (e ≢ Any) → Is ps (length ps) e t → Flat t ys → OpenIn ps es n xs
    → Opened ps fs (xs then ys) r

-- how many members there are after an answer, if it is not that there is no room
abbrev pub counted : Option (Unit {0}) → ℕ → Option ℕ
counted (Some done) n = Some n
counted None n = None

-- v has the slots that are lent to the open union u, and its parts
abbrev pub SameTable : OpenUnion → OpenUnion → Type 0
SameTable u v = (v.slots.ghost_name ≡ u.slots.ghost_name) × (v.parts.now ≡ u.parts.now)

-- the open union of the entries hs, which stand right after ps in a table, closed, is m
abbrev pub Closes : List TypeEntry → List TypeEntry → Root → Type 0
Closes ps hs m = (ts xs : Types) (rest : List TypeEntry) → AllInForm ts → Brings ts xs → ((t : Ty) × In t xs) → Open ps hs xs → UnionMade (ps ++ (hs ++ rest)) (length ps) ts m

-- r says whether the part on a side of the type e, with its parts below n, is `any`
abbrev pub SaysPartAny : List TypeEntry → ℕ → TypeEntry → Side → Bool → Type 0
SaysPartAny es n e side r = n ≤ length es → (t : Ty) → Is es n e t → Decides r (OwnPart side t any)

-- r says whether the part on a side of one of the types at the indexes from first on and below end is `any`
abbrev pub SaysAnyPart : List TypeEntry → ℕ → ℕ → Side → Bool → Type 0
SaysAnyPart es first end side r = first ≤ end → end ≤ length es → (ts : Types) → Run es first (end - first) ts → Decides r ((t : Ty) × In t ts × OwnPart side t any)

-- the same of all that the part of the type e brings
abbrev pub AddsPart : List TypeEntry → List TypeEntry → List TypeEntry → ℕ → TypeEntry → Side → Option ℕ → Type 0
AddsPart ps es fs n e side r =
    (t : Ty) (qs xs ys : Types) → Is ps (length ps) e t → InForm t → OwnParts side (t and no_types) qs → Brings qs ys → (In any ys → ⊥) → OpenIn ps es n xs
    → Opened ps fs (xs then ys) r

-- the slots fs begin with an open union of all that the parts of the entries hs bring, or there is no room for it
abbrev pub AddsParts : List TypeEntry → List TypeEntry → List TypeEntry → Side → Option ℕ → Type 0
AddsParts ps fs hs side r =
    (ts qs xs : Types) → Hold ps (length ps) hs ts → AllInForm ts → OwnParts side ts qs → Brings qs xs → (In any xs → ⊥)
    → Opened ps fs xs r

-- the entries xs stand in fs from used on, and r is where they end, or they do not fit in
abbrev pub Puts : List TypeEntry → ℕ → List TypeEntry → Option ℕ → Type 0
Puts fs used xs (Some end) = (end ≡ used + length xs) × (end ≤ length fs) × ((j : ℕ) → j < length xs → entry_at fs (used + j) ≡ entry_at xs j)
Puts fs used xs None = length fs < used + length xs

-- from where the answer r says that the entries put in end, fs has the entries of es; where they do not fit in, it has all
abbrev pub LeavesRest : List TypeEntry → List TypeEntry → Option ℕ → Type 0
LeavesRest es fs (Some end) = (j : ℕ) → end ≤ j → entry_at fs j ≡ entry_at es j
LeavesRest es fs None = fs ≡ es

-- the index i, moved up
abbrev pub up : ℕ → ℕ → ℕ
up by i = min (i + by) (2 ^ 64 - 1)

-- the same entry with the indexes of its parts moved up
abbrev pub shift : ℕ → TypeEntry → TypeEntry
shift by Unused = Unused
shift by Any = Any
shift by Number = Number
shift by (NumberLiteral digits exponent) = NumberLiteral digits exponent
shift by String = String
shift by (StringLiteral first size) = StringLiteral (up by first) size
shift by (CodeUnit u) = CodeUnit u
shift by Boolean = Boolean
shift by True = True
shift by False = False
shift by Undefined = Undefined
shift by Null = Null
shift by (Function first size) = Function (up by first) size
shift by (Pair head tail) = Pair (up by head) (up by tail)
shift by (ListOf element) = ListOf (up by element)
shift by (Union first size) = Union (up by first) size

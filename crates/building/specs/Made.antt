-- What the functions on the type table answer. Assumes nothing.
use Rattle.std.specs.Prelude.{◌≡◌, ℕ, ◌+◌, ◌<◌, ◌≤◌, min, Bool, ◌⊎◌, List, [], ◌∷◌, length, Some, None, Decides, Option, Ok, Err, Result}
use Rattle.types.specs.declared.entries.TypeEntry.{TypeEntry}
use Rattle.types.specs.declared.entries.TypeEntry.TheVariants.{CodeUnit}
use Rattle.types.specs.Types.{Ty, Types, any, function, pair, list, union, no_types, ◌and◌, count}
use Rattle.types.specs.Table.{entry_at, Is}
use Rattle.types.specs.declared.entries.Root.{Root}
use Rattle.building.specs.declared.parts.Side.{Side}
use Rattle.building.specs.declared.parts.NoRoom.{NoRoom}
use Rattle.building.specs.HeadsAndTails.{OwnPart, OwnParts, PartOf}
use Rattle.building.specs.Unions.{Brings, In, Members, UnionOf}
use Rattle.building.specs.Forms.{InForm}
use Rattle.building.specs.Weights.{weight}

-- r says whether a, with its parts below n, and b, with its parts below m, are the same type
abbrev pub SaysSameType : List TypeEntry → ℕ → TypeEntry → ℕ → TypeEntry → Bool → Type 0
SaysSameType es n a m b r = n ≤ length es → m ≤ length es → (s t : Ty) → Is es n a s → Is es m b t → Decides r (s ≡ t)

-- r is the weight of the type e, with its parts below n, or the limit where it is more
abbrev pub SaysWeight : List TypeEntry → ℕ → TypeEntry → ℕ → ℕ → Type 0
SaysWeight es n e limit r = n ≤ length es → (t : Ty) → Is es n e t → r ≡ min (weight t) limit

-- the entries below used are the same
abbrev pub Kept : List TypeEntry → List TypeEntry → ℕ → Type 0
Kept es fs used = (j : ℕ) → j < used → entry_at fs j ≡ entry_at es j

-- the entry at j is a type with its parts below j, or a code unit of a string
pub data StandsFor (es : List TypeEntry) (j : ℕ) : Type 0 where
  a_type : {t : Ty} → Is es j (entry_at es j) t → StandsFor es j
  a_unit : {u : ℕ} → entry_at es j ≡ CodeUnit u → StandsFor es j

-- every entry from one index on and below another does
abbrev pub Filled : List TypeEntry → ℕ → ℕ → Type 0
Filled es from to = (j : ℕ) → from ≤ j → j < to → StandsFor es j

-- the union of the types ts needs n free entries: one for each member, also where there is only one; none where it is `any`
pub data Needs (ts : Types) : ℕ → Type 0 where
  needs_none : {xs : Types} → Brings ts xs → In any xs → Needs ts 0
  needs_members : {xs ms : Types} → Brings ts xs → (In any xs → ⊥) → Members xs ms → Needs ts (count ms)

-- m is the union of the types ts, with its parts below m.used; those from used on are new
pub record UnionMade (es : List TypeEntry) (used : ℕ) (ts : Types) (m : Root) : Type 0 where
  pub made : Ty
  pub is_union : UnionOf ts made
  pub in_form : InForm made
  pub holds : Is es m.used m.entry made
  pub more : used ≤ m.used
  pub within : m.used ≤ length es
  pub light : m.used < used + weight made  -- the new entries are fewer than the type weighs
  pub filled : Filled es used m.used  -- and each stands for something
  pub fits : (n : ℕ) × Needs ts n × (used + n ≤ length es)

-- the answer r: the union of ts in fs, or that the entries that it needs do not fit in from used on
abbrev pub UnionOrNone : List TypeEntry → List TypeEntry → ℕ → Types → Option Root → Type 0
UnionOrNone es fs used ts (Some m) = UnionMade fs used ts m
UnionOrNone es fs used ts None = (n : ℕ) × Needs ts n × (length es < used + n)

-- the union of the types a and b, whose parts stand below used
abbrev pub MakesUnion : List TypeEntry → List TypeEntry → ℕ → TypeEntry → TypeEntry → Option Root → Type 0
MakesUnion es fs used a b r =
    (s t : Ty) → Is es used a s → Is es used b t → InForm s → InForm t → UnionOrNone es fs used (s and t and no_types) r

-- the entry e is the part on a side of the type t
pub record PartHeld (es : List TypeEntry) (n : ℕ) (side : Side) (t : Ty) (e : TypeEntry) : Type 0 where
  pub part : Ty
  pub is_part : OwnPart side t part
  pub holds : Is es n e part

-- the answer r: the part on a side, or that there is none
abbrev pub PartOrNone : List TypeEntry → ℕ → Side → Ty → Option TypeEntry → Type 0
PartOrNone es n side t (Some e) = PartHeld es n side t e
PartOrNone es n side t None = (p : Ty) → OwnPart side t p → ⊥

-- the part of the type e, which is no union and whose parts stand below n
abbrev pub GivesPart : List TypeEntry → ℕ → TypeEntry → Side → Option TypeEntry → Type 0
GivesPart es n e side r = n ≤ length es → (t : Ty) → Is es n e t → PartOrNone es n side t r

-- m is the type t, with its parts below m.used; those from used on are new
pub record TypeMade (es : List TypeEntry) (used : ℕ) (t : Ty) (m : Root) : Type 0 where
  pub holds : Is es m.used m.entry t
  pub more : used ≤ m.used
  pub within : m.used ≤ length es
  pub light : m.used < used + weight t
  pub filled : Filled es used m.used

-- the answer r: the type t in fs, or that n entries do not fit in from used on
abbrev pub TypeOrNone : List TypeEntry → List TypeEntry → ℕ → ℕ → Ty → Option Root → Type 0
TypeOrNone es fs used n t (Some m) = TypeMade fs used t m
TypeOrNone es fs used n t None = length es < used + n

-- the pair type of the types a and b, whose parts stand below used
abbrev pub MakesPair : List TypeEntry → List TypeEntry → ℕ → TypeEntry → TypeEntry → Option Root → Type 0
MakesPair es fs used a b r = (s t : Ty) → Is es used a s → Is es used b t → TypeOrNone es fs used 2 (pair s t) r

-- the list type of the type a, whose parts stand below used
abbrev pub MakesList : List TypeEntry → List TypeEntry → ℕ → TypeEntry → Option Root → Type 0
MakesList es fs used a r = (t : Ty) → Is es used a t → TypeOrNone es fs used 1 (list t) r

-- the entries hs, with their parts below n, are the types of a list
pub data Hold (es : List TypeEntry) (n : ℕ) : List TypeEntry → Types → Type 0 where
  hold_none : Hold es n [] no_types
  hold_more : {e : TypeEntry} {hs : List TypeEntry} {t : Ty} {ts : Types} → Is es n e t → Hold es n hs ts → Hold es n (e ∷ hs) (t and ts)

-- the answer r: the function type of ts and t in fs, where ts are at most eight; or that ts are over eight, or do not fit in with t from used on
abbrev pub FunctionOrNone : List TypeEntry → List TypeEntry → ℕ → Types → Ty → Option Root → Type 0
FunctionOrNone es fs used ts t (Some m) = (count ts ≤ 8) × TypeMade fs used (function ts t) m
FunctionOrNone es fs used ts t None = (8 < count ts) ⊎ (length es < used + (count ts + 1))

-- the function type of the parameters ps and the result e, whose parts stand below used
abbrev pub MakesFunction : List TypeEntry → List TypeEntry → ℕ → List TypeEntry → TypeEntry → Option Root → Type 0
MakesFunction es fs used ps e r = (ts : Types) (t : Ty) → Hold es used ps ts → Is es used e t → FunctionOrNone es fs used ts t r

-- where the answer is None, the table fs is es, as it was
abbrev pub NoneLeaves : List TypeEntry → List TypeEntry → Option Root → Type 0
NoneLeaves es fs r = r ≡ None → fs ≡ es

-- c is the type t, copied with all entries that m has in use
pub record CopyMade (es : List TypeEntry) (used : ℕ) (t : Ty) (m c : Root) : Type 0 where
  pub holds : Is es c.used c.entry t
  pub used_is : c.used ≡ used + m.used
  pub within : c.used ≤ length es
  pub filled : Filled es used c.used

-- the answer r: the type t of m in fs, or that its entries do not fit in from used on
abbrev pub CopyOrNone : List TypeEntry → List TypeEntry → ℕ → Ty → Root → Option Root → Type 0
CopyOrNone es fs used t m (Some c) = CopyMade fs used t m c
CopyOrNone es fs used t m None = length es < used + m.used

-- the type m, whose parts stand in other entries, each of which stands for something
abbrev pub MakesCopy : List TypeEntry → List TypeEntry → ℕ → List TypeEntry → Root → Option Root → Type 0
MakesCopy es fs used others m r = m.used ≤ length others → Filled others 0 m.used → (t : Ty) → Is others m.used m.entry t → CopyOrNone es fs used t m r

-- the part on a side of the type needs n free entries: those of a union, or none where it is the type's own
pub data PartNeeds (s : Side) : Ty → ℕ → Type 0 where
  own_needs : {t p : Ty} → OwnPart s t p → PartNeeds s t 0
  union_needs : {t : Ty} {ts ps : Types} {n : ℕ} → OwnParts s (t and ts) ps → Needs ps n → PartNeeds s (union t ts) n

-- m is the part on a side of the type t, with its parts below m.used; those from used on are new
pub record PartMade (es : List TypeEntry) (used : ℕ) (side : Side) (t : Ty) (m : Root) : Type 0 where
  pub made : Ty
  pub is_part : PartOf side t made
  pub in_form : InForm made
  pub holds : Is es m.used m.entry made
  pub more : used ≤ m.used
  pub within : m.used ≤ length es
  pub light : m.used < used + weight made
  pub filled : Filled es used m.used
  pub fits : (n : ℕ) × PartNeeds side t n × (used + n ≤ length es)

-- the answer r: the part on a side of the type t in fs, that t has none, or that the entries that it needs do not fit in from used on
abbrev pub PartAnswer : List TypeEntry → List TypeEntry → ℕ → Side → Ty → Result (Option Root) NoRoom → Type 0
PartAnswer es fs used side t (Ok (Some m)) = PartMade fs used side t m
PartAnswer es fs used side t (Ok None) = (p : Ty) → PartOf side t p → ⊥
PartAnswer es fs used side t (Err e) = (n : ℕ) × PartNeeds side t n × (length es < used + n)

-- the part on a side of the type e, whose parts stand below used
abbrev pub MakesPart : List TypeEntry → List TypeEntry → ℕ → TypeEntry → Side → Result (Option Root) NoRoom → Type 0
MakesPart es fs used e side r = used ≤ length es → (t : Ty) → Is es used e t → InForm t → PartAnswer es fs used side t r

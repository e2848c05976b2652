-- Where the weight of a type fits in, making it does not fail. Assumes nothing.
use Rattle.std.proofs.Common.{◌≡◌, ℕ, ◌+◌, ◌≤◌, List, length, Some, None, Option, Ok, Err, Result, refl, subst, ⊎_elim, arith}
use Rattle.types.specs.declared.entries.TypeEntry.{TypeEntry}
use Rattle.types.specs.declared.entries.Root.{Root}
use Rattle.types.specs.Values.{Text}
use Rattle.types.specs.Types.{Ty, Types, string_literal, function, pair, list, count}
use Rattle.building.specs.declared.parts.Side.{Side}
use Rattle.building.specs.declared.parts.NoRoom.{NoRoom}
use Rattle.building.specs.HeadsAndTails.{PartOf, part_own, part_union}
use Rattle.building.specs.Unions.{UnionOf}
use Rattle.building.specs.Weights.{weight}
use Rattle.building.specs.Made.{Needs, TypeMade, TypeOrNone, FunctionOrNone, UnionMade, UnionOrNone, PartNeeds, own_needs, union_needs, PartMade, PartAnswer}
use Rattle.building.proofs.Closed.{some_weight, count_weights, needs_weigh}
use Rattle.building.proofs.OneUnion.{union_is_one, own_parts_one, no_own}

pub type_fits : (es fs : List TypeEntry) (used n : ℕ) (t : Ty) (r : Option Root) → TypeOrNone es fs used n t r → n ≤ weight t → used + weight t ≤ length es → (m : Root) × (r ≡ Some m) × TypeMade fs used t m
type_fits es fs used n t (Some m) h le room = (m, refl, h)
type_fits es fs used n t None h le room = absurd (omega arith)

pub function_fits : (es fs : List TypeEntry) (used : ℕ) (ts : Types) (t : Ty) (r : Option Root) → FunctionOrNone es fs used ts t r → count ts ≤ 8 → used + weight (function ts t) ≤ length es → (m : Root) × (r ≡ Some m) × TypeMade fs used (function ts t) m
function_fits es fs used ts t (Some m) h few room = (m, refl, h.1)
function_fits es fs used ts t None h few room =
    let v = count_weights ts in
    absurd (⊎_elim (λ many. omega arith) (λ short. omega arith) h)

pub union_fits : (es fs : List TypeEntry) (used : ℕ) (ts : Types) (t : Ty) (r : Option Root) → UnionOrNone es fs used ts r → UnionOf ts t → used + weight t ≤ length es → (m : Root) × (r ≡ Some m) × UnionMade fs used ts m
union_fits es fs used ts t (Some m) h u room = (m, refl, h)
union_fits es fs used ts t None h u room = let le = needs_weigh h.1 u in absurd (omega (arith, h.2))

-- a part needs no more entries than it weighs
pub part_needs : {side : Side} {t p : Ty} {n : ℕ} → PartNeeds side t n → PartOf side t p → n ≤ weight p
part_needs (own_needs x) o = omega arith
part_needs (union_needs x w) (part_own o) = absurd (no_own o)
part_needs {n} (union_needs x w) (part_union y u) = needs_weigh (subst (λ ps. Needs ps n) (own_parts_one x y) w) u

pub part_fits : (es fs : List TypeEntry) (used : ℕ) (side : Side) (t p : Ty) (r : Result (Option Root) NoRoom) → PartAnswer es fs used side t r → PartOf side t p → used + weight p ≤ length es → (m : Root) × (r ≡ Ok (Some m)) × PartMade fs used side t m
part_fits es fs used side t p (Ok None) h o room = absurd (h p o)
part_fits es fs used side t p (Err e) h o room = let le = part_needs h.1 o in absurd (omega (arith, h.2))
part_fits es fs used side t p (Ok (Some m)) h o room = (m, refl, h)

-- the union made is the union of the types
pub made_is : {es : List TypeEntry} {used : ℕ} {ts : Types} {m : Root} {t : Ty} (u : UnionMade es used ts m) → UnionOf ts t → u.made ≡ t
made_is u v = union_is_one u.is_union v

-- the makers ask for no more entries than the type weighs
pub string_needs : (s : Text) → length s.units ≤ weight (string_literal s)
string_needs s = omega arith

pub list_needs : (t : Ty) → 1 ≤ weight (list t)
list_needs t = omega arith

pub pair_needs : (a b : Ty) → 2 ≤ weight (pair a b)
pair_needs a b = let v = some_weight a in omega arith

pub function_needs : (ts : Types) (t : Ty) → count ts + 1 ≤ weight (function ts t)
function_needs ts t = let v = count_weights ts in omega arith

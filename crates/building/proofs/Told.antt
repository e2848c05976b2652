-- Whether two types are the same can be told. Assumes nothing.
use Rattle.std.proofs.Common.{◌≡◌, ℕ, ◌<◌, ◌⊎◌, List, [], ◌∷◌, get_or, ℤ, pos, negsuc, sym, refl, ap, ◌∙◌, subst, ap₂, inl, inr, ⊎_elim, arith}
use Rattle.std.proofs.lemmas.Bool.{cases_eq}
use Rattle.types.specs.Values.{Decimal, Text}
use Rattle.types.specs.Types.{Ty, Types, any, number, number_literal, string, string_literal, boolean, true_literal, false_literal, undefined, null, function, pair, list, union, no_types, ◌and◌}
use Rattle.types.proofs.Parts.{same_decimal, same_text}
use Rattle.building.specs.Unions.{In, in_first, in_other}
use Rattle.building.proofs.OneUnion.{first_or_other}

-- types without parts
unfoldable pub plains : List Ty
plains = any ∷ any ∷ number ∷ string ∷ boolean ∷ true_literal ∷ false_literal ∷ undefined ∷ null ∷ []

-- the number of a type without parts
unfoldable pub tag : Ty → ℕ
tag any = 1
tag number = 2
tag (number_literal d) = 0
tag string = 3
tag (string_literal s) = 0
tag boolean = 4
tag true_literal = 5
tag false_literal = 6
tag undefined = 7
tag null = 8
tag (function ps r) = 0
tag (pair a b) = 0
tag (list t) = 0
tag (union t ts) = 0

pub by_tag : (t : Ty) → 0 < tag t → t ≡ get_or plains (tag t) any
unfolding tag plains
by_tag any lt = refl
by_tag number lt = refl
by_tag (number_literal d) lt = absurd (omega arith)
by_tag string lt = refl
by_tag (string_literal s) lt = absurd (omega arith)
by_tag boolean lt = refl
by_tag true_literal lt = refl
by_tag false_literal lt = refl
by_tag undefined lt = refl
by_tag null lt = refl
by_tag (function ps r) lt = absurd (omega arith)
by_tag (pair a b) lt = absurd (omega arith)
by_tag (list t) lt = absurd (omega arith)
by_tag (union t ts) lt = absurd (omega arith)

abbrev Told : {A : Type 0} → A → A → Type 0
Told x y = (x ≡ y) ⊎ (x ≡ y → ⊥)

-- made by two constructors
apart : {A : Type 0} {x y : A} → (x ≡ y → ◌≡◌ {A = ℕ} 0 1) → Told x y
apart f = inr (λ e. let z : ◌≡◌ {A = ℕ} 0 1 = f e in omega arith)

-- numbers and code units
integers_told : (x y : ℤ) → Told x y
integers_told (pos m) (pos n) = ⊎_elim (λ e. inl (ap pos e)) (λ ne. inr (λ e. let f : m ≡ n = cc in ne f)) (cases_eq m n)
integers_told (pos m) (negsuc n) = apart (λ e. cc)
integers_told (negsuc m) (pos n) = apart (λ e. cc)
integers_told (negsuc m) (negsuc n) = ⊎_elim (λ e. inl (ap negsuc e)) (λ ne. inr (λ e. let f : m ≡ n = cc in ne f)) (cases_eq m n)

decimals_told : (c d : Decimal) → Told c d
decimals_told c d =
    ⊎_elim
    (λ p. ⊎_elim (λ q. inl (same_decimal c d p q)) (λ ne. inr (λ e. ne (ap (λ x. x.exponent) e))) (integers_told c.exponent d.exponent))
    (λ ne. inr (λ e. ne (ap (λ x. x.digits) e)))
    (cases_eq c.digits d.digits)

units_told : (us vs : List ℕ) → Told us vs
units_told [] [] = inl refl
units_told [] (v ∷ vs) = apart (λ e. cc)
units_told (u ∷ us) [] = apart (λ e. cc)
units_told (u ∷ us) (v ∷ vs) =
    ⊎_elim
    (λ p. ⊎_elim (λ q. inl (ap₂ ◌∷◌ p q)) (λ ne. inr (λ e. let f : us ≡ vs = cc in ne f)) (units_told us vs))
    (λ ne. inr (λ e. let f : u ≡ v = cc in ne f))
    (cases_eq u v)

-- the types with parts
data WithParts : Ty → Type 0 where
  number_parts : (d : Decimal) → WithParts (number_literal d)
  string_parts : (s : Text) → WithParts (string_literal s)
  function_parts : (ps : Types) (r : Ty) → WithParts (function ps r)
  pair_parts : (a b : Ty) → WithParts (pair a b)
  list_parts : (t : Ty) → WithParts (list t)
  union_parts : (t : Ty) (ts : Types) → WithParts (union t ts)

plain_or_not : (t : Ty) → (0 < tag t) ⊎ WithParts t
unfolding tag
plain_or_not any = inl (omega arith)
plain_or_not number = inl (omega arith)
plain_or_not (number_literal d) = inr (number_parts d)
plain_or_not string = inl (omega arith)
plain_or_not (string_literal s) = inr (string_parts s)
plain_or_not boolean = inl (omega arith)
plain_or_not true_literal = inl (omega arith)
plain_or_not false_literal = inl (omega arith)
plain_or_not undefined = inl (omega arith)
plain_or_not null = inl (omega arith)
plain_or_not (function ps r) = inr (function_parts ps r)
plain_or_not (pair a b) = inr (pair_parts a b)
plain_or_not (list t) = inr (list_parts t)
plain_or_not (union t ts) = inr (union_parts t ts)

-- a type without parts and any type
plain_told : (s t : Ty) → 0 < tag s → Told s t
plain_told s t some =
    ⊎_elim
    (λ e. inl (by_tag s some ∙ ap (λ k. get_or plains k any) e ∙ sym (by_tag t (omega arith))))
    (λ ne. inr (λ e. ne (ap tag e)))
    (cases_eq (tag s) (tag t))

-- a type with parts, which has no number, and any type: only those with parts are left
parts_told : (s t : Ty) → tag s ≡ 0 → (WithParts t → Told s t) → Told s t
parts_told s t none f = ⊎_elim (λ some. inr (λ e. let g : tag s ≡ tag t = ap tag e in omega arith)) f (plain_or_not t)

both_told : {a b c d : Ty} (f : Ty → Ty → Ty) → ((f a b ≡ f c d) → (a ≡ c) × (b ≡ d)) → Told a c → Told b d → Told (f a b) (f c d)
both_told f out p q = ⊎_elim (λ x. ⊎_elim (λ y. inl (ap₂ f x y)) (λ ne. inr (λ e. ne (out e).1)) q) (λ ne. inr (λ e. ne (out e).0)) p

number_told : (c : Decimal) {t : Ty} → WithParts t → Told (number_literal c) t
number_told c (number_parts d) = ⊎_elim (λ e. inl (ap number_literal e)) (λ ne. inr (λ e. let f : c ≡ d = cc in ne f)) (decimals_told c d)
number_told c (string_parts s) = apart (λ e. cc)
number_told c (function_parts ps r) = apart (λ e. cc)
number_told c (pair_parts a b) = apart (λ e. cc)
number_told c (list_parts t) = apart (λ e. cc)
number_told c (union_parts t ts) = apart (λ e. cc)

string_told : (x : Text) {t : Ty} → WithParts t → Told (string_literal x) t
string_told x (number_parts d) = apart (λ e. cc)
string_told x (string_parts y) = ⊎_elim (λ e. inl (ap string_literal (same_text x y e))) (λ ne. inr (λ e. let f : x ≡ y = cc in ne (ap (λ s. s.units) f))) (units_told x.units y.units)
string_told x (function_parts ps r) = apart (λ e. cc)
string_told x (pair_parts a b) = apart (λ e. cc)
string_told x (list_parts t) = apart (λ e. cc)
string_told x (union_parts t ts) = apart (λ e. cc)

function_told : (ps : Types) (r : Ty) → ((qs : Types) → Told ps qs) → ((t : Ty) → Told r t) → {t : Ty} → WithParts t → Told (function ps r) t
function_told ps r f g (number_parts d) = apart (λ e. cc)
function_told ps r f g (string_parts s) = apart (λ e. cc)
function_told ps r f g (function_parts qs q) =
    ⊎_elim
    (λ x. ⊎_elim (λ y. inl (ap₂ function x y)) (λ ne. inr (λ e. let h : r ≡ q = cc in ne h)) (g q))
    (λ ne. inr (λ e. let h : ps ≡ qs = cc in ne h))
    (f qs)
function_told ps r f g (pair_parts a b) = apart (λ e. cc)
function_told ps r f g (list_parts t) = apart (λ e. cc)
function_told ps r f g (union_parts t ts) = apart (λ e. cc)

pair_told : (a b : Ty) → ((t : Ty) → Told a t) → ((t : Ty) → Told b t) → {t : Ty} → WithParts t → Told (pair a b) t
pair_told a b f g (number_parts d) = apart (λ e. cc)
pair_told a b f g (string_parts s) = apart (λ e. cc)
pair_told a b f g (function_parts qs q) = apart (λ e. cc)
pair_told a b f g (pair_parts c d) = both_told pair (λ e. (cc, cc)) (f c) (g d)
pair_told a b f g (list_parts t) = apart (λ e. cc)
pair_told a b f g (union_parts t ts) = apart (λ e. cc)

list_told : (a : Ty) → ((t : Ty) → Told a t) → {t : Ty} → WithParts t → Told (list a) t
list_told a f (number_parts d) = apart (λ e. cc)
list_told a f (string_parts s) = apart (λ e. cc)
list_told a f (function_parts qs q) = apart (λ e. cc)
list_told a f (pair_parts c d) = apart (λ e. cc)
list_told a f (list_parts t) = ⊎_elim (λ e. inl (ap list e)) (λ ne. inr (λ e. let h : a ≡ t = cc in ne h)) (f t)
list_told a f (union_parts t ts) = apart (λ e. cc)

union_told : (a : Ty) (as' : Types) → ((t : Ty) → Told a t) → ((ts : Types) → Told as' ts) → {t : Ty} → WithParts t → Told (union a as') t
union_told a as' f g (number_parts d) = apart (λ e. cc)
union_told a as' f g (string_parts s) = apart (λ e. cc)
union_told a as' f g (function_parts qs q) = apart (λ e. cc)
union_told a as' f g (pair_parts c d) = apart (λ e. cc)
union_told a as' f g (list_parts t) = apart (λ e. cc)
union_told a as' f g (union_parts t ts) =
    ⊎_elim
    (λ x. ⊎_elim (λ y. inl (ap₂ union x y)) (λ ne. inr (λ e. let h : as' ≡ ts = cc in ne h)) (g ts))
    (λ ne. inr (λ e. let h : a ≡ t = cc in ne h))
    (f t)

none_told : (ts : Types) → Told no_types ts
none_told no_types = inl refl
none_told (t and ts) = apart (λ e. cc)

some_told : (s : Ty) (ss : Types) → ((t : Ty) → Told s t) → ((ts : Types) → Told ss ts) → (ts : Types) → Told (s and ss) ts
some_told s ss f g no_types = apart (λ e. cc)
some_told s ss f g (t and ts) =
    ⊎_elim
    (λ x. ⊎_elim (λ y. inl (ap₂ ◌and◌ x y)) (λ ne. inr (λ e. let h : ss ≡ ts = cc in ne h)) (g ts))
    (λ ne. inr (λ e. let h : s ≡ t = cc in ne h))
    (f t)

mutual
  unfolding tag

  pub type_told : (s t : Ty) → (s ≡ t) ⊎ (s ≡ t → ⊥)
  type_told any t = plain_told any t (omega arith)
  type_told number t = plain_told number t (omega arith)
  type_told (number_literal d) t = parts_told (number_literal d) t refl (λ w. number_told d w)
  type_told string t = plain_told string t (omega arith)
  type_told (string_literal s) t = parts_told (string_literal s) t refl (λ w. string_told s w)
  type_told boolean t = plain_told boolean t (omega arith)
  type_told true_literal t = plain_told true_literal t (omega arith)
  type_told false_literal t = plain_told false_literal t (omega arith)
  type_told undefined t = plain_told undefined t (omega arith)
  type_told null t = plain_told null t (omega arith)
  type_told (function ps r) t = parts_told (function ps r) t refl (λ w. function_told ps r (types_told ps) (type_told r) w)
  type_told (pair a b) t = parts_told (pair a b) t refl (λ w. pair_told a b (type_told a) (type_told b) w)
  type_told (list a) t = parts_told (list a) t refl (λ w. list_told a (type_told a) w)
  type_told (union a as') t = parts_told (union a as') t refl (λ w. union_told a as' (type_told a) (types_told as') w)

  types_told : (ss ts : Types) → Told ss ts
  types_told no_types ts = none_told ts
  types_told (s and ss) ts = some_told s ss (type_told s) (types_told ss) ts

-- whether a type is one of a list
pub in_told : (t : Ty) (ts : Types) → In t ts ⊎ (In t ts → ⊥)
in_told t no_types = inr (λ i. elim i [ ])
in_told t (u and ts) =
    ⊎_elim
    (λ i. inl (in_other i))
    (λ ne. ⊎_elim (λ e. inl (subst (λ x. In t (x and ts)) e in_first)) (λ nq. inr (λ i. ⊎_elim nq ne (first_or_other i))) (type_told t u))
    (in_told t ts)

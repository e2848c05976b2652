-- What the verdict on two kinds says is so of their types. Assumes nothing.
use Rattle.std.proofs.Common.{◌≡◌, ℕ, zero, suc, ◌<◌, Bool, true, false, cond, ◌&&◌, ◌||◌, List as Listing, [], ◌∷◌, length, get_or, sym, refl, ap, ◌∙◌, subst, subst₂, ⊎_elim, le_of_suc-le-suc, not-suc-le-zero, arith, lit<}
use Rattle.std.proofs.lemmas.Bool.{and_parts, or_cases, or_parts, both_ways}
use Rattle.types.specs.declared.kinds.Kind.{Kind}
use Rattle.types.specs.declared.kinds.Kind.TheVariants.{Number, NumberLiteral, String, StringLiteral, Boolean, True, False, Undefined, Null, Function, Pair, List}
use Rattle.types.specs.declared.kinds.Verdict.TheVariants.{Meet, Never, ByParts}
use Rattle.types.specs.Values.{Value, Decimal, Text, a_number, a_string, the_true, the_false, the_undefined, the_null, a_function, a_pair}
use Rattle.types.specs.Types as types
use Rattle.types.specs.Types.{Ty, Types, no_types, ◌and◌, any, number, number_literal, string_literal, null, function, pair, list, count, Belongs, in_number, in_number_literal, in_string, in_string_literal, true_in_boolean, false_in_boolean, in_true, in_false, in_undefined, in_null, in_function, in_pair, null_in_list, pair_in_list}
use Rattle.types.specs.Kinds.{OfKind, number_kind, number_literal_kind, string_kind, string_literal_kind, boolean_kind, true_kind, false_kind, undefined_kind, null_kind, function_kind, pair_kind, list_kind, Class, numbers, strings, trues, falses, undefineds, nulls, functions, pairs, class_of, ◌isKind◌, whole, part, has, classes, some, sure, unsure, verdict, Says}
use Rattle.types.proofs.Verdicts.{same_rank}
use Rattle.types.proofs.Inhabited.{inhabited, one, two, empty, single}

-- a type of kind k is of kind l, where the two are the same
pub of_kind : {s : Ty} {k : Kind} (l : Kind) → (k isKind l) ≡ true → OfKind s k → OfKind s l
of_kind {s} {k} l t o = subst (OfKind s) (same_rank k l t) o

-- a value of a type is of a class of which the type's kind has values
covers : {s : Ty} {k : Kind} {v : Value} → OfKind s k → Belongs v s → has (class_of v) k ≡ true
covers number_kind in_number = refl
covers number_literal_kind in_number_literal = refl
covers string_kind in_string = refl
covers string_literal_kind in_string_literal = refl
covers boolean_kind true_in_boolean = refl
covers boolean_kind false_in_boolean = refl
covers true_kind in_true = refl
covers false_kind in_false = refl
covers undefined_kind in_undefined = refl
covers null_kind in_null = refl
covers function_kind (in_function e) = refl
covers pair_kind (in_pair p q) = refl
covers list_kind null_in_list = refl
covers list_kind (pair_in_list p q) = refl

-- a type of a kind that has every value of a class has each
all_numbers : {s : Ty} {d : Decimal} → OfKind s Number → Belongs (a_number d) s
all_numbers number_kind = in_number

all_strings : {s : Ty} {x : Text} → OfKind s String → Belongs (a_string x) s
all_strings string_kind = in_string

boolean_true : {s : Ty} → OfKind s Boolean → Belongs the_true s
boolean_true boolean_kind = true_in_boolean

boolean_false : {s : Ty} → OfKind s Boolean → Belongs the_false s
boolean_false boolean_kind = false_in_boolean

the_true_kind : {s : Ty} → OfKind s True → Belongs the_true s
the_true_kind true_kind = in_true

the_false_kind : {s : Ty} → OfKind s False → Belongs the_false s
the_false_kind false_kind = in_false

the_undefined_kind : {s : Ty} → OfKind s Undefined → Belongs the_undefined s
the_undefined_kind undefined_kind = in_undefined

the_null_kind : {s : Ty} → OfKind s Null → Belongs the_null s
the_null_kind null_kind = in_null

null_of_list : {s : Ty} → OfKind s List → Belongs the_null s
null_of_list list_kind = null_in_list

whole_all : {s : Ty} {k : Kind} (v : Value) → whole (class_of v) k ≡ true → OfKind s k → Belongs v s
whole_all (a_number d) t o = all_numbers (of_kind Number t o)
whole_all (a_string x) t o = all_strings (of_kind String t o)
whole_all {s} {k} the_true t o = ⊎_elim (λ p. boolean_true (of_kind Boolean p o)) (λ p. the_true_kind (of_kind True p o)) (or_cases (k isKind Boolean) (k isKind True) t)
whole_all {s} {k} the_false t o = ⊎_elim (λ p. boolean_false (of_kind Boolean p o)) (λ p. the_false_kind (of_kind False p o)) (or_cases (k isKind Boolean) (k isKind False) t)
whole_all the_undefined t o = the_undefined_kind (of_kind Undefined t o)
whole_all {s} {k} the_null t o = ⊎_elim (λ p. the_null_kind (of_kind Null p o)) (λ p. null_of_list (of_kind List p o)) (or_cases (k isKind Null) (k isKind List) t)
whole_all (a_function n) t o = absurd (both_ways false refl t)
whole_all (a_pair v w) t o = absurd (both_ways false refl t)

-- a type of a kind that has values of a class has one
SomeOf : Class → Ty → Type 0
SomeOf c s = (v : Value) × (class_of v ≡ c) × Belongs v s

some_number : {s : Ty} → OfKind s NumberLiteral → SomeOf numbers s
unfolding SomeOf
some_number (number_literal_kind {d}) = (a_number d, refl, in_number_literal)

some_string : {s : Ty} → OfKind s StringLiteral → SomeOf strings s
unfolding SomeOf
some_string (string_literal_kind {s = x}) = (a_string x, refl, in_string_literal)

some_function : {s : Ty} → OfKind s Function → SomeOf functions s
unfolding SomeOf
some_function (function_kind {ps}) = (a_function (count ps), refl, in_function refl)

some_pair : {s : Ty} → OfKind s Pair → SomeOf pairs s
unfolding SomeOf
some_pair (pair_kind {a} {b}) = (a_pair (inhabited a).0 (inhabited b).0, refl, in_pair (inhabited a).1 (inhabited b).1)

some_list : {s : Ty} → OfKind s List → SomeOf pairs s
unfolding SomeOf
some_list (list_kind {t}) = (a_pair (inhabited t).0 the_null, refl, pair_in_list (inhabited t).1 null_in_list)

part_some : {s : Ty} {k : Kind} (c : Class) → part c k ≡ true → OfKind s k → SomeOf c s
part_some numbers t o = some_number (of_kind NumberLiteral t o)
part_some strings t o = some_string (of_kind StringLiteral t o)
part_some trues t o = absurd (both_ways false refl t)
part_some falses t o = absurd (both_ways false refl t)
part_some undefineds t o = absurd (both_ways false refl t)
part_some nulls t o = absurd (both_ways false refl t)
part_some functions t o = some_function (of_kind Function t o)
part_some {s} {k} pairs t o = ⊎_elim (λ p. some_pair (of_kind Pair p o)) (λ p. some_list (of_kind List p o)) (or_cases (k isKind Pair) (k isKind List) t)

-- some value of each class
sample : Class → Value
sample numbers = a_number one
sample strings = a_string empty
sample trues = the_true
sample falses = the_false
sample undefineds = the_undefined
sample nulls = the_null
sample functions = a_function 0
sample pairs = a_pair the_null the_null

sample_class : (c : Class) → class_of (sample c) ≡ c
unfolding sample
sample_class numbers = refl
sample_class strings = refl
sample_class trues = refl
sample_class falses = refl
sample_class undefineds = refl
sample_class nulls = refl
sample_class functions = refl
sample_class pairs = refl

whole_some : {s : Ty} {k : Kind} (c : Class) → whole c k ≡ true → OfKind s k → SomeOf c s
unfolding SomeOf
whole_some {s} {k} c t o = (sample c, sample_class c, whole_all (sample c) (subst (λ d. whole d k ≡ true) (sym (sample_class c)) t) o)

has_some : {s : Ty} {k : Kind} (c : Class) → has c k ≡ true → OfKind s k → SomeOf c s
has_some {s} {k} c t o = ⊎_elim (λ p. whole_some c p o) (λ p. part_some c p o) (or_cases (whole c k) (part c k) t)

-- a class at which a test passes, and a test that passes at none
some_class : (f : Class → Bool) (cs : Listing Class) → some f cs ≡ true → (c : Class) × (f c ≡ true)
some_class f [] t = absurd (both_ways false refl t)
some_class f (c ∷ cs) t = ⊎_elim (λ p. (c, p)) (λ p. some_class f cs p) (or_cases (f c) (some f cs) t)

none_at : (f : Class → Bool) (cs : Listing Class) → some f cs ≡ false → (n : ℕ) → n < length cs → f (get_or cs n numbers) ≡ false
none_at f [] t n h = absurd (not-suc-le-zero h)
none_at f (c ∷ cs) t zero h = (or_parts (f c) (some f cs) t).0
none_at f (c ∷ cs) t (suc n) h = none_at f cs (or_parts (f c) (some f cs) t).1 n (le_of_suc-le-suc h)

no_class : (f : Class → Bool) → some f classes ≡ false → (c : Class) → f c ≡ false
no_class f t numbers = none_at f classes t 0 (lit< tt)
no_class f t strings = none_at f classes t 1 (lit< tt)
no_class f t trues = none_at f classes t 2 (lit< tt)
no_class f t falses = none_at f classes t 3 (lit< tt)
no_class f t undefineds = none_at f classes t 4 (lit< tt)
no_class f t nulls = none_at f classes t 5 (lit< tt)
no_class f t functions = none_at f classes t 6 (lit< tt)
no_class f t pairs = none_at f classes t 7 (lit< tt)

-- one kind has every value of a class, the other some: they meet
by_class : {s t : Ty} {a b : Kind} (c : Class) → whole c a ≡ true → has c b ≡ true → OfKind s a → OfKind t b → types.Meet s t
unfolding SomeOf
by_class {s} {t} {a} {b} c w h os ot =
    let x : SomeOf c t = has_some c h ot in
    (x.0, whole_all x.0 (subst (λ d. whole d a ≡ true) (sym x.1) w) os, x.2)

pub swapped : {s t : Ty} → types.Meet s t → types.Meet t s
swapped m = (m.0, m.2, m.1)

sure_meet : (a b : Kind) → sure a b ≡ true → (s t : Ty) → OfKind s a → OfKind t b → types.Meet s t
sure_meet a b t x y ox oy =
    let f : Class → Bool = λ c. (whole c a && has c b) || (has c a && whole c b) in
    let found = some_class f classes t in
    let c = found.0 in
    ⊎_elim
    (λ p. let q = and_parts (whole c a) (has c b) p in by_class c q.0 q.1 ox oy)
    (λ p. let q = and_parts (has c a) (whole c b) p in swapped (by_class c q.1 q.0 oy ox))
    (or_cases (whole c a && has c b) (has c a && whole c b) found.1)

-- both have values of a class, but neither sure nor unsure says so
apart : (wa pa wb pb : Bool) → ((wa && (wb || pb)) || ((wa || pa) && wb)) ≡ false → (pa && pb) ≡ false → (wa || pa) ≡ true → (wb || pb) ≡ true → ⊥
apart true pa true pb p q r s = both_ways true p refl
apart true pa false true p q r s = both_ways true p refl
apart true pa false false p q r s = both_ways false refl s
apart false true true pb p q r s = both_ways true p refl
apart false true false true p q r s = both_ways true q refl
apart false true false false p q r s = both_ways false refl s
apart false false wb pb p q r s = both_ways false refl r

never_meet : (a b : Kind) → sure a b ≡ false → unsure a b ≡ false → (s t : Ty) → OfKind s a → OfKind t b → types.Meet s t → ⊥
never_meet a b p q s t os ot m =
    let c = class_of m.0 in
    apart (whole c a) (part c a) (whole c b) (part c b) (no_class (λ c. (whole c a && has c b) || (has c a && whole c b)) p c) (no_class (λ c. part c a && part c b) q c) (covers os m.1) (covers ot m.2)

-- kinds that have parts of one class: some of their types meet, and some do not
pub same_number : {d e : Decimal} → types.Meet (number_literal d) (number_literal e) → d ≡ e
same_number m = both m.1 m.2
  where
    both : {v : Value} {d e : Decimal} → Belongs v (number_literal d) → Belongs v (number_literal e) → d ≡ e
    both in_number_literal in_number_literal = refl

pub same_string : {x y : Text} → types.Meet (string_literal x) (string_literal y) → x ≡ y
same_string m = both m.1 m.2
  where
    both : {v : Value} {x y : Text} → Belongs v (string_literal x) → Belongs v (string_literal y) → x ≡ y
    both in_string_literal in_string_literal = refl

pub same_count : {ps qs : Types} {r u : Ty} → types.Meet (function ps r) (function qs u) → count ps ≡ count qs
same_count m = both m.1 m.2
  where
    both : {v : Value} {ps qs : Types} {r u : Ty} → Belongs v (function ps r) → Belongs v (function qs u) → count ps ≡ count qs
    both (in_function p) (in_function q) = p ∙ sym q

numbers_depend : Says NumberLiteral NumberLiteral ByParts
unfolding one two
numbers_depend = (
  (number_literal one, number_literal one, number_literal_kind, number_literal_kind, (a_number one, in_number_literal, in_number_literal)),
  (number_literal one, number_literal two, number_literal_kind, number_literal_kind, λ m. let e : ◌≡◌ {A = ℕ} 1 2 = ap (λ d. d.digits) (same_number m) in omega arith),
)

strings_depend : Says StringLiteral StringLiteral ByParts
unfolding empty single
strings_depend = (
  (string_literal empty, string_literal empty, string_literal_kind, string_literal_kind, (a_string empty, in_string_literal, in_string_literal)),
  (string_literal empty, string_literal single, string_literal_kind, string_literal_kind, λ m. let e : ◌≡◌ {A = ℕ} 0 1 = ap (λ x. length x.units) (same_string m) in omega arith),
)

functions_depend : Says Function Function ByParts
functions_depend = (
  (function no_types any, function no_types any, function_kind, function_kind, (a_function 0, in_function refl, in_function refl)),
  (function no_types any, function (any and no_types) any, function_kind, function_kind, λ m. let e : ◌≡◌ {A = ℕ} 0 1 = same_count m in omega arith),
)

abbrev nulls_pair : Value
nulls_pair = a_pair the_null the_null

pair_pair_apart : types.Meet (pair number number) (pair null null) → ⊥
pair_pair_apart m = both m.1 m.2
  where
    head : {v : Value} → Belongs v number → Belongs v null → ⊥
    head in_number p = elim p [ ]

    both : {v : Value} → Belongs v (pair number number) → Belongs v (pair null null) → ⊥
    both (in_pair p q) (in_pair r s) = head p r

pair_list_apart : types.Meet (pair number number) (list null) → ⊥
pair_list_apart m = both m.1 m.2
  where
    head : {v : Value} → Belongs v number → Belongs v null → ⊥
    head in_number p = elim p [ ]

    both : {v : Value} → Belongs v (pair number number) → Belongs v (list null) → ⊥
    both (in_pair p q) (pair_in_list r s) = head p r

pair_pair_depend : Says Pair Pair ByParts
pair_pair_depend = (
  (pair null null, pair null null, pair_kind, pair_kind, (nulls_pair, in_pair in_null in_null, in_pair in_null in_null)),
  (pair number number, pair null null, pair_kind, pair_kind, pair_pair_apart),
)

pair_list_depend : Says Pair List ByParts
pair_list_depend = (
  (pair null null, list null, pair_kind, list_kind, (nulls_pair, in_pair in_null in_null, pair_in_list in_null null_in_list)),
  (pair number number, list null, pair_kind, list_kind, pair_list_apart),
)

list_pair_depend : Says List Pair ByParts
list_pair_depend =
    let p = pair_list_depend in (
      (p.0.1, p.0.0, p.0.3, p.0.2, swapped p.0.4),
      (p.1.1, p.1.0, p.1.3, p.1.2, λ m. p.1.4 (swapped m)),
    )

at_kinds : {a b : Kind} (k l : Kind) → (a isKind k) ≡ true → (b isKind l) ≡ true → Says k l ByParts → Says a b ByParts
at_kinds {a} {b} k l p q d = subst₂ (λ x y. Says x y ByParts) (sym (same_rank a k p)) (sym (same_rank b l q)) d

depends : (a b : Kind) → sure a b ≡ false → (c : Class) → part c a ≡ true → part c b ≡ true → Says a b ByParts
depends a b n numbers p q = at_kinds NumberLiteral NumberLiteral p q numbers_depend
depends a b n strings p q = at_kinds StringLiteral StringLiteral p q strings_depend
depends a b n trues p q = absurd (both_ways false refl p)
depends a b n falses p q = absurd (both_ways false refl p)
depends a b n undefineds p q = absurd (both_ways false refl p)
depends a b n nulls p q = absurd (both_ways false refl p)
depends a b n functions p q = at_kinds Function Function p q functions_depend
depends a b n pairs p q =
    ⊎_elim
    (λ p. ⊎_elim (λ q. at_kinds Pair Pair p q pair_pair_depend) (λ q. at_kinds Pair List p q pair_list_depend) (or_cases (b isKind Pair) (b isKind List) q))
    (λ p. ⊎_elim (λ q. at_kinds List Pair p q list_pair_depend) (λ q. absurd (both_ways (sure List List) (subst₂ (λ x y. sure x y ≡ false) (same_rank a List p) (same_rank b List q) n) refl)) (or_cases (b isKind Pair) (b isKind List) q))
    (or_cases (a isKind Pair) (a isKind List) p)

go : (a b : Kind) (x y : Bool) → sure a b ≡ x → unsure a b ≡ y → Says a b (cond x Meet (cond y ByParts Never))
go a b true y p q = sure_meet a b p
go a b false true p q =
    let found = some_class (λ c. part c a && part c b) classes q in
    let both = and_parts (part found.0 a) (part found.0 b) found.1 in
    depends a b p found.0 both.0 both.1
go a b false false p q = never_meet a b p q

-- the verdict says what is so
pub says : (a b : Kind) → Says a b (verdict a b)
says a b = go a b (sure a b) (unsure a b) refl refl

-- Types without parts in hand, and the forms of the rules' types. Assumes nothing.
use Rattle.std.proofs.Common.{◌≡◌, ℕ, List, Some, None, Ok, Result, Option, sym, refl, subst, inl, arith, lit<}
use Rattle.types.specs.declared.entries.TypeEntry.{TypeEntry}
use Rattle.types.specs.Values.{Decimal}
use Rattle.types.specs.Types.{Ty, any, number, number_literal, string, no_types, ◌and◌}
use Rattle.types.specs.declared.kinds.Kind.TheVariants.{Number, String}
use Rattle.types.specs.Kinds.{number_kind, string_kind}
use Rattle.types.specs.Table.{Is}
use Rattle.types.specs.declared.entries.Root.{Root}
use Rattle.building.specs.Unions.{UnionOf, union_more, brings_none, brings_itself, In, in_first, in_other, Precedes, order_none, order_more}
use Rattle.building.specs.Literals.{Numeral, GivesNumber}
use Rattle.building.proofs.Filled.{filled_none}
use Rattle.building.proofs.OneUnion.{in_none}
use Rattle.building.proofs.LiteralsMade.{literal_laws}
use Rattle.registers.specs.declared.told.Told.{Told}
use Rattle.registers.specs.Meaning.{Binding, typed, scheme, Meaning}
use Rattle.registers.specs.Telling.{MadeIn, Tells}
use Rattle.parser.specs.declared.symbols.Leaf.{Leaf}
use Rattle.building.proofs.Closed.{some_weight}
use Rattle.checker.specs.declared.store.Store.{Store}
use Rattle.checker.specs.declared.store.TooHeavy.{TooHeavy}
use Rattle.checker.specs.Conditions.{Condition}
use Rattle.checker.specs.Rules.{part, type_of, number_or_string, LeafRule, a_number, a_string, a_true, a_false, a_null, a_name}
use Rattle.checker.specs.Makings.{LiteralForm}
use Rattle.checker.specs.Stores.{entries, Tabled, Ready}

-- a type whose parts stand below used is in hand
pub plain_ready : (s : Store) {ts : List Ty} (e : TypeEntry) (t : Ty) → Tabled s ts → Is (entries s) s.used e t → Ready s s t (Ok (record { entry = e; used = s.used }))
plain_ready s e t tabled h =
    let some = some_weight t in
    record {
      used = refl;
      count = refl;
      load = refl;
      long = refl;
      kept = λ j l. refl;
      heads = λ j l. refl;
      in_hand = record { holds = h; more = omega arith; light = omega arith; within = omega (arith, tabled.light, tabled.within); filled = filled_none (entries s) s.used };
    }

pub plain_as : (s : Store) {ts : List Ty} (e : TypeEntry) (t u : Ty) {m : Root} → m ≡ record { entry = e; used = s.used } → u ≡ t → Tabled s ts → Is (entries s) s.used e t → Ready s s u (Ok m)
plain_as s e t u same q tabled h = subst (λ m. Ready s s u (Ok m)) (sym same) (subst (λ x. Ready s s x (Ok (record { entry = e; used = s.used }))) (sym q) (plain_ready s e t tabled h))

pub ready_as : (s r : Store) (m : Result Root TooHeavy) {t u : Ty} → u ≡ t → Ready s r t m → Ready s r u m
ready_as s r m q h = subst (λ x. Ready s r x m) (sym q) h

-- `number | string` is the union of its two members
pub both_kinds : UnionOf (number and string and no_types) number_or_string
both_kinds = union_more (brings_itself number_kind (brings_itself string_kind brings_none)) (record { all = λ t i. i; only = λ t i. i; in_order = order_more first (order_more (λ u i. absurd (in_none i)) order_none) })
  where
    first : (u : Ty) → In u (string and no_types) → Precedes (number and string and no_types) number u
    first _ in_first = (Number, String, number_kind, string_kind, inl (lit< tt))
    first u (in_other i) = absurd (in_none i)

-- a number as it is written
pub number_ready : (s : Store) {ts : List Ty} (text : List ℕ) (e : TypeEntry) (d : Decimal) {m : Root} → m ≡ record { entry = e; used = s.used } → Tabled s ts → Numeral text d → GivesNumber text (Some e) → Ready s s (number_literal d) (Ok m)
number_ready s text e d same tabled n g =
    plain_as s e (number_literal d) (number_literal d) same refl tabled (subst (λ x. Is (entries s) s.used e (number_literal x)) (literal_laws.0 text g.number d g.numeral n) (g.holds (entries s) s.used))

literal_form : {sheet : List ℕ} {Γ : Meaning} {p n : ℕ} {l : Leaf} {t : Ty} {cs : List Condition} → LeafRule sheet Γ p n l t cs → LiteralForm l (part sheet p n) t
literal_form (a_number h) = (_, h, refl)
literal_form (a_string h) = (_, h, refl)
literal_form a_true = refl
literal_form a_false = refl
literal_form a_null = refl
literal_form a_name = tt

pub as_literal : (sheet : List ℕ) (Γ : Meaning) (p n : ℕ) (text : List ℕ) (t : Ty) (cs : List Condition) {l r : Leaf} → l ≡ r → text ≡ part sheet p n → LeafRule sheet Γ p n l t cs → LiteralForm r text t
as_literal sheet Γ p n text t cs {l} e same rule = subst (λ x. LiteralForm x text t) e (subst (λ x. LiteralForm l x t) (sym same) (literal_form rule))

-- what a register told is no type, or a type

pub told_any : (o : Option Binding) (found : Option Told) (room : List TypeEntry) → Tells o found room → ((m : Root) → found ≡ Some (Told.Typed m) → ⊥) → type_of o ≡ any
told_any None found room h no-type = refl
told_any (Some (scheme s)) found room h no-type = refl
told_any (Some (typed t)) found room h no-type = absurd (no-type h.0 h.1)

pub told_typed : (o : Option Binding) (found : Option Told) (m : Root) (room : List TypeEntry) → Tells o found room → found ≡ Some (Told.Typed m) → MadeIn room (type_of o) m
told_typed None found m room h e = let z : ◌≡◌ {A = ℕ} 0 1 = cc in absurd (omega arith)
told_typed (Some (scheme s)) found m room h e = let z : ◌≡◌ {A = ℕ} 0 1 = cc in absurd (omega arith)
told_typed (Some (typed t)) found m room h e = let same : h.0 ≡ m = cc in subst (MadeIn room t) same h.2

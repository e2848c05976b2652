-- The expressions of the sheets, their types and their findings. Assumes nothing.
use Rattle.std.proofs.Common.{◌≡◌, ℕ, List, [], ◌∷◌, ◌++◌, Some, None, codes, sym, refl, subst, ap₂, inl, arith, lit<, lit≤}
use Rattle.types.specs.declared.kinds.Kind.TheVariants.{NumberLiteral, StringLiteral}
use Rattle.types.specs.Values.{Decimal, Text, Value, a_number, the_true}
use Rattle.types.specs.Types.{Ty, any, number, number_literal, string_literal, boolean, union, no_types, ◌and◌, Belongs, Meet, in_number, in_number_literal, in_string_literal, true_in_boolean, in_true, in_union, to_first}
use Rattle.types.specs.Kinds.{OfKind, number_literal_kind, string_literal_kind}
use Rattle.lexer.specs.Strings.{Plain}
use Rattle.building.specs.Unions.{UnionOf, brings_none, brings_itself, Precedes, order_none, order_more, union_more}
use Rattle.building.specs.Literals.{Numeral}
use Rattle.building.proofs.InOneForm.{the_only}
use Rattle.registers.specs.Meaning.{Binding, Meaning}
use Rattle.parser.specs.declared.symbols.Leaf.TheVariants.{Number, Text as AText, Name, True}
use Rattle.parser.specs.declared.symbols.Operator.TheVariants.{Add, Less}
use Rattle.parser.specs.Syntax.{Expr, leaf, binary, choice}
use Rattle.checker.specs.declared.finding.Kind.TheVariants.{Clash, UnknownName}
use Rattle.checker.specs.declared.finding.Finding.{Finding}
use Rattle.checker.specs.Conditions.{Compare, Comparable, bound}
use Rattle.checker.specs.Rules as rules
use Rattle.checker.specs.Rules.{type_of, LeafRule, a_string, a_true, a_name, by_less, is_number_literal, Open, comparison, left_number, right_number, Note, Typed, typed_leaf, typed_binary, typed_choice, AllTyped, typed_none, typed_more, conditions}
use Rattle.checker.specs.Findings.{Findings, none, met, unmet}
use Rattle.checker.proofs.Typings.{one_typing, one_typing_of_all}
use Rattle.checker.proofs.Unmet.{findings_tell_lem}
use Rattle.cases.specs.Tried.{OfTypes, Told, no_statement, statement, at}
use Rattle.cases.proofs.Fronts.{plain_byte, one_unit}
use Rattle.cases.proofs.Numerals.{digit, digit_numeral}
use Rattle.cases.proofs.Parsed.{Reading}

same_types : {sheet : List ℕ} {Γ : Meaning} {es : List Expr} {ts us : List Ty} → OfTypes sheet Γ es ts → OfTypes sheet Γ es us → us ≡ ts
same_types no_statement no_statement = refl
same_types (statement d x) (statement e y) = ap₂ (λ t ts. t ∷ ts) (sym (one_typing d e).0) (same_types x y)

-- a sheet that is one program, with its types and findings
pub told : {sheet : List ℕ} {Γ : Meaning} {es : List Expr} {ts : List Ty} {ns : List Note} {found : List Finding} → Reading sheet es → OfTypes sheet Γ es ts → AllTyped sheet Γ es ns → Findings (conditions ns) found → Told sheet Γ ts found
told {found = found} r x d f = record {
  program = _;
  readable = r;
  types = x;
  notes = _;
  typed = d;
  findings = f;
  only_types = λ us y. same_types x y;
  only_findings = λ ns fs e g. findings_tell_lem.0 _ fs found (subst (λ ms. Findings (conditions ms) fs) (one_typing_of_all e d) g) f;
}

-- a sheet of one statement
told_one : {sheet : List ℕ} {Γ : Meaning} {e : Expr} {t : Ty} {ns : List Note} {found : List Finding} → Reading sheet (e ∷ []) → Typed sheet Γ e t ns → Findings (conditions (ns ++ [])) found → Told sheet Γ (t ∷ []) found
told_one r d f = told r (statement d no_statement) (typed_more d typed_none) f

abbrev pub one : Decimal
one = digit 49 refl

abbrev pub two : Decimal
two = digit 50 refl

abbrev pub three : Decimal
three = digit 51 refl

pub one_numeral : Numeral (codes "1") one
one_numeral = digit_numeral 49 refl refl (omega arith) (omega arith)

pub two_numeral : Numeral (codes "2") two
two_numeral = digit_numeral 50 refl refl (omega arith) (omega arith)

pub three_numeral : Numeral (codes "3") three
three_numeral = digit_numeral 51 refl refl (omega arith) (omega arith)

abbrev pub a : Text
a = record { units = codes "a"; fit = refl }

abbrev pub five : Text
five = record { units = codes "5"; fit = refl }

pub plain_a : Plain 34 97
plain_a = plain_byte 97 refl refl (lit≤ tt) (lit≤ tt)

pub plain_five : Plain 34 53
plain_five = plain_byte 53 refl refl (lit≤ tt) (lit≤ tt)

text_number : {v : Value} {s : Text} → Belongs v (string_literal s) → Belongs v number → ⊥
text_number in_string_literal q = elim q [ ]

no_meet : {s : Text} → Meet (string_literal s) number → ⊥
no_meet m = text_number m.1 m.2

uncomparable : {v w : Value} {s : Text} {d : Decimal} → Belongs v (string_literal s) → Belongs w (number_literal d) → Comparable v w → ⊥
uncomparable in_string_literal in_number_literal c = elim c [ ]

no_compare : {s : Text} {d : Decimal} → Compare (string_literal s) (number_literal d) → ⊥
no_compare c = uncomparable c.of_one c.of_other c.can

-- a number literal and then a string literal
abbrev pub either : Decimal → Text → Ty
either d s = union (number_literal d) (string_literal s and no_types)

either_of : {d : Decimal} {s : Text} → UnionOf (number_literal d and string_literal s and no_types) (either d s)
either_of {d} {s} =
    union_more
    (brings_itself number_literal_kind (brings_itself string_literal_kind brings_none))
    (record { all = λ t i. i; only = λ t i. i; in_order = order_more (λ u i. first_one (the_only i)) (order_more (λ u i. elim i [ ]) order_none) })
  where
    first_one : {u : Ty} → u ≡ string_literal s → Precedes (number_literal d and string_literal s and no_types) (number_literal d) u
    first_one e = (NumberLiteral, StringLiteral, number_literal_kind, subst (λ x. OfKind x StringLiteral) (sym e) string_literal_kind, inl (lit< tt))

either_open : {d : Decimal} {s : Text} → Open (either d s)
either_open = record { no_number = λ x. elim x [ ]; no_string = λ x. elim x [ ] }

abbrev pub sum_sheet : List ℕ
sum_sheet = codes "1 + \"a\";"

abbrev pub sum : Expr
sum = binary Add (leaf Number 0 1) (leaf AText 4 3)

pub sum_told : (Γ : Meaning) → Reading sum_sheet (sum ∷ []) → Told sum_sheet Γ (number ∷ []) (at 4 Clash)
sum_told Γ w =
    told_one w
    (typed_binary (typed_leaf (rules.a_number one_numeral)) (typed_leaf (a_string {s = a} (one_unit plain_a))) (left_number is_number_literal))
    (unmet no_meet none)

abbrev pub chosen_sheet : List ℕ
chosen_sheet = codes "(true ? 1 : \"a\") + 2;"

abbrev pub chosen : Expr
chosen = binary Add (choice (leaf True 1 4) (leaf Number 8 1) (leaf AText 12 3)) (leaf Number 19 1)

pub chosen_told : (Γ : Meaning) → Reading chosen_sheet (chosen ∷ []) → Told chosen_sheet Γ (number ∷ []) []
chosen_told Γ w =
    told_one w
    (typed_binary
    (typed_choice (typed_leaf a_true) (typed_leaf (rules.a_number one_numeral)) (typed_leaf (a_string {s = a} (one_unit plain_a))) either_of)
    (typed_leaf (rules.a_number two_numeral))
    (right_number either_open is_number_literal))
    (met (the_true, in_true, true_in_boolean) (met (a_number one, in_union (to_first in_number_literal), in_number) none))

abbrev pub lesser_sheet : List ℕ
lesser_sheet = codes "\"5\" < 3;"

abbrev pub lesser : Expr
lesser = binary Less (leaf AText 0 3) (leaf Number 6 1)

pub lesser_told : (Γ : Meaning) → Reading lesser_sheet (lesser ∷ []) → Told lesser_sheet Γ (boolean ∷ []) (at 6 Clash)
lesser_told Γ w =
    told_one w
    (typed_binary (typed_leaf (a_string {s = five} (one_unit plain_five))) (typed_leaf (rules.a_number three_numeral)) (comparison by_less))
    (unmet no_compare none)

abbrev pub unbound_sheet : List ℕ
unbound_sheet = codes "par;"

abbrev pub unbound : Expr
unbound = leaf Name 0 3

no_binding : ((b : Binding) × (None ≡ Some b)) → ⊥
no_binding (b, e) = let z : ◌≡◌ {A = ℕ} 0 1 = cc in omega arith

pub unbound_told : (Γ : Meaning) → Γ (codes "par") ≡ None → Reading unbound_sheet (unbound ∷ []) → Told unbound_sheet Γ (any ∷ []) (at 0 UnknownName)
unbound_told Γ e w =
    told_one w
    (typed_leaf (subst (λ o. LeafRule unbound_sheet Γ 0 3 Name (type_of o) (bound 0 o ∷ [])) e a_name))
    (unmet no_binding none)

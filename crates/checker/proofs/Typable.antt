-- In a sound scope an expression that can be read has a type, and the type of an expression is in form. Assumes nothing.
use Rattle.std.proofs.Common.{◌≡◌, ℕ, List, [], ◌∷◌, ◌++◌, Some, None, Option, sym, refl, subst, inl, lit<}
use Rattle.std.specs.List.{AllByRecursion}
use Rattle.std.proofs.ByRecursion.{All-append}
use Rattle.types.specs.declared.kinds.Kind.TheVariants as kind
use Rattle.types.specs.Types.{Ty, any, number, number_literal, string, string_literal, boolean, true_literal, false_literal, undefined, null, function, pair, list, union, no_types, ◌and◌}
use Rattle.types.specs.Kinds.{OfKind, number_kind, string_kind}
use Rattle.building.specs.Unions.{brings_none, brings_itself, Precedes, order_none, order_more, union_more}
use Rattle.building.specs.Forms.{InForm, form_any, form_number, form_number_literal, form_string, form_string_literal, form_boolean, form_true, form_false, form_null, form_union, AllInForm, form_none, form_more}
use Rattle.building.proofs.InOneForm.{the_only, union_in_form}
use Rattle.building.proofs.Unite.{union_exists}
use Rattle.registers.specs.Meaning.{Binding, typed, scheme, Meaning, Fit, Sound}
use Rattle.parser.specs.declared.symbols.Leaf.{Leaf}
use Rattle.parser.specs.declared.symbols.Leaf.TheVariants as symbol
use Rattle.parser.specs.declared.symbols.Prefix.{Prefix}
use Rattle.parser.specs.declared.symbols.Prefix.TheVariants.{Not, Negate, Typeof}
use Rattle.parser.specs.declared.symbols.Operator.{Operator}
use Rattle.parser.specs.declared.symbols.Operator.TheVariants.{Multiply, Divide, Remainder, Add, Subtract, Less, Greater, AtMost, AtLeast, Same, Differs, And, Or}
use Rattle.parser.specs.Syntax.{Expr, place}
use Rattle.checker.specs.Conditions.{Condition, fits}
use Rattle.checker.specs.Rules.{part, type_of, LeafRule, a_number, a_string, a_true, a_false, a_null, a_name, PrefixRule, a_not, a_negation, a_typeof, by_minus, by_times, by_over, by_remainder, by_less, by_greater, by_at_most, by_at_least, by_same, by_differs, by_and, by_or, Logical, Numeric, is_number, is_number_literal, Textual, is_string, is_string_literal, Open, number_or_string, InfixRule, arithmetic, comparison, logical, left_number, left_string, right_number, right_string, both_open, Note, ends, types, Typed, typed_leaf, typed_unary, typed_binary, typed_choice, AllTyped, typed_none, typed_more}
use Rattle.checker.specs.Legible.{Legible, LegibleExpr, legible_leaf, legible_unary, legible_binary, legible_choice, AllLegible, legible_none, legible_more}
use Rattle.checker.specs.Laws.{TypingExists, TypesInForm}
use Rattle.checker.proofs.Logging.{types_append}
use Rattle.checker.proofs.Readings.{written_legible}

bound_form : (o : Option Binding) → ((b : Binding) → o ≡ Some b → Fit b) → InForm (type_of o)
bound_form None fit = form_any
bound_form (Some (typed t)) fit = (fit (typed t) refl).formed
bound_form (Some (scheme s)) fit = form_any

number_first : {u : Ty} → u ≡ string → Precedes (number and string and no_types) number u
number_first e = (kind.Number, kind.String, number_kind, subst (λ x. OfKind x kind.String) (sym e) string_kind, inl (lit< tt))

number_or_string_form : InForm number_or_string
number_or_string_form =
    form_union
    (form_more form_number (form_more form_string form_none))
    (union_more
    (brings_itself number_kind (brings_itself string_kind brings_none))
    (record { all = λ t i. i; only = λ t i. i; in_order = order_more (λ u i. number_first (the_only i)) (order_more (λ u i. elim i [ ]) order_none) }))

pub two_forms : {s t : Ty} → InForm s → InForm t → AllInForm (s and t and no_types)
two_forms f g = form_more f (form_more g form_none)

pub prefix_form : {p : ℕ} {t u : Ty} {op : Prefix} {cs : List Condition} → PrefixRule p t op u cs → InForm u
prefix_form a_not = form_boolean
prefix_form a_negation = form_number
prefix_form a_typeof = form_string

pub infix_form : {p q : ℕ} {s t u : Ty} {op : Operator} {cs : List Condition} → InForm t → InfixRule p s q t op u cs → InForm u
infix_form f (arithmetic a) = form_number
infix_form f (comparison a) = form_boolean
infix_form f (logical a x) = union_in_form (two_forms form_boolean f) x
infix_form f (left_number a) = form_number
infix_form f (left_string a) = form_string
infix_form f (right_number a b) = form_number
infix_form f (right_string a b) = form_string
infix_form f (both_open a b) = number_or_string_form

-- what a side of `+` is
data Side (t : Ty) : Type 0 where
  numeric : Numeric t → Side t
  textual : Textual t → Side t
  neither : Open t → Side t

side : (t : Ty) → Side t
side any = neither (record { no_number = λ x. elim x [ ]; no_string = λ x. elim x [ ] })
side number = numeric is_number
side (number_literal d) = numeric is_number_literal
side string = textual is_string
side (string_literal s) = textual is_string_literal
side boolean = neither (record { no_number = λ x. elim x [ ]; no_string = λ x. elim x [ ] })
side true_literal = neither (record { no_number = λ x. elim x [ ]; no_string = λ x. elim x [ ] })
side false_literal = neither (record { no_number = λ x. elim x [ ]; no_string = λ x. elim x [ ] })
side undefined = neither (record { no_number = λ x. elim x [ ]; no_string = λ x. elim x [ ] })
side null = neither (record { no_number = λ x. elim x [ ]; no_string = λ x. elim x [ ] })
side (function ps r) = neither (record { no_number = λ x. elim x [ ]; no_string = λ x. elim x [ ] })
side (pair a b) = neither (record { no_number = λ x. elim x [ ]; no_string = λ x. elim x [ ] })
side (list t) = neither (record { no_number = λ x. elim x [ ]; no_string = λ x. elim x [ ] })
side (union t ts) = neither (record { no_number = λ x. elim x [ ]; no_string = λ x. elim x [ ] })

prefix_typed : (op : Prefix) (p : ℕ) (t : Ty) → (u : Ty) × (cs : List Condition) × PrefixRule p t op u cs
prefix_typed Not p t = (_, _, a_not)
prefix_typed Negate p t = (_, _, a_negation)
prefix_typed Typeof p t = (_, _, a_typeof)

module _ (p : ℕ) (s : Ty) (q : ℕ) (t : Ty) where
  sum_typed : Side s → Side t → (u : Ty) × (cs : List Condition) × InfixRule p s q t Add u cs
  sum_typed (numeric x) y = (_, _, left_number x)
  sum_typed (textual x) y = (_, _, left_string x)
  sum_typed (neither x) (numeric y) = (_, _, right_number x y)
  sum_typed (neither x) (textual y) = (_, _, right_string x y)
  sum_typed (neither x) (neither y) = (_, _, both_open x y)

  logical_typed : {op : Operator} → InForm t → Logical op → (u : Ty) × (cs : List Condition) × InfixRule p s q t op u cs
  logical_typed f l = let r = union_exists boolean (t and no_types) (two_forms form_boolean f) in (r.0, _, logical l r.1)

  infix_typed : (op : Operator) → InForm t → (u : Ty) × (cs : List Condition) × InfixRule p s q t op u cs
  infix_typed Multiply f = (_, _, arithmetic by_times)
  infix_typed Divide f = (_, _, arithmetic by_over)
  infix_typed Remainder f = (_, _, arithmetic by_remainder)
  infix_typed Add f = sum_typed (side s) (side t)
  infix_typed Subtract f = (_, _, arithmetic by_minus)
  infix_typed Less f = (_, _, comparison by_less)
  infix_typed Greater f = (_, _, comparison by_greater)
  infix_typed AtMost f = (_, _, comparison by_at_most)
  infix_typed AtLeast f = (_, _, comparison by_at_least)
  infix_typed Same f = (_, _, comparison by_same)
  infix_typed Differs f = (_, _, comparison by_differs)
  infix_typed And f = logical_typed f by_and
  infix_typed Or f = logical_typed f by_or

module _ (sheet : List ℕ) (Γ : Meaning) (sound : Sound Γ) where
  pub leaf_form : {p n : ℕ} {l : Leaf} {t : Ty} {cs : List Condition} → LeafRule sheet Γ p n l t cs → InForm t
  leaf_form (a_number x) = form_number_literal
  leaf_form (a_string x) = form_string_literal
  leaf_form a_true = form_true
  leaf_form a_false = form_false
  leaf_form a_null = form_null
  leaf_form {p} {n} a_name = bound_form (Γ (part sheet p n)) (sound (part sheet p n))

  pub typed_form : {e : Expr} {t : Ty} {ns : List Note} → Typed sheet Γ e t ns → InForm t
  typed_form (typed_leaf r) = leaf_form r
  typed_form (typed_unary x r) = prefix_form r
  typed_form (typed_binary x y r) = infix_form (typed_form y) r
  typed_form (typed_choice x y z u) = union_in_form (two_forms (typed_form y) (typed_form z)) u

  leaf_typed : (l : Leaf) (p n : ℕ) → Legible (part sheet p n) l → (t : Ty) × (cs : List Condition) × LeafRule sheet Γ p n l t cs
  leaf_typed symbol.Number p n x = (_, _, a_number {d = x.0} x.1)
  leaf_typed symbol.Text p n x = (_, _, a_string {s = x.0} x.1)
  leaf_typed symbol.Name p n x = (_, _, a_name)
  leaf_typed symbol.True p n x = (_, _, a_true)
  leaf_typed symbol.False p n x = (_, _, a_false)
  leaf_typed symbol.Null p n x = (_, _, a_null)

  typable : {e : Expr} → LegibleExpr sheet e → (t : Ty) × (ns : List Note) × Typed sheet Γ e t ns
  typable (legible_leaf {l} {p} {n} x) = let r = leaf_typed l p n x in (_, _, typed_leaf r.2)
  typable (legible_unary {op} {e} x) =
      let a = typable x in
      let r = prefix_typed op (place e) a.0 in
      (_, _, typed_unary a.2 r.2)
  typable (legible_binary {op} {a} {b} x y) =
      let l = typable x in
      let m = typable y in
      let r = infix_typed (place a) l.0 (place b) m.0 op (typed_form m.2) in
      (_, _, typed_binary l.2 m.2 r.2)
  typable (legible_choice x y z) =
      let l = typable x in
      let m = typable y in
      let n = typable z in
      let u = union_exists m.0 (n.0 and no_types) (two_forms (typed_form m.2) (typed_form n.2)) in
      (_, _, typed_choice l.2 m.2 n.2 u.1)

  pub typing_exists : {e : Expr} → LegibleExpr sheet e → (t : Ty) × (ns : List Note) × Typed sheet Γ e t ns × InForm t
  typing_exists x = let r = typable x in (r.0, r.1, r.2, typed_form r.2)

  pub all_typing_exists : {es : List Expr} → AllLegible sheet es → (ns : List Note) × AllTyped sheet Γ es ns
  all_typing_exists legible_none = (_, typed_none)
  all_typing_exists (legible_more x xs) =
      let a = typable x in
      let r = all_typing_exists xs in
      (_, typed_more a.2 r.1)

pub typing_exists_law : TypingExists
typing_exists_law sheet Γ es sound w = all_typing_exists sheet Γ sound (written_legible w)

-- where an expression ends, its own type is noted
ends_form : (cs : List Condition) {t : Ty} → InForm t → AllByRecursion InForm (types (ends cs t))
ends_form [] f = (f, tt)
ends_form (c ∷ cs) f = ends_form cs f

join_forms : (ms ns : List Note) → AllByRecursion InForm (types ms) → AllByRecursion InForm (types ns) → AllByRecursion InForm (types (ms ++ ns))
join_forms ms ns p q = subst (AllByRecursion InForm) (sym (types_append ms ns)) (All-append InForm (types ms) (types ns) p q)

module _ {sheet : List ℕ} {Γ : Meaning} (sound : Sound Γ) where
  forms : {e : Expr} {t : Ty} {ns : List Note} → Typed sheet Γ e t ns → AllByRecursion InForm (types ns)
  forms (typed_leaf {cs = cs} r) = ends_form cs (leaf_form sheet Γ sound r)
  forms (typed_unary {ns = ns} {cs = cs} x r) = join_forms ns _ (forms x) (ends_form cs (prefix_form r))
  forms (typed_binary {ms = ms} {ns = ns} {cs = cs} x y r) = join_forms ms _ (forms x) (join_forms ns _ (forms y) (ends_form cs (infix_form (typed_form sheet Γ sound y) r)))
  forms (typed_choice {a = a} {r = r} {ls = ls} {ms = ms} {ns = ns} x y z u) =
      join_forms ls _ (forms x) (join_forms ms _ (forms y) (join_forms ns _ (forms z) (ends_form (fits (place a) r boolean ∷ []) (union_in_form (two_forms (typed_form sheet Γ sound y) (typed_form sheet Γ sound z)) u))))

  all_forms : {es : List Expr} {ns : List Note} → AllTyped sheet Γ es ns → AllByRecursion InForm (types ns)
  all_forms typed_none = tt
  all_forms (typed_more {ms = ms} {ns = ns} x xs) = join_forms ms ns (forms x) (all_forms xs)

pub types_in_form_law : TypesInForm
types_in_form_law sheet Γ es ns sound t = all_forms sound t

-- An expression has at most one type, and one list of notes. Assumes nothing.
use Rattle.std.proofs.Common.{◌≡◌, ℕ, List, [], ◌∷◌, ◌++◌, sym, refl, ap, subst, ap₂}
use Rattle.types.specs.Types.{Ty, number_literal, string_literal, boolean, no_types, ◌and◌}
use Rattle.building.specs.Unions.{UnionOf}
use Rattle.building.proofs.OneUnion.{one_union}
use Rattle.building.proofs.LiteralsMade.{literal_laws}
use Rattle.registers.specs.Meaning.{Meaning}
use Rattle.parser.specs.declared.symbols.Leaf.{Leaf}
use Rattle.parser.specs.declared.symbols.Prefix.{Prefix}
use Rattle.parser.specs.declared.symbols.Operator.{Operator}
use Rattle.parser.specs.Syntax.{Expr, place}
use Rattle.checker.specs.Conditions.{Condition, fits}
use Rattle.checker.specs.Rules.{part, LeafRule, a_number, a_string, a_true, a_false, a_null, a_name, PrefixRule, a_not, a_negation, a_typeof, Arithmetic, by_minus, by_times, by_over, by_remainder, Comparison, by_less, by_greater, by_at_most, by_at_least, by_same, by_differs, Logical, Numeric, is_number, is_number_literal, Textual, InfixRule, arithmetic, comparison, logical, left_number, left_string, right_number, right_string, both_open, Note, ends, Typed, typed_leaf, typed_unary, typed_binary, typed_choice, AllTyped, typed_none, typed_more}
use Rattle.checker.specs.Laws.{OneTyping}

one_leaf : {sheet : List ℕ} {Γ : Meaning} {l : Leaf} {p n : ℕ} {t u : Ty} {cs ds : List Condition} → LeafRule sheet Γ p n l t cs → LeafRule sheet Γ p n l u ds → (t ≡ u) × (cs ≡ ds)
one_leaf {sheet} {p} {n} (a_number {d} x) (a_number {d = e} y) = (ap number_literal (literal_laws.0 (part sheet p n) d e x y), refl)
one_leaf {sheet} {p} {n} (a_string {s} x) (a_string {s = r} y) = (ap string_literal (literal_laws.1 (part sheet p n) s r x y), refl)
one_leaf a_true a_true = (refl, refl)
one_leaf a_false a_false = (refl, refl)
one_leaf a_null a_null = (refl, refl)
one_leaf a_name a_name = (refl, refl)

one_prefix : {p : ℕ} {t u v : Ty} {op : Prefix} {cs ds : List Condition} → PrefixRule p t op u cs → PrefixRule p t op v ds → (u ≡ v) × (cs ≡ ds)
one_prefix a_not a_not = (refl, refl)
one_prefix a_negation a_negation = (refl, refl)
one_prefix a_typeof a_typeof = (refl, refl)

-- an operator is of one sort, and a type too
arithmetic_not_comparison : {op : Operator} → Arithmetic op → Comparison op → ⊥
arithmetic_not_comparison by_minus b = elim b [ ]
arithmetic_not_comparison by_times b = elim b [ ]
arithmetic_not_comparison by_over b = elim b [ ]
arithmetic_not_comparison by_remainder b = elim b [ ]

arithmetic_not_logical : {op : Operator} → Arithmetic op → Logical op → ⊥
arithmetic_not_logical by_minus b = elim b [ ]
arithmetic_not_logical by_times b = elim b [ ]
arithmetic_not_logical by_over b = elim b [ ]
arithmetic_not_logical by_remainder b = elim b [ ]

comparison_not_logical : {op : Operator} → Comparison op → Logical op → ⊥
comparison_not_logical by_less b = elim b [ ]
comparison_not_logical by_greater b = elim b [ ]
comparison_not_logical by_at_most b = elim b [ ]
comparison_not_logical by_at_least b = elim b [ ]
comparison_not_logical by_same b = elim b [ ]
comparison_not_logical by_differs b = elim b [ ]

number_not_string : {t : Ty} → Numeric t → Textual t → ⊥
number_not_string is_number b = elim b [ ]
number_not_string is_number_literal b = elim b [ ]

one_infix : {p q : ℕ} {s t u v : Ty} {op : Operator} {cs ds : List Condition} → InfixRule p s q t op u cs → InfixRule p s q t op v ds → (u ≡ v) × (cs ≡ ds)
one_infix (arithmetic a) (arithmetic b) = (refl, refl)
one_infix (arithmetic a) (comparison b) = absurd (arithmetic_not_comparison a b)
one_infix (arithmetic a) (logical b y) = absurd (arithmetic_not_logical a b)
one_infix (arithmetic a) (left_number b) = elim a [ ]
one_infix (arithmetic a) (left_string b) = elim a [ ]
one_infix (arithmetic a) (right_number b y) = elim a [ ]
one_infix (arithmetic a) (right_string b y) = elim a [ ]
one_infix (arithmetic a) (both_open b y) = elim a [ ]
one_infix (comparison a) (arithmetic b) = absurd (arithmetic_not_comparison b a)
one_infix (comparison a) (comparison b) = (refl, refl)
one_infix (comparison a) (logical b y) = absurd (comparison_not_logical a b)
one_infix (comparison a) (left_number b) = elim a [ ]
one_infix (comparison a) (left_string b) = elim a [ ]
one_infix (comparison a) (right_number b y) = elim a [ ]
one_infix (comparison a) (right_string b y) = elim a [ ]
one_infix (comparison a) (both_open b y) = elim a [ ]
one_infix (logical a x) (arithmetic b) = absurd (arithmetic_not_logical b a)
one_infix (logical a x) (comparison b) = absurd (comparison_not_logical b a)
one_infix (logical a x) (logical b y) = (one_union _ _ _ x y, refl)
one_infix (logical a x) (left_number b) = elim a [ ]
one_infix (logical a x) (left_string b) = elim a [ ]
one_infix (logical a x) (right_number b y) = elim a [ ]
one_infix (logical a x) (right_string b y) = elim a [ ]
one_infix (logical a x) (both_open b y) = elim a [ ]
one_infix (left_number a) (arithmetic b) = elim b [ ]
one_infix (left_number a) (comparison b) = elim b [ ]
one_infix (left_number a) (logical b y) = elim b [ ]
one_infix (left_number a) (left_number b) = (refl, refl)
one_infix (left_number a) (left_string b) = absurd (number_not_string a b)
one_infix (left_number a) (right_number b y) = absurd (b.no_number a)
one_infix (left_number a) (right_string b y) = absurd (b.no_number a)
one_infix (left_number a) (both_open b y) = absurd (b.no_number a)
one_infix (left_string a) (arithmetic b) = elim b [ ]
one_infix (left_string a) (comparison b) = elim b [ ]
one_infix (left_string a) (logical b y) = elim b [ ]
one_infix (left_string a) (left_number b) = absurd (number_not_string b a)
one_infix (left_string a) (left_string b) = (refl, refl)
one_infix (left_string a) (right_number b y) = absurd (b.no_string a)
one_infix (left_string a) (right_string b y) = absurd (b.no_string a)
one_infix (left_string a) (both_open b y) = absurd (b.no_string a)
one_infix (right_number a x) (arithmetic b) = elim b [ ]
one_infix (right_number a x) (comparison b) = elim b [ ]
one_infix (right_number a x) (logical b y) = elim b [ ]
one_infix (right_number a x) (left_number b) = absurd (a.no_number b)
one_infix (right_number a x) (left_string b) = absurd (a.no_string b)
one_infix (right_number a x) (right_number b y) = (refl, refl)
one_infix (right_number a x) (right_string b y) = absurd (number_not_string x y)
one_infix (right_number a x) (both_open b y) = absurd (y.no_number x)
one_infix (right_string a x) (arithmetic b) = elim b [ ]
one_infix (right_string a x) (comparison b) = elim b [ ]
one_infix (right_string a x) (logical b y) = elim b [ ]
one_infix (right_string a x) (left_number b) = absurd (a.no_number b)
one_infix (right_string a x) (left_string b) = absurd (a.no_string b)
one_infix (right_string a x) (right_number b y) = absurd (number_not_string y x)
one_infix (right_string a x) (right_string b y) = (refl, refl)
one_infix (right_string a x) (both_open b y) = absurd (y.no_string x)
one_infix (both_open a x) (arithmetic b) = elim b [ ]
one_infix (both_open a x) (comparison b) = elim b [ ]
one_infix (both_open a x) (logical b y) = elim b [ ]
one_infix (both_open a x) (left_number b) = absurd (a.no_number b)
one_infix (both_open a x) (left_string b) = absurd (a.no_string b)
one_infix (both_open a x) (right_number b y) = absurd (x.no_number y)
one_infix (both_open a x) (right_string b y) = absurd (x.no_string y)
one_infix (both_open a x) (both_open b y) = (refl, refl)

module _ {sheet : List ℕ} {Γ : Meaning} where
  pub one_typing : {e : Expr} {t u : Ty} {ms ns : List Note} → Typed sheet Γ e t ms → Typed sheet Γ e u ns → (t ≡ u) × (ms ≡ ns)
  one_typing (typed_leaf x) (typed_leaf y) = let r = one_leaf x y in (r.0, ap₂ ends r.1 r.0)
  one_typing (typed_unary {op} {e} x r) (typed_unary {u = v} {cs = ds} y q) =
      let o = one_typing x y in
      let i = one_prefix r (subst (λ s. PrefixRule (place e) s op v ds) (sym o.0) q) in
      (i.0, ap₂ ◌++◌ o.1 (ap₂ ends i.1 i.0))
  one_typing (typed_binary {op} {a} {b} {t} x z r) (typed_binary {s = s'} {u = v} {cs = ds} y w q) =
      let o = one_typing x y in
      let m = one_typing z w in
      let i = one_infix r (subst (λ j. InfixRule (place a) j (place b) t op v ds) (sym o.0) (subst (λ k. InfixRule (place a) s' (place b) k op v ds) (sym m.0) q)) in
      (i.0, ap₂ ◌++◌ o.1 (ap₂ ◌++◌ m.1 (ap₂ ends i.1 i.0)))
  one_typing (typed_choice {a} {t} x y z r) (typed_choice {s = s'} {u = v} x' y' z' q) =
      let k = one_typing x x' in
      let l = one_typing y y' in
      let m = one_typing z z' in
      let i = one_union _ _ _ r (subst (λ h. UnionOf (h and t and no_types) v) (sym l.0) (subst (λ h. UnionOf (s' and h and no_types) v) (sym m.0) q)) in
      (i, ap₂ ◌++◌ k.1 (ap₂ ◌++◌ l.1 (ap₂ ◌++◌ m.1 (ap₂ ends (ap (λ h. fits (place a) h boolean ∷ []) k.0) i))))

  pub one_typing_of_all : {es : List Expr} {ms ns : List Note} → AllTyped sheet Γ es ms → AllTyped sheet Γ es ns → ms ≡ ns
  one_typing_of_all typed_none typed_none = refl
  one_typing_of_all (typed_more x xs) (typed_more y ys) = ap₂ ◌++◌ (one_typing x y).1 (one_typing_of_all xs ys)

pub one_typing_law : OneTyping
one_typing_law = (λ sheet Γ e t u ms ns. one_typing, λ sheet Γ es ms ns. one_typing_of_all)

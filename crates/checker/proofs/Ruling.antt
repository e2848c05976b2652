-- Which rule an operator between two operands goes by. Assumes nothing.
use Rattle.std.proofs.Common.{◌≡◌, ℕ, List, refl, subst}
use Rattle.types.specs.Types.{Ty}
use Rattle.parser.specs.declared.symbols.Operator.{Operator}
use Rattle.parser.specs.declared.symbols.Operator.TheVariants.{Add}
use Rattle.checker.specs.declared.rules.Rule.TheVariants.{Arithmetic, Comparison, Logical, LeftNumber, LeftString, RightNumber, RightString, BothOpen}
use Rattle.checker.specs.Conditions.{Condition}
use Rattle.checker.specs.Rules as rules
use Rattle.checker.specs.Rules.{PrefixRule, a_not, a_negation, a_typeof, InfixRule, arithmetic, comparison, logical, left_number, left_string, right_number, right_string, both_open, Numeric, is_number, is_number_literal, Textual, is_string, is_string_literal, Open}
use Rattle.checker.specs.declared.rules.Rule.{Rule}
use Rattle.parser.specs.declared.symbols.Prefix.{Prefix}
use Rattle.checker.specs.Forms.{Form, PrefixForm}

not_both : {t : Ty} → Numeric t → Textual t → ⊥
not_both is_number x = elim x [ ]
not_both is_number_literal x = elim x [ ]

no_arithmetic : {A : Type 0} → rules.Arithmetic Add → A
no_arithmetic x = elim x [ ]

no_comparison : {A : Type 0} → rules.Comparison Add → A
no_comparison x = elim x [ ]

no_logical : {A : Type 0} → rules.Logical Add → A
no_logical x = elim x [ ]

module _ {p q : ℕ} {s t : Ty} where
  pub by_left_number : {u : Ty} {cs : List Condition} → Numeric s → InfixRule p s q t Add u cs → Form LeftNumber p s q t u cs
  by_left_number n (arithmetic x) = no_arithmetic x
  by_left_number n (comparison x) = no_comparison x
  by_left_number n (logical x y) = no_logical x
  by_left_number n (left_number m) = (refl, refl)
  by_left_number n (left_string m) = absurd (not_both n m)
  by_left_number n (right_number o m) = absurd (o.no_number n)
  by_left_number n (right_string o m) = absurd (o.no_number n)
  by_left_number n (both_open o m) = absurd (o.no_number n)

  pub by_left_string : {u : Ty} {cs : List Condition} → Textual s → InfixRule p s q t Add u cs → Form LeftString p s q t u cs
  by_left_string n (arithmetic x) = no_arithmetic x
  by_left_string n (comparison x) = no_comparison x
  by_left_string n (logical x y) = no_logical x
  by_left_string n (left_number m) = absurd (not_both m n)
  by_left_string n (left_string m) = (refl, refl)
  by_left_string n (right_number o m) = absurd (o.no_string n)
  by_left_string n (right_string o m) = absurd (o.no_string n)
  by_left_string n (both_open o m) = absurd (o.no_string n)

  module _ (a : Numeric s → ⊥) (b : Textual s → ⊥) where
    pub by_right_number : {u : Ty} {cs : List Condition} → Numeric t → InfixRule p s q t Add u cs → Form RightNumber p s q t u cs
    by_right_number n (arithmetic x) = no_arithmetic x
    by_right_number n (comparison x) = no_comparison x
    by_right_number n (logical x y) = no_logical x
    by_right_number n (left_number m) = absurd (a m)
    by_right_number n (left_string m) = absurd (b m)
    by_right_number n (right_number o m) = (refl, refl)
    by_right_number n (right_string o m) = absurd (not_both n m)
    by_right_number n (both_open o m) = absurd (m.no_number n)

    pub by_right_string : {u : Ty} {cs : List Condition} → Textual t → InfixRule p s q t Add u cs → Form RightString p s q t u cs
    by_right_string n (arithmetic x) = no_arithmetic x
    by_right_string n (comparison x) = no_comparison x
    by_right_string n (logical x y) = no_logical x
    by_right_string n (left_number m) = absurd (a m)
    by_right_string n (left_string m) = absurd (b m)
    by_right_string n (right_number o m) = absurd (not_both m n)
    by_right_string n (right_string o m) = (refl, refl)
    by_right_string n (both_open o m) = absurd (m.no_string n)

    pub by_neither : {u : Ty} {cs : List Condition} → (Numeric t → ⊥) → (Textual t → ⊥) → InfixRule p s q t Add u cs → Form BothOpen p s q t u cs
    by_neither c d (arithmetic x) = no_arithmetic x
    by_neither c d (comparison x) = no_comparison x
    by_neither c d (logical x y) = no_logical x
    by_neither c d (left_number m) = absurd (a m)
    by_neither c d (left_string m) = absurd (b m)
    by_neither c d (right_number o m) = absurd (c m)
    by_neither c d (right_string o m) = absurd (d m)
    by_neither c d (both_open o m) = (refl, refl)

-- the other operators

module _ {p q : ℕ} {s t : Ty} where
  pub by_arithmetic : {op : Operator} {u : Ty} {cs : List Condition} → rules.Arithmetic op → InfixRule p s q t op u cs → Form Arithmetic p s q t u cs
  by_arithmetic a (arithmetic x) = (refl, refl)
  by_arithmetic rules.by_minus (comparison x) = elim x [ ]
  by_arithmetic rules.by_times (comparison x) = elim x [ ]
  by_arithmetic rules.by_over (comparison x) = elim x [ ]
  by_arithmetic rules.by_remainder (comparison x) = elim x [ ]
  by_arithmetic rules.by_minus (logical x y) = elim x [ ]
  by_arithmetic rules.by_times (logical x y) = elim x [ ]
  by_arithmetic rules.by_over (logical x y) = elim x [ ]
  by_arithmetic rules.by_remainder (logical x y) = elim x [ ]
  by_arithmetic a (left_number m) = no_arithmetic a
  by_arithmetic a (left_string m) = no_arithmetic a
  by_arithmetic a (right_number o m) = no_arithmetic a
  by_arithmetic a (right_string o m) = no_arithmetic a
  by_arithmetic a (both_open o m) = no_arithmetic a

  pub by_comparison : {op : Operator} {u : Ty} {cs : List Condition} → rules.Comparison op → InfixRule p s q t op u cs → Form Comparison p s q t u cs
  by_comparison c (arithmetic x) = apart c x
    where
      apart : {A : Type 0} {op : Operator} → rules.Comparison op → rules.Arithmetic op → A
      apart rules.by_less x = elim x [ ]
      apart rules.by_greater x = elim x [ ]
      apart rules.by_at_most x = elim x [ ]
      apart rules.by_at_least x = elim x [ ]
      apart rules.by_same x = elim x [ ]
      apart rules.by_differs x = elim x [ ]
  by_comparison c (comparison x) = (refl, refl)
  by_comparison c (logical x y) = apart c x
    where
      apart : {A : Type 0} {op : Operator} → rules.Comparison op → rules.Logical op → A
      apart rules.by_less x = elim x [ ]
      apart rules.by_greater x = elim x [ ]
      apart rules.by_at_most x = elim x [ ]
      apart rules.by_at_least x = elim x [ ]
      apart rules.by_same x = elim x [ ]
      apart rules.by_differs x = elim x [ ]
  by_comparison c (left_number m) = no_comparison c
  by_comparison c (left_string m) = no_comparison c
  by_comparison c (right_number o m) = no_comparison c
  by_comparison c (right_string o m) = no_comparison c
  by_comparison c (both_open o m) = no_comparison c

  pub by_logical : {op : Operator} {u : Ty} {cs : List Condition} → rules.Logical op → InfixRule p s q t op u cs → Form Logical p s q t u cs
  by_logical rules.by_and (arithmetic x) = elim x [ ]
  by_logical rules.by_or (arithmetic x) = elim x [ ]
  by_logical rules.by_and (comparison x) = elim x [ ]
  by_logical rules.by_or (comparison x) = elim x [ ]
  by_logical l (logical x y) = (y, refl)
  by_logical l (left_number m) = no_logical l
  by_logical l (left_string m) = no_logical l
  by_logical l (right_number o m) = no_logical l
  by_logical l (right_string o m) = no_logical l
  by_logical l (both_open o m) = no_logical l

-- the form of a rule, where it is known which

pub as_form : (p : ℕ) (s : Ty) (q : ℕ) (t u : Ty) (cs : List Condition) {rule r : Rule} → rule ≡ r → Form rule p s q t u cs → Form r p s q t u cs
as_form p s q t u cs e form = subst (λ x. Form x p s q t u cs) e form

prefix_form : {q : ℕ} {t u : Ty} {op : Prefix} {cs : List Condition} → PrefixRule q t op u cs → PrefixForm op q t u cs
prefix_form a_not = (refl, refl)
prefix_form a_negation = (refl, refl)
prefix_form a_typeof = (refl, refl)

pub as_prefix : (q : ℕ) (t u : Ty) (cs : List Condition) {op r : Prefix} → op ≡ r → PrefixRule q t op u cs → PrefixForm r q t u cs
as_prefix q t u cs e rule = subst (λ x. PrefixForm x q t u cs) e (prefix_form rule)

-- The rules: which type an expression has, and which conditions it sets. Assumes nothing.
use Rattle.std.specs.Prelude.{ℕ, List, [], ◌∷◌, ◌++◌, take, drop, Some, None, Option}
use Rattle.types.specs.Values.{Decimal, Text}
use Rattle.types.specs.Types.{Ty, any, number, number_literal, string, string_literal, boolean, true_literal, false_literal, null, union, no_types, ◌and◌}
use Rattle.building.specs.Unions.{UnionOf}
use Rattle.building.specs.Literals.{Numeral, SpelledString}
use Rattle.registers.specs.Meaning.{Binding, typed, scheme, Meaning}
use Rattle.parser.specs.declared.symbols.Leaf.{Leaf}
use Rattle.parser.specs.declared.symbols.Leaf.TheVariants as leaf
use Rattle.parser.specs.declared.symbols.Prefix.{Prefix}
use Rattle.parser.specs.declared.symbols.Prefix.TheVariants.{Not, Negate, Typeof}
use Rattle.parser.specs.declared.symbols.Operator.{Operator}
use Rattle.parser.specs.declared.symbols.Operator.TheVariants.{Multiply, Divide, Remainder, Add, Subtract, Less, Greater, AtMost, AtLeast, Same, Differs, And, Or}
use Rattle.parser.specs.Syntax as syntax
use Rattle.parser.specs.Syntax.{Expr, unary, binary, choice, place}
use Rattle.checker.specs.Conditions.{Condition, fits, compares, bound}

-- the n bytes of the sheet from p on
abbrev pub part : List ℕ → ℕ → ℕ → List ℕ
part sheet p n = take n (drop p sheet)

-- the type of a name with this binding; a scheme's name and one without binding are `any`
abbrev pub type_of : Option Binding → Ty
type_of None = any
type_of (Some (typed t)) = t
type_of (Some (scheme s)) = any

-- the token at p, n bytes long, has the type and sets the conditions
pub data LeafRule (sheet : List ℕ) (Γ : Meaning) (p n : ℕ) : Leaf → Ty → List Condition → Type 0 where
  a_number : {d : Decimal} → Numeral (part sheet p n) d → LeafRule sheet Γ p n leaf.Number (number_literal d) []
  a_string : {s : Text} → SpelledString (part sheet p n) s → LeafRule sheet Γ p n leaf.Text (string_literal s) []
  a_true : LeafRule sheet Γ p n leaf.True true_literal []
  a_false : LeafRule sheet Γ p n leaf.False false_literal []
  a_null : LeafRule sheet Γ p n leaf.Null null []
  a_name : LeafRule sheet Γ p n leaf.Name (type_of (Γ (part sheet p n))) (bound p (Γ (part sheet p n)) ∷ [])

-- an operator before its operand of type t at p
pub data PrefixRule (p : ℕ) (t : Ty) : Prefix → Ty → List Condition → Type 0 where
  a_not : PrefixRule p t Not boolean (fits p t boolean ∷ [])
  a_negation : PrefixRule p t Negate number (fits p t number ∷ [])
  a_typeof : PrefixRule p t Typeof string []

pub data Arithmetic : Operator → Type 0 where
  by_minus : Arithmetic Subtract
  by_times : Arithmetic Multiply
  by_over : Arithmetic Divide
  by_remainder : Arithmetic Remainder

pub data Comparison : Operator → Type 0 where
  by_less : Comparison Less
  by_greater : Comparison Greater
  by_at_most : Comparison AtMost
  by_at_least : Comparison AtLeast
  by_same : Comparison Same
  by_differs : Comparison Differs

pub data Logical : Operator → Type 0 where
  by_and : Logical And
  by_or : Logical Or

-- `number` or a number literal
pub data Numeric : Ty → Type 0 where
  is_number : Numeric number
  is_number_literal : {d : Decimal} → Numeric (number_literal d)

-- `string` or a string literal
pub data Textual : Ty → Type 0 where
  is_string : Textual string
  is_string_literal : {s : Text} → Textual (string_literal s)

abbrev pub number_or_string : Ty
number_or_string = union number (string and no_types)

-- neither of both
pub record Open (t : Ty) : Type 0 where
  pub no_number : Numeric t → ⊥
  pub no_string : Textual t → ⊥

-- an operator between a left side of type s at p and a right side of type t at q; of the rules of `+` the first one holds
-- whose side is as it says
pub data InfixRule (p : ℕ) (s : Ty) (q : ℕ) (t : Ty) : Operator → Ty → List Condition → Type 0 where
  arithmetic : {op : Operator} → Arithmetic op → InfixRule p s q t op number (fits p s number ∷ fits q t number ∷ [])
  comparison : {op : Operator} → Comparison op → InfixRule p s q t op boolean (compares q s t ∷ [])
  logical : {op : Operator} {u : Ty} → Logical op → UnionOf (boolean and t and no_types) u → InfixRule p s q t op u (fits p s boolean ∷ [])
  left_number : Numeric s → InfixRule p s q t Add number (fits q t number ∷ [])
  left_string : Textual s → InfixRule p s q t Add string (fits q t string ∷ [])
  right_number : Open s → Numeric t → InfixRule p s q t Add number (fits p s number ∷ [])
  right_string : Open s → Textual t → InfixRule p s q t Add string (fits p s string ∷ [])
  both_open : Open s → Open t → InfixRule p s q t Add number_or_string (fits p s number_or_string ∷ fits q t number_or_string ∷ [])

-- what is noted where an expression ends: its conditions, and then its type
pub data Note : Type 0 where
  asks : Condition → Note
  has : Ty → Note

abbrev pub ends : List Condition → Ty → List Note
ends [] t = has t ∷ []
ends (c ∷ cs) t = asks c ∷ ends cs t

-- in the scope Γ the expression has the type, and ns is noted as its parts and it end
pub data Typed (sheet : List ℕ) (Γ : Meaning) : Expr → Ty → List Note → Type 0 where
  typed_leaf : {l : Leaf} {p n : ℕ} {t : Ty} {cs : List Condition} → LeafRule sheet Γ p n l t cs → Typed sheet Γ (syntax.leaf l p n) t (ends cs t)
  typed_unary : {op : Prefix} {p : ℕ} {e : Expr} {t u : Ty} {ns : List Note} {cs : List Condition} →
      Typed sheet Γ e t ns → PrefixRule (place e) t op u cs → Typed sheet Γ (unary op p e) u (ns ++ ends cs u)
  typed_binary : {op : Operator} {a b : Expr} {s t u : Ty} {ms ns : List Note} {cs : List Condition} →
      Typed sheet Γ a s ms → Typed sheet Γ b t ns → InfixRule (place a) s (place b) t op u cs → Typed sheet Γ (binary op a b) u (ms ++ (ns ++ ends cs u))
  typed_choice : {a b c : Expr} {r s t u : Ty} {ls ms ns : List Note} →
      Typed sheet Γ a r ls → Typed sheet Γ b s ms → Typed sheet Γ c t ns → UnionOf (s and t and no_types) u →
      Typed sheet Γ (choice a b c) u (ls ++ (ms ++ (ns ++ ends (fits (place a) r boolean ∷ []) u)))

-- the same of the expressions of a program
pub data AllTyped (sheet : List ℕ) (Γ : Meaning) : List Expr → List Note → Type 0 where
  typed_none : AllTyped sheet Γ [] []
  typed_more : {e : Expr} {es : List Expr} {t : Ty} {ms ns : List Note} → Typed sheet Γ e t ms → AllTyped sheet Γ es ns → AllTyped sheet Γ (e ∷ es) (ms ++ ns)

abbrev pub conditions : List Note → List Condition
conditions [] = []
conditions (asks c ∷ ns) = c ∷ conditions ns
conditions (has t ∷ ns) = conditions ns

-- the types of the expressions, by their numbers
abbrev pub types : List Note → List Ty
types [] = []
types (asks c ∷ ns) = types ns
types (has t ∷ ns) = t ∷ types ns

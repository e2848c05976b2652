-- No public contract cites it. Expressions whose numbers and strings can be read. Assumes nothing.
use Rattle.std.specs.Prelude.{ℕ, List, [], ◌∷◌}
use Rattle.types.specs.Values.{Decimal, Text}
use Rattle.building.specs.Literals.{Numeral, SpelledString}
use Rattle.parser.specs.declared.symbols.Leaf.{Leaf}
use Rattle.parser.specs.declared.symbols.Leaf.TheVariants as symbol
use Rattle.parser.specs.declared.symbols.Prefix.{Prefix}
use Rattle.parser.specs.declared.symbols.Operator.{Operator}
use Rattle.parser.specs.Syntax.{Expr, leaf, unary, binary, choice}
use Rattle.checker.specs.Rules.{part}

-- the text of a number writes a number, and that of a string a string
abbrev pub Legible : List ℕ → Leaf → Type 0
Legible text symbol.Number = (d : Decimal) × Numeral text d
Legible text symbol.Text = (s : Text) × SpelledString text s
Legible text symbol.Name = Unit {0}
Legible text symbol.True = Unit {0}
Legible text symbol.False = Unit {0}
Legible text symbol.Null = Unit {0}

pub data LegibleExpr (sheet : List ℕ) : Expr → Type 0 where
  legible_leaf : {l : Leaf} {p n : ℕ} → Legible (part sheet p n) l → LegibleExpr sheet (leaf l p n)
  legible_unary : {op : Prefix} {p : ℕ} {e : Expr} → LegibleExpr sheet e → LegibleExpr sheet (unary op p e)
  legible_binary : {op : Operator} {a b : Expr} → LegibleExpr sheet a → LegibleExpr sheet b → LegibleExpr sheet (binary op a b)
  legible_choice : {a b c : Expr} → LegibleExpr sheet a → LegibleExpr sheet b → LegibleExpr sheet c → LegibleExpr sheet (choice a b c)

-- the same of the expressions of a program
pub data AllLegible (sheet : List ℕ) : List Expr → Type 0 where
  legible_none : AllLegible sheet []
  legible_more : {e : Expr} {es : List Expr} → LegibleExpr sheet e → AllLegible sheet es → AllLegible sheet (e ∷ es)

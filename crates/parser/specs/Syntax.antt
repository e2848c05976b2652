-- Expressions and programs as trees. Assumes nothing.
use Rattle.std.specs.Prelude.{ℕ, suc, ◌+◌, List, [], ◌∷◌}
use Rattle.parser.specs.declared.symbols.Leaf.{Leaf}
use Rattle.parser.specs.declared.symbols.Prefix.{Prefix}
use Rattle.parser.specs.declared.symbols.Operator.{Operator}

-- brackets are no expression
pub data Expr : Type 0 where
  leaf : Leaf → ℕ → ℕ → Expr  -- a token, by its place in the sheet and its length
  unary : Prefix → ℕ → Expr → Expr  -- the operator and its place
  binary : Operator → Expr → Expr → Expr
  choice : Expr → Expr → Expr → Expr

-- where the expression's first token stands, brackets left out
abbrev pub place : Expr → ℕ
place (leaf l p n) = p
place (unary op p e) = p
place (binary op a b) = place a
place (choice a b c) = place a

-- how many expressions it has, itself and its parts
abbrev pub size : Expr → ℕ
size (leaf l p n) = 1
size (unary op p e) = suc (size e)
size (binary op a b) = suc (size a + size b)
size (choice a b c) = suc (size a + size b + size c)

-- the same of the expressions of a program, each with its semicolon
abbrev pub sizes : List Expr → ℕ
sizes [] = 0
sizes (e ∷ es) = suc (size e) + sizes es

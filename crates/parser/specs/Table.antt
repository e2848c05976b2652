-- Which program a tree table stands for, and which entries are in order. Assumes nothing.
use Rattle.std.specs.Prelude.{◌≡◌, ℕ, zero, suc, ◌+◌, ◌<◌, ◌≤◌, List, [], ◌∷◌, ◌++◌, Some, None, Option, IfSome, slice_index_or}
use Rattle.parser.specs.declared.symbols.Leaf.{Leaf as AnyLeaf}
use Rattle.parser.specs.declared.symbols.Prefix.{Prefix}
use Rattle.parser.specs.declared.symbols.Operator.{Operator}
use Rattle.parser.specs.declared.tree.TreeEntry.{TreeEntry}
use Rattle.parser.specs.declared.tree.TreeEntry.TheVariants.{Blank, Leaf, Unary, Binary, Choice, Statement}
use Rattle.parser.specs.Syntax.{Expr, leaf, unary, binary, choice}

-- the entry at an index; past the end it is blank
abbrev pub tree_at : List TreeEntry → ℕ → TreeEntry
tree_at table i = slice_index_or table i Blank

-- the index of the last of the first n entries, if there is one
abbrev pub last_of : ℕ → Option ℕ
last_of zero = None
last_of (suc n) = Some n

-- the entry at i, with its parts, is the expression e
pub data Tree (table : List TreeEntry) : ℕ → Expr → Type 0 where
  leaf_at : {i p n : ℕ} {l : AnyLeaf} → tree_at table i ≡ Leaf l p n → Tree table i (leaf l p n)
  unary_at : {i p j : ℕ} {op : Prefix} {a : Expr} → tree_at table i ≡ Unary op p j → j < i → Tree table j a → Tree table i (unary op p a)
  binary_at : {i j k : ℕ} {op : Operator} {a b : Expr} → tree_at table i ≡ Binary op j k → j < i → k < i → Tree table j a → Tree table k b → Tree table i (binary op a b)
  choice_at : {i j k l : ℕ} {a b c : Expr} → tree_at table i ≡ Choice j k l → j < i → k < i → l < i → Tree table j a → Tree table k b → Tree table l c → Tree table i (choice a b c)

-- the statement at an index, if there is one, is the last of the statements ss
pub data Listed (table : List TreeEntry) : Option ℕ → List Expr → Type 0 where
  no_more : Listed table None []
  one_more : {i : Option ℕ} {j k : ℕ} {ss : List Expr} {e : Expr} → tree_at table k ≡ Statement i j → IfSome i (λ h. h < k) → j < k → Listed table i ss → Tree table j e → Listed table (Some k) (ss ++ e ∷ [])

-- the entry is an expression's
pub data Expression : TreeEntry → Type 0 where
  is_leaf : {l : AnyLeaf} {p n : ℕ} → Expression (Leaf l p n)
  is_unary : {op : Prefix} {p j : ℕ} → Expression (Unary op p j)
  is_binary : {op : Operator} {j k : ℕ} → Expression (Binary op j k)
  is_choice : {j k l : ℕ} → Expression (Choice j k l)

-- the part at j of an entry at i is an expression, and lower
pub record Part (table : List TreeEntry) (i j : ℕ) : Type 0 where
  pub lower : j < i
  pub expression : Expression (tree_at table j)

-- the entry at j, if j is an index, is a statement, and lower than i
abbrev pub Earlier : List TreeEntry → ℕ → Option ℕ → Type 0
Earlier table i j = IfSome j (λ k. (k < i) × (m : Option ℕ) × (n : ℕ) × (tree_at table k ≡ Statement m n))

-- the entry e at i is of a known kind, its places lie in a sheet of this size, and its parts are lower
pub data Proper (sheet : ℕ) (table : List TreeEntry) (i : ℕ) : TreeEntry → Type 0 where
  proper_leaf : {l : AnyLeaf} {p n : ℕ} → p < sheet → p + n ≤ sheet → Proper sheet table i (Leaf l p n)
  proper_unary : {op : Prefix} {p j : ℕ} → p < sheet → Part table i j → Proper sheet table i (Unary op p j)
  proper_binary : {op : Operator} {j k : ℕ} → Part table i j → Part table i k → Proper sheet table i (Binary op j k)
  proper_choice : {j k l : ℕ} → Part table i j → Part table i k → Part table i l → Proper sheet table i (Choice j k l)
  proper_statement : {j : Option ℕ} {k : ℕ} → Earlier table i j → Part table i k → Proper sheet table i (Statement j k)

-- the first n entries are
abbrev pub AllProper : ℕ → List TreeEntry → ℕ → Type 0
AllProper sheet table n = (i : ℕ) → i < n → Proper sheet table i (tree_at table i)

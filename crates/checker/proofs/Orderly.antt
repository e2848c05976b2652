-- Entries of a tree table, in order or not. Assumes nothing.
use Rattle.std.proofs.Common.{◌≡◌, ℕ, zero, suc, ◌+◌, ◌<◌, ◌≤◌, Bool, true, List, Option, Decides, ◌⊎◌, inl, inr, sym, refl, subst, arith}
use Rattle.parser.specs.declared.symbols.Leaf.{Leaf as AnyLeaf}
use Rattle.parser.specs.declared.symbols.Prefix.{Prefix}
use Rattle.parser.specs.declared.symbols.Operator.{Operator}
use Rattle.parser.specs.declared.tree.TreeEntry.{TreeEntry}
use Rattle.parser.specs.declared.tree.TreeEntry.TheVariants.{Leaf, Unary, Binary, Choice, Statement}
use Rattle.parser.specs.Syntax.{Expr}
use Rattle.parser.specs.Table.{last_of, Listed, one_more, Expression, is_leaf, is_unary, is_binary, is_choice, Part, Earlier, Proper, proper_leaf, proper_unary, proper_binary, proper_choice, proper_statement}

-- a fact, where it is told
pub says_yes : {P : Type 0} → P → Decides true P
says_yes p = (λ e. p, λ q. refl)

-- the entry of an expression
pub an_expression : {e : TreeEntry} → ((l : AnyLeaf) × (p n : ℕ) × (e ≡ Leaf l p n)) ⊎ (((op : Prefix) × (p j : ℕ) × (e ≡ Unary op p j)) ⊎ (((op : Operator) × (j k : ℕ) × (e ≡ Binary op j k)) ⊎ ((j k l : ℕ) × (e ≡ Choice j k l)))) → Expression e
an_expression (inl h) = subst (λ e. Expression e) (sym h.3) is_leaf
an_expression (inr (inl h)) = subst (λ e. Expression e) (sym h.3) is_unary
an_expression (inr (inr (inl h))) = subst (λ e. Expression e) (sym h.3) is_binary
an_expression (inr (inr (inr h))) = subst (λ e. Expression e) (sym h.3) is_choice

module _ {sheet : ℕ} {table : List TreeEntry} {i : ℕ} where
  -- an entry whose variant is known
  pub known : {e f : TreeEntry} {r : Bool} → f ≡ e → Decides r (Proper sheet table i f) → Decides r (Proper sheet table i e)
  known {r} is d = subst (λ x. Decides r (Proper sheet table i x)) is d

  leaf_parts : {l : AnyLeaf} {p n : ℕ} → Proper sheet table i (Leaf l p n) → (p < sheet) × (p + n ≤ sheet)
  leaf_parts (proper_leaf lt le) = (lt, le)

  pub leaf_told : {l : AnyLeaf} {p n : ℕ} {r : Bool} → Decides r ((p < sheet) × (p + n ≤ sheet)) → Decides r (Proper sheet table i (Leaf l p n))
  leaf_told d = (λ e. let x = d.0 e in proper_leaf x.0 x.1, λ x. d.1 (leaf_parts x))

  unary_parts : {op : Prefix} {p j : ℕ} → Proper sheet table i (Unary op p j) → (p < sheet) × Part table i j
  unary_parts (proper_unary lt x) = (lt, x)

  pub unary_told : {op : Prefix} {p j : ℕ} {r : Bool} → p < sheet → Decides r (Part table i j) → Decides r (Proper sheet table i (Unary op p j))
  unary_told lt d = (λ e. proper_unary lt (d.0 e), λ x. d.1 (unary_parts x).1)

  binary_parts : {op : Operator} {j k : ℕ} → Proper sheet table i (Binary op j k) → Part table i j × Part table i k
  binary_parts (proper_binary x y) = (x, y)

  pub binary_told : {op : Operator} {j k : ℕ} {r : Bool} → Decides true (Part table i j) → Decides r (Part table i k) → Decides r (Proper sheet table i (Binary op j k))
  binary_told a d = (λ e. proper_binary (a.0 refl) (d.0 e), λ x. d.1 (binary_parts x).1)

  choice_parts : {j k l : ℕ} → Proper sheet table i (Choice j k l) → Part table i j × Part table i k × Part table i l
  choice_parts (proper_choice x y z) = (x, y, z)

  pub choice_told : {j k l : ℕ} {r : Bool} → Part table i j → Part table i k → Decides r (Part table i l) → Decides r (Proper sheet table i (Choice j k l))
  choice_told a b d = (λ e. proper_choice a b (d.0 e), λ x. d.1 (choice_parts x).2)

  statement_parts : {j : Option ℕ} {k : ℕ} → Proper sheet table i (Statement j k) → Earlier table i j × Part table i k
  statement_parts (proper_statement x y) = (x, y)

  pub statement_told : {j : Option ℕ} {k : ℕ} {r : Bool} → Decides true (Earlier table i j) → Decides r (Part table i k) → Decides r (Proper sheet table i (Statement j k))
  statement_told a d = (λ e. proper_statement (a.0 refl) (d.0 e), λ x. d.1 (statement_parts x).1)

-- the last of the statements is one of the entries
pub last_earlier : {table : List TreeEntry} {ss : List Expr} (used : ℕ) → Listed table (last_of used) ss → Earlier table used (last_of used)
last_earlier zero h = tt
last_earlier (suc n) (one_more {i = i} {j = j} is a b x y) = (omega arith, i, j, is)

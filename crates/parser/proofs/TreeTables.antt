-- What a write above the entries in use leaves. Assumes nothing.
use Rattle.std.proofs.Common.{◌≡◌, ℕ, suc, ◌+◌, ◌<◌, ◌≤◌, List, length, set, IfSome, Some, None, Option, sym, ap, ◌∙◌, subst, below_more, arith, length-set, get_or-set_other, get_or-set_same}
use Rattle.std.proofs.lemmas.Option.{IfSome_then}
use Rattle.parser.specs.declared.tree.TreeEntry.{TreeEntry}
use Rattle.parser.specs.declared.tree.TreeEntry.TheVariants.{Blank}
use Rattle.parser.specs.declared.tree.OperatorEntry.{OperatorEntry}
use Rattle.parser.specs.Syntax.{Expr}
use Rattle.parser.specs.Table.{tree_at, last_of, Tree, leaf_at, unary_at, binary_at, choice_at, Listed, no_more, one_more, Expression, is_leaf, is_unary, is_binary, is_choice, Part as Below, Earlier, Proper, proper_leaf, proper_unary, proper_binary, proper_choice, proper_statement, AllProper}
use Rattle.parser.specs.Machine.{Part}
use Rattle.parser.specs.Holds.{Kept, Frames, no_frame, an_infix, a_prefix, an_otherwise, a_bracket, a_consequent, Before}

pub last_more : (n : ℕ) → last_of (n + 1) ≡ Some n
last_more n = let e : n + 1 ≡ suc n = omega arith in ap last_of e

pub kept_set : (n : ℕ) (table : List TreeEntry) (y : TreeEntry) → Kept n table (set table n y)
kept_set n table y = record { long = length-set table n y; same = λ i l. get_or-set_other table n i y Blank (omega arith) }

pub set_at : (n : ℕ) (table : List TreeEntry) (y : TreeEntry) → n < length table → tree_at (set table n y) n ≡ y
set_at n table y l = get_or-set_same table n y Blank l

pub tree_kept : {n : ℕ} {old new : List TreeEntry} {i : ℕ} {e : Expr} → Kept n old new → i < n → Tree old i e → Tree new i e
tree_kept k l (leaf_at a) = leaf_at (k.same _ l ∙ a)
tree_kept k l (unary_at a p s) = unary_at (k.same _ l ∙ a) p (tree_kept k (omega arith) s)
tree_kept k l (binary_at a p q s t) = binary_at (k.same _ l ∙ a) p q (tree_kept k (omega arith) s) (tree_kept k (omega arith) t)
tree_kept k l (choice_at a p q r s t u) = choice_at (k.same _ l ∙ a) p q r (tree_kept k (omega arith) s) (tree_kept k (omega arith) t) (tree_kept k (omega arith) u)

pub listed_kept : {n : ℕ} {old new : List TreeEntry} {d : Option ℕ} {ss : List Expr} → Kept n old new → IfSome d (λ i. i < n) → Listed old d ss → Listed new d ss
listed_kept k l no_more = no_more
listed_kept k l (one_more {i} a p q s t) = one_more (k.same _ l ∙ a) p q (listed_kept k (IfSome_then i p (λ h m. omega arith)) s) (tree_kept k (omega arith) t)

pub frames_kept : {sheet n : ℕ} (m : ℕ) {old new : List TreeEntry} {fs : List OperatorEntry} {ps : List Part} → Kept n old new → n ≤ m → Frames sheet old n fs ps → Frames sheet new m fs ps
frames_kept m k l no_frame = no_frame
frames_kept m k l (a_bracket f) = a_bracket (frames_kept m k l f)
frames_kept m k l (an_infix p t f) = an_infix (omega arith) (tree_kept k p t) (frames_kept m k l f)
frames_kept m k l (a_prefix p f) = a_prefix p (frames_kept m k l f)
frames_kept m k l (an_otherwise p q s t f) = an_otherwise (omega arith) (omega arith) (tree_kept k p s) (tree_kept k q t) (frames_kept m k l f)
frames_kept m k l (a_consequent p t f) = a_consequent (omega arith) (tree_kept k p t) (frames_kept m k l f)

-- entries in order

tree_expression : {table : List TreeEntry} {i : ℕ} {e : Expr} → Tree table i e → Expression (tree_at table i)
tree_expression (leaf_at a) = subst Expression (sym a) is_leaf
tree_expression (unary_at a p s) = subst Expression (sym a) is_unary
tree_expression (binary_at a p q s t) = subst Expression (sym a) is_binary
tree_expression (choice_at a p q r s t u) = subst Expression (sym a) is_choice

pub below : {table : List TreeEntry} {i j : ℕ} {e : Expr} → j < i → Tree table j e → Below table i j
below l t = record { lower = l; expression = tree_expression t }

pub earlier : (n : ℕ) {table : List TreeEntry} {d : Option ℕ} {ss : List Expr} → IfSome d (λ i. i < n) → Listed table d ss → Earlier table n d
earlier n l no_more = tt
earlier n l (one_more {i = i} {j = j} a p q s t) = (l, i, j, a)

below_kept : {n i j : ℕ} {old new : List TreeEntry} → Kept n old new → i < n → Below old i j → Below new i j
below_kept k l p = record { lower = p.lower; expression = subst Expression (sym (k.same _ (omega (arith, p.lower)))) p.expression }

earlier_kept : {n i : ℕ} (j : Option ℕ) {old new : List TreeEntry} → Kept n old new → i < n → Earlier old i j → Earlier new i j
earlier_kept None k l e = tt
earlier_kept (Some j) k l e = (e.0, e.1, e.2, k.same _ (omega (arith, e.0)) ∙ e.3)

proper_kept : {sheet n i : ℕ} {old new : List TreeEntry} {x : TreeEntry} → Kept n old new → i < n → Proper sheet old i x → Proper sheet new i x
proper_kept k l (proper_leaf a b) = proper_leaf a b
proper_kept k l (proper_unary a p) = proper_unary a (below_kept k l p)
proper_kept k l (proper_binary p q) = proper_binary (below_kept k l p) (below_kept k l q)
proper_kept k l (proper_choice p q r) = proper_choice (below_kept k l p) (below_kept k l q) (below_kept k l r)
proper_kept k l (proper_statement p q) = proper_statement (earlier_kept _ k l p) (below_kept k l q)

pub proper_more : {sheet n : ℕ} {old new : List TreeEntry} (y : TreeEntry) → Kept n old new → tree_at new n ≡ y → Proper sheet new n y → AllProper sheet old n → AllProper sheet new (n + 1)
proper_more {sheet} {n} {new = new} y k is p all =
    below_more (λ i. Proper sheet new i (tree_at new i)) n
    (λ i h. subst (Proper sheet new i) (sym (k.same i h)) (proper_kept k h (all i h)))
    (subst (Proper sheet new n) (sym is) p)

-- one entry more
pub before_more : {sheet n : ℕ} {d : Option ℕ} {table : List TreeEntry} {fs : List OperatorEntry} {b : List Expr} {ps : List Part} (y : TreeEntry) → n < length table → Proper sheet (set table n y) n y → Before sheet table fs n d b ps → Before sheet (set table n y) fs (n + 1) d b ps
before_more {sheet} {n} {d} {table} y room p h =
    let k = kept_set n table y in
    record {
      frames = frames_kept (n + 1) k (omega arith) h.frames;
      ready = h.ready;
      listed = listed_kept k h.low h.listed;
      low = IfSome_then d h.low (λ i l. omega arith);
      proper = proper_more y k (set_at n table y room) p h.proper;
    }

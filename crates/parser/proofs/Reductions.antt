-- Applying the pending operators, one and then all. Assumes nothing.
use Rattle.std.proofs.Common.{◌≡◌, ℕ, ◌+◌, ◌<◌, ◌≤◌, List, [], ◌∷◌, length, set, Some, None, Option, sym, refl, ◌∙◌, subst, arith, MatchOption}
use Rattle.stack.specs.Items.{held}
use Rattle.parser.specs.declared.symbols.Token.{Token}
use Rattle.parser.specs.declared.tree.TreeEntry.{TreeEntry}
use Rattle.parser.specs.declared.tree.OperatorEntry.{OperatorEntry}
use Rattle.parser.specs.declared.builder.Builder.{Builder}
use Rattle.parser.specs.Building.{Adds, Completes}
use Rattle.parser.specs.Syntax.{Expr, size, sizes}
use Rattle.parser.specs.Table.{tree_at, Tree, binary_at, unary_at, choice_at, Proper, proper_unary, proper_binary, proper_choice}
use Rattle.parser.specs.Machine.{Right, right_infix, right_prefix, otherwise, wanted, tightness, built, Part, right, wants, Ready}
use Rattle.parser.specs.Holds.{Operand, Kept, Frames, an_infix, a_prefix, an_otherwise, a_bracket, a_consequent, spent, Before, Ends, AfterAll, Reduced, completion, awaits}
use Rattle.parser.proofs.Corner.{left_fits}
use Rattle.parser.proofs.Counting.{built_size}
use Rattle.parser.proofs.Turns.{never, reduce}
use Rattle.parser.proofs.TreeTables.{kept_set, set_at, tree_kept, below, before_more}

-- the top that was seen is the top that is taken
pub popped : {T : Type 0} (fs fs' rest : List T) (x : T) (r : Option T) → fs ≡ x ∷ rest → MatchOption r ((fs ≡ []) × (fs' ≡ [])) (λ y. fs ≡ y ∷ fs') → fs ≡ x ∷ fs'
popped fs fs' rest x None e c = let n = c.0 in cc
popped fs fs' rest x (Some y) e c = cc

-- the operand completes the part on top, whose entry is written above it
pub reduced_one : (table : List TreeEntry) (fs : List OperatorEntry) (x : OperatorEntry) (y : TreeEntry) (o : Operand) (least : ℕ) → completion x o.at ≡ Some y → least ≤ awaits x → o.used < length table → Reduced table (x ∷ fs) o least (set table o.used y) fs (record { at = o.used; used = o.used + 1 })
reduced_one table fs x y o least made waits room = record { turns = λ sheet last k b ps e t h g d. go sheet last k b e t h.low h.tree d made waits h.before.frames h.before.ready h.fits h.exact (λ qs fr r. record { frames = fr; ready = r; listed = h.before.listed; low = h.before.low; proper = h.before.proper }) }
  where
    kept : Kept o.used table (set table o.used y)
    kept = kept_set o.used table y

    at : {z : TreeEntry} → Some z ≡ Some y → tree_at (set table o.used y) o.used ≡ z
    at q = let s = set_at o.used table y room in cc

    is : {z : TreeEntry} → Some z ≡ Some y → z ≡ y
    is q = cc

    done : (sheet : ℕ) (last : Option ℕ) (k : ℕ) (b : List Expr) (e : Expr) (t : Token) (r : Right) {ps : List Part} → Ends t least → least ≤ wanted r → Before sheet table fs o.used last b ps → wants ps ≤ tightness r → wanted r ≤ k → o.used ≡ sizes b + (spent (right r ∷ ps) + size e) → Tree (set table o.used y) o.used (built r e) → Proper sheet (set table o.used y) o.used y → AfterAll sheet (set table o.used y) fs (record { at = o.used; used = o.used + 1 }) last k b (right r ∷ ps) e t
    done sheet last k b e t r {ps} d l h q w n tree p = record {
      tight = tightness r;
      tree = built r e;
      parts = ps;
      ended = record { before = before_more y room p h; fits = q; low = omega arith; tree = tree; exact = omega (arith, built_size r ps e) };
      goes = λ f is. left_fits r f (omega (arith, d f is));
      same = λ ts. reduce b ps k r e t ts (λ f is. omega (arith, d f is)) w;
    }

    go : (sheet : ℕ) (last : Option ℕ) (k : ℕ) (b : List Expr) (e : Expr) (t : Token) {x : OperatorEntry} {ps : List Part} → o.at < o.used → Tree table o.at e → Ends t least → completion x o.at ≡ Some y → least ≤ awaits x → Frames sheet table o.used (x ∷ fs) ps → Ready ps → wants ps ≤ k → o.used ≡ sizes b + (spent ps + size e) → ((qs : List Part) → Frames sheet table o.used fs qs → Ready qs → Before sheet table fs o.used last b qs) → AfterAll sheet (set table o.used y) fs (record { at = o.used; used = o.used + 1 }) last k b ps e t
    go sheet last k b e t low tree d q l (an_infix {op = op} {a = a} p s f) r w n h =
        let s' = tree_kept kept p s in
        let tree' = tree_kept kept low tree in
        done sheet last k b e t (right_infix op a) d l (h _ f r.1) r.0 w n (binary_at (at q) p low s' tree') (subst (Proper sheet _ _) (is q) (proper_binary (below p s') (below low tree')))
    go sheet last k b e t low tree d q l (a_prefix {op = op} {p = place} p f) r w n h =
        let tree' = tree_kept kept low tree in
        done sheet last k b e t (right_prefix op place) d l (h _ f r.1) r.0 w n (unary_at (at q) low tree') (subst (Proper sheet _ _) (is q) (proper_unary p (below low tree')))
    go sheet last k b e t low tree d q l (an_otherwise {a = a} {b = c} p p' s u f) r w n h =
        let s' = tree_kept kept p s in
        let u' = tree_kept kept p' u in
        let tree' = tree_kept kept low tree in
        done sheet last k b e t (otherwise a c) d l (h _ f r.1) r.0 w n (choice_at (at q) p p' low s' u' tree') (subst (Proper sheet _ _) (is q) (proper_choice (below p s') (below p' u') (below low tree')))
    go sheet last k b e t low tree d q l (a_bracket f) r w n h = never y refl q
    go sheet last k b e t low tree d q l (a_consequent p s f) r w n h = never y refl q

pub reduced_more : {a b c : List TreeEntry} {fs gs hs : List OperatorEntry} {o p q : Operand} {least : ℕ} → Reduced a fs o least b gs p → Reduced b gs p least c hs q → Reduced a fs o least c hs q
reduced_more r s = record {
  turns = λ sheet last k b ps e t h l y.
      let m = r.turns sheet last k b ps e t h l y in
      let n = s.turns sheet last m.tight b m.parts m.tree t m.ended m.goes y in
      record {
        tight = n.tight;
        tree = n.tree;
        parts = n.parts;
        ended = n.ended;
        goes = n.goes;
        same = λ ts all. (λ x. (n.same ts all).0 ((m.same ts all).0 x), λ x. (m.same ts all).1 ((n.same ts all).1 x));
      };
}

-- what holds of a builder with an entry more, by what it held before
pub added : {entry : TreeEntry} {old new : Builder} {at : ℕ} (P : List TreeEntry → List OperatorEntry → ℕ → Option ℕ → ℕ → Type 0) → Adds entry old new at → P (set old.tree.now old.used entry) (held old.parts) (old.used + 1) old.last old.used → P new.tree.now (held new.parts) new.used new.last at
added P a p = rw (a.tree, a.parts, a.used, a.last, a.index) p

pub completes_more : {a b c : Builder} {i j k least : ℕ} → Completes a i least b j → Completes b j least c k → Completes a i least c k
completes_more g h = record {
  grown = record {
    lent = h.grown.lent ∙ g.grown.lent;
    long = h.grown.long ∙ g.grown.long;
    space = h.grown.space ∙ g.grown.space;
    few = omega (arith, g.grown.few, h.grown.few);
  };
  last = h.last ∙ g.last;
  reduced = reduced_more g.reduced h.reduced;
}

-- the same, where the top was seen and then taken
pub reduced_top : (table : List TreeEntry) (fs fs' rest : List OperatorEntry) (x : OperatorEntry) (y : TreeEntry) (r : Option OperatorEntry) (o : Operand) (least : ℕ) → fs ≡ x ∷ rest → MatchOption r ((fs ≡ []) × (fs' ≡ [])) (λ z. fs ≡ z ∷ fs') → completion x o.at ≡ Some y → least ≤ awaits x → o.used < length table → Reduced table fs o least (set table o.used y) fs' (record { at = o.used; used = o.used + 1 })
reduced_top table fs fs' rest x y r o least seen took made waits room =
    subst (λ f. Reduced table f o least (set table o.used y) fs' (record { at = o.used; used = o.used + 1 }))
    (sym (popped fs fs' rest x r seen took))
    (reduced_one table fs' x y o least made waits room)

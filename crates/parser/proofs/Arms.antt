-- What each arm of the reader's functions leaves. Assumes nothing.
use Rattle.std.proofs.Common.{◌≡◌, ℕ, ◌+◌, ◌<◌, ◌≤◌, List, [], ◌∷◌, ◌++◌, length, set, Some, None, Option, sym, refl, ap, ◌∙◌, subst, inl, inr, arith, MatchOption}
use Rattle.std.proofs.lemmas.Option.{same_Some}
use Rattle.parser.specs.declared.symbols.Leaf.{Leaf as AnyLeaf}
use Rattle.parser.specs.declared.symbols.Prefix.{Prefix as AnyPrefix}
use Rattle.parser.specs.declared.symbols.Operator.{Operator}
use Rattle.parser.specs.declared.symbols.Symbol.{Symbol}
use Rattle.parser.specs.declared.symbols.Symbol.TheVariants.{Other, Leaf, Prefix, Infix as AnInfix, Open, Close, Question, Colon, Semicolon}
use Rattle.parser.specs.declared.symbols.Token.{Token}
use Rattle.parser.specs.declared.symbols.Follow.{Follow}
use Rattle.parser.specs.declared.symbols.Follow.TheVariants.{Infix, Choice}
use Rattle.parser.specs.declared.tree.TreeEntry.{TreeEntry}
use Rattle.parser.specs.declared.tree.TreeEntry.TheVariants.{Leaf as LeafEntry, Statement}
use Rattle.parser.specs.declared.tree.OperatorEntry.{OperatorEntry}
use Rattle.parser.specs.declared.tree.OperatorEntry.TheVariants.{Infix as Waiting, Prefix as Applying, Otherwise, Bracket, Consequent}
use Rattle.parser.specs.declared.builder.Position.TheVariants.{Start, Want, After}
use Rattle.parser.specs.Syntax.{Expr, leaf, size, sizes}
use Rattle.parser.specs.Grammar.{leaf_of, before, follow, left, level, atom}
use Rattle.parser.specs.Table.{Tree, leaf_at, Listed, one_more, proper_leaf, proper_statement}
use Rattle.parser.specs.Machine.{right_infix, right_prefix, otherwise, Part, right, bracket, consequent, State, start, want, after, wants, Ready, Same, Dead}
use Rattle.parser.specs.Holds.{Operand, Progress, Within, Fits, Ends, AfterAll, Reduced, Kept, Frames, no_frame, an_infix, a_prefix, an_otherwise, a_bracket, a_consequent, spent, Before, Ended, at_start, at_want, at_after, Next, Lower}
use Rattle.parser.proofs.Corner.{left_atom}
use Rattle.parser.proofs.Counting.{sizes_more}
use Rattle.parser.proofs.Turns.{never, wants_prefix, at_infix, at_question, at_leaf, at_open, at_prefix, at_close, at_end, at_colon, Closer, not_closed}
use Rattle.parser.proofs.TreeTables.{last_more, kept_set, set_at, tree_kept, listed_kept, below, earlier, before_more}

-- a token that is an expression by itself: one entry more
pub step_leaf : {sheet : ℕ} {table : List TreeEntry} {fs : List OperatorEntry} {used : ℕ} {last : Option ℕ} {b : List Expr} {ps : List Part} (l : AnyLeaf) (t : Token) → t.symbol ≡ Leaf l → used < length table → Within sheet t → Before sheet table fs used last b ps × (used ≡ sizes b + spent ps) → Next sheet (set table used (LeafEntry l t.place t.len)) fs (record { used = used + 1; last = last; position = After used }) want b ps t
step_leaf {table = table} {used = used} {b = b} {ps = ps} l t is room within h = record {
  state = after atom (leaf l t.place t.len);
  statements = b;
  parts = ps;
  holds = record {
    before = before_more (LeafEntry l t.place t.len) room (proper_leaf within.0 within.1) h.0;
    stage = at_after (omega arith) (leaf_at (set_at used table (LeafEntry l t.place t.len) room)) (omega (arith, h.1));
  };
  same = λ ts. at_leaf b ps l t ts is;
}

-- one part more, and then an operand is wanted
pushed : {sheet : ℕ} {table : List TreeEntry} {gs hs : List OperatorEntry} {x : OperatorEntry} {used : ℕ} {last : Option ℕ} {b : List Expr} {ps qs : List Part} {s : State} (t : Token) (q : Part) → hs ≡ x ∷ gs → (Frames sheet table used gs ps → Frames sheet table used (x ∷ gs) (q ∷ ps)) → Ready (q ∷ ps) → Before sheet table gs used last b ps → used ≡ sizes b + spent (q ∷ ps) → ((ts : List Token) → Same s b qs (t ∷ ts) want b (q ∷ ps) ts) → Next sheet table hs (record { used = used; last = last; position = Want }) s b qs t
pushed {sheet} {table} {used = used} {b = b} {ps = ps} t q held frame ready h n same = record {
  state = want;
  statements = b;
  parts = q ∷ ps;
  holds = record {
    before = record { frames = subst (λ f. Frames sheet table used f (q ∷ ps)) (sym held) (frame h.frames); ready = ready; listed = h.listed; low = h.low; proper = h.proper };
    stage = at_want n;
  };
  same = same;
}

pub step_open : {sheet : ℕ} {table : List TreeEntry} {fs gs : List OperatorEntry} {used : ℕ} {last : Option ℕ} {b : List Expr} {ps : List Part} (t : Token) → t.symbol ≡ Open → gs ≡ Bracket ∷ fs → Before sheet table fs used last b ps × (used ≡ sizes b + spent ps) → Next sheet table gs (record { used = used; last = last; position = Want }) want b ps t
step_open {b = b} {ps = ps} t is held h = pushed t bracket held a_bracket h.0.ready h.0 h.1 (λ ts. at_open b ps t ts is)

-- no token is an expression by itself unless its symbol says so
pub no_leaf : (s : Symbol) → ((l : AnyLeaf) → s ≡ Leaf l → ⊥) → leaf_of s ≡ None
no_leaf Other f = refl
no_leaf (Leaf l) f = absurd (f l refl)
no_leaf (Prefix op) f = refl
no_leaf (AnInfix op) f = refl
no_leaf Open f = refl
no_leaf Close f = refl
no_leaf Question f = refl
no_leaf Colon f = refl
no_leaf Semicolon f = refl

pub step_prefix : {sheet : ℕ} {table : List TreeEntry} {fs gs : List OperatorEntry} {used : ℕ} {last : Option ℕ} {b : List Expr} {ps : List Part} (op : AnyPrefix) (t : Token) → Some op ≡ before t.symbol → leaf_of t.symbol ≡ None → Within sheet t → gs ≡ Applying op t.place ∷ fs → Before sheet table fs used last b ps × (used ≡ sizes b + spent ps) → Next sheet table gs (record { used = used; last = last; position = Want }) want b ps t
step_prefix {b = b} {ps = ps} op t is other within held h =
    pushed t (right (right_prefix op t.place)) held (a_prefix within.0) (wants_prefix ps, h.0.ready) h.0 h.1 (λ ts. at_prefix b ps op t ts (sym is) other)

-- after an operand

pub step_close : {sheet : ℕ} {table : List TreeEntry} {fs gs : List OperatorEntry} {o : Operand} {last : Option ℕ} {k : ℕ} {b : List Expr} {ps : List Part} {e : Expr} (t : Token) → t.symbol ≡ Close → fs ≡ Bracket ∷ gs → Ended sheet table fs o last k b ps e → Next sheet table gs (record { used = o.used; last = last; position = After o.at }) (after k e) b ps t
step_close {sheet} {table} {fs} {gs} {o} {last} {k} {b} {ps} {e} t is held h = go (subst (λ f. Frames sheet table o.used f ps) held h.before.frames) h.before.ready h.exact
  where
    go : {ps : List Part} → Frames sheet table o.used (Bracket ∷ gs) ps → Ready ps → o.used ≡ sizes b + (spent ps + size e) → Next sheet table gs (record { used = o.used; last = last; position = After o.at }) (after k e) b ps t
    go (a_bracket {ps = ps} f) r n = record {
      state = after atom e;
      statements = b;
      parts = ps;
      holds = record { before = record { frames = f; ready = r; listed = h.before.listed; low = h.before.low; proper = h.before.proper }; stage = at_after h.low h.tree n };
      same = λ ts. at_close b ps k e t ts is;
    }

pub step_end : {sheet : ℕ} {table : List TreeEntry} {fs gs : List OperatorEntry} {o : Operand} {last : Option ℕ} {k : ℕ} {b : List Expr} {ps : List Part} {e : Expr} (t : Token) → t.symbol ≡ Semicolon → fs ≡ [] → gs ≡ [] → o.used < length table → Ended sheet table fs o last k b ps e → Next sheet (set table o.used (Statement last o.at)) gs (record { used = o.used + 1; last = Some o.used; position = Start }) (after k e) b ps t
step_end {sheet} {table} {fs} {gs} {o} {last} {k} {b} {ps} {e} t is held left room h = go (subst (λ f. Frames sheet table o.used f ps) held h.before.frames) h.exact
  where
    kept : Kept o.used table (set table o.used (Statement last o.at))
    kept = kept_set o.used table (Statement last o.at)

    listed : Listed (set table o.used (Statement last o.at)) last b
    listed = listed_kept kept h.before.low h.before.listed

    tree : Tree (set table o.used (Statement last o.at)) o.at e
    tree = tree_kept kept h.low h.tree

    go : {ps : List Part} → Frames sheet table o.used [] ps → o.used ≡ sizes b + (spent ps + size e) → Next sheet (set table o.used (Statement last o.at)) gs (record { used = o.used + 1; last = Some o.used; position = Start }) (after k e) b ps t
    go no_frame n =
        let more = before_more {fs = []} {ps = []} (Statement last o.at) room (proper_statement (earlier _ h.before.low listed) (below h.low tree)) (record { frames = no_frame; ready = tt; listed = h.before.listed; low = h.before.low; proper = h.before.proper }) in
        record {
          state = start;
          statements = b ++ e ∷ [];
          parts = [];
          holds = record {
            before = record {
              frames = subst (λ f. Frames sheet (set table o.used (Statement last o.at)) (o.used + 1) f []) (sym left) no_frame;
              ready = tt;
              listed = one_more (set_at o.used table (Statement last o.at) room) h.before.low h.low listed tree;
              low = omega arith;
              proper = more.proper;
            };
            stage = at_start (omega (arith, sizes_more b e)) (sym (last_more o.used));
          };
          same = λ ts. at_end b k e t ts is;
        }

-- what is on top is not closed by t
pub unmet : {sheet : ℕ} {table : List TreeEntry} {fs : List OperatorEntry} {o : Operand} {last : Option ℕ} {k : ℕ} {b : List Expr} {ps : List Part} {e : Expr} (t : Token) → follow t.symbol ≡ None → ((ps : List Part) → Frames sheet table o.used fs ps → Closer ps t.symbol → ⊥) → Ended sheet table fs o last k b ps e → Dead (after k e) b ps t
unmet {k = k} {b} {ps} {e} t n other h = not_closed b ps k e t n (other ps h.before.frames)

pub not_end : {sheet : ℕ} {table : List TreeEntry} {fs : List OperatorEntry} {used : ℕ} (s : Symbol) → (s ≡ Semicolon → ⊥) → fs ≡ [] → (ps : List Part) → Frames sheet table used fs ps → Closer ps s → ⊥
not_end {sheet} {table} {fs} {used} s other held ps f = go (subst (λ f. Frames sheet table used f ps) held f)
  where
    go : {ps : List Part} → Frames sheet table used [] ps → Closer ps s → ⊥
    go no_frame = other

pub not_shut : {sheet : ℕ} {table : List TreeEntry} {fs gs : List OperatorEntry} {used : ℕ} (s : Symbol) → (s ≡ Close → ⊥) → fs ≡ Bracket ∷ gs → (ps : List Part) → Frames sheet table used fs ps → Closer ps s → ⊥
not_shut {sheet} {table} {fs} {gs} {used} s other held ps f = go (subst (λ f. Frames sheet table used f ps) held f)
  where
    go : {ps : List Part} → Frames sheet table used (Bracket ∷ gs) ps → Closer ps s → ⊥
    go (a_bracket f) = other

-- the branches of a choice
pub step_colon : {sheet : ℕ} {table : List TreeEntry} {fs gs hs : List OperatorEntry} {l : ℕ} {o : Operand} {last : Option ℕ} {k : ℕ} {b : List Expr} {ps : List Part} {e : Expr} (t : Token) → t.symbol ≡ Colon → fs ≡ Consequent l ∷ gs → hs ≡ Otherwise l o.at ∷ gs → Ended sheet table fs o last k b ps e → Next sheet table hs (record { used = o.used; last = last; position = Want }) (after k e) b ps t
step_colon {sheet} {table} {fs} {gs} {hs} {l} {o} {last} {k} {b} {ps} {e = e} t is top held h = go (subst (λ f. Frames sheet table o.used f ps) top h.before.frames) h.before.ready h.exact
  where
    go : {ps : List Part} → Frames sheet table o.used (Consequent l ∷ gs) ps → Ready ps → o.used ≡ sizes b + (spent ps + size e) → Next sheet table hs (record { used = o.used; last = last; position = Want }) (after k e) b ps t
    go (a_consequent {ps = ps} {a = a} p s fr) r n =
        pushed t (right (otherwise a e)) held (an_otherwise p h.low s h.tree) r (record { frames = fr; ready = r.1; listed = h.before.listed; low = h.before.low; proper = h.before.proper }) (omega arith) (λ ts. at_colon b ps a k e t ts is)

-- a token that goes on, or the end of an operand: what ends with the operand is completed first

some_none : {A : Type 0} {y : TreeEntry} → Some y ≡ None → A
some_none e = never _ refl (sym e)

pub lower_wants : {sheet : ℕ} {table : List TreeEntry} {n lv : ℕ} {fs : List OperatorEntry} {ps : List Part} → Lower (lv + 1) fs → Frames sheet table n fs ps → wants ps ≤ lv
lower_wants l no_frame = omega arith
lower_wants l (a_bracket f) = omega arith
lower_wants l (a_consequent p s f) = omega arith
lower_wants (inl l) (an_infix p s f) = omega arith
lower_wants (inr l) (an_infix p s f) = some_none (l 0)
lower_wants (inl l) (a_prefix p f) = omega arith
lower_wants (inr l) (a_prefix p f) = some_none (l 0)
lower_wants (inl l) (an_otherwise p q s s' f) = omega arith
lower_wants (inr l) (an_otherwise p q s s' f) = some_none (l 0)

-- the part on top does not end with its operand, and what would close it is not here
pub not_met : {sheet : ℕ} {table : List TreeEntry} {fs gs : List OperatorEntry} {used : ℕ} (x : OperatorEntry) (s : Symbol) → (x ≡ Bracket → ⊥) → ((l : ℕ) → x ≡ Consequent l → s ≡ Colon → ⊥) → Lower 0 fs → fs ≡ x ∷ gs → (ps : List Part) → Frames sheet table used fs ps → Closer ps s → ⊥
not_met {sheet} {table} {fs} {gs} {used} x s f g l held ps fr = go f g (subst (λ q. Lower 0 q) held l) (subst (λ q. Frames sheet table used q ps) held fr)
  where
    go : {x : OperatorEntry} {ps : List Part} → (x ≡ Bracket → ⊥) → ((l : ℕ) → x ≡ Consequent l → s ≡ Colon → ⊥) → Lower 0 (x ∷ gs) → Frames sheet table used (x ∷ gs) ps → Closer ps s → ⊥
    go f g l (a_bracket fr) = absurd (f refl)
    go f g l (a_consequent p s fr) = g _ refl
    go f g (inl l) (an_infix p s fr) = absurd (omega arith)
    go f g (inr l) (an_infix p s fr) = some_none (l 0)
    go f g (inl l) (a_prefix p fr) = absurd (omega arith)
    go f g (inr l) (a_prefix p fr) = some_none (l 0)
    go f g (inl l) (an_otherwise p q s s' fr) = absurd (omega arith)
    go f g (inr l) (an_otherwise p q s s' fr) = some_none (l 0)

pub fits_atom : (t : Token) → Fits t atom
fits_atom t f o = left_atom f

pub ends_follow : (t : Token) (f : Follow) → follow t.symbol ≡ Some f → Ends t (level f + 1)
ends_follow t f o g p = omega (arith, ap level (same_Some f g (sym o ∙ p)))

pub ends_other : (t : Token) (least : ℕ) → follow t.symbol ≡ None → Ends t least
ends_other t least n f o = never f n o

-- the part that a token opens
module _ {sheet : ℕ} {table : List TreeEntry} {gs hs : List OperatorEntry} {o : Operand} {last : Option ℕ} {k : ℕ} {b : List Expr} {ps : List Part} {e : Expr} (t : Token) (h : Ended sheet table gs o last k b ps e) where
  pub step_infix : (f : Follow) (op : Operator) → f ≡ Infix op → hs ≡ Waiting op o.at ∷ gs → follow t.symbol ≡ Some f → wants ps ≤ level f → left f ≤ k → Next sheet table hs (record { used = o.used; last = last; position = Want }) (after k e) b ps t
  step_infix f op is held goes low high =
      let low' = subst (λ g. wants ps ≤ level g) is low in
      pushed t (right (right_infix op e)) held (an_infix h.low h.tree) (low', h.before.ready) h.before (omega (arith, h.exact)) (λ ts. at_infix b ps k e t op ts (goes ∙ ap Some is) low' (subst (λ g. left g ≤ k) is high))

  pub step_question : (f : Follow) → f ≡ Choice → hs ≡ Consequent o.at ∷ gs → follow t.symbol ≡ Some f → wants ps ≤ level f → left f ≤ k → Next sheet table hs (record { used = o.used; last = last; position = Want }) (after k e) b ps t
  step_question f is held goes low high =
      let low' = subst (λ g. wants ps ≤ level g) is low in
      pushed t (consequent e) held (a_consequent h.low h.tree) (low', h.before.ready) h.before (omega (arith, h.exact)) (λ ts. at_question b ps k e t ts (goes ∙ ap Some is) low' (subst (λ g. left g ≤ k) is high))

-- the turn of what is left after the reductions is the turn of the whole
via_next : {sheet : ℕ} {new : List TreeEntry} {gs : List OperatorEntry} {o : Operand} {last : Option ℕ} {k : ℕ} {e : Expr} {ps : List Part} {t : Token} {table : List TreeEntry} {fs : List OperatorEntry} {p : Progress} {b : List Expr} (a : AfterAll sheet new gs o last k b ps e t) → Next sheet table fs p (after a.tight a.tree) b a.parts t → Next sheet table fs p (after k e) b ps t
via_next a n = record {
  state = n.state;
  statements = n.statements;
  parts = n.parts;
  holds = n.holds;
  same = λ ts all. (λ x. (n.same ts all).0 ((a.same ts all).0 x), λ x. (a.same ts all).1 ((n.same ts all).1 x));
}

pub via : {A : Type 0} {sheet : ℕ} {new : List TreeEntry} {gs : List OperatorEntry} {o : Operand} {last : Option ℕ} {k : ℕ} {e : Expr} {ps : List Part} {t : Token} {b : List Expr} (table : List TreeEntry) (fs : List OperatorEntry) (f : A → Progress) (a : AfterAll sheet new gs o last k b ps e t) (r : Option A) → MatchOption r (Dead (after a.tight a.tree) b a.parts t) (λ n. Next sheet table fs (f n) (after a.tight a.tree) b a.parts t) → MatchOption r (Dead (after k e) b ps t) (λ n. Next sheet table fs (f n) (after k e) b ps t)
via table fs f a None d = λ ts all x. d ts all ((a.same ts all).0 x)
via table fs f a (Some n) h = via_next a h

-- the last statement, by another name
pub relast : {sheet : ℕ} {table : List TreeEntry} {fs : List OperatorEntry} {o : Operand} {last last' : Option ℕ} {k : ℕ} {b : List Expr} {ps : List Part} {e : Expr} → last' ≡ last → Ended sheet table fs o last k b ps e → Ended sheet table fs o last' k b ps e
relast {sheet} {table} {fs} {o} {k = k} {b} {ps} {e} same h = subst (λ l. Ended sheet table fs o l k b ps e) (sym same) h

-- a token that goes on, after the reductions
pub goes_on_at : {sheet : ℕ} {old new newer : List TreeEntry} {fs gs hs : List OperatorEntry} {last : Option ℕ} {b : List Expr} {ps : List Part} {e : Expr} {i o : Operand} {p : Progress} (t : Token) (f : Follow) (lv : ℕ) → Some f ≡ follow t.symbol → lv ≡ level f → Reduced old fs i (lv + 1) new gs o → Lower (lv + 1) gs → Ended sheet old fs i last atom b ps e → ((ps : List Part) (k : ℕ) (e : Expr) (t : Token) → follow t.symbol ≡ Some f → wants ps ≤ level f → left f ≤ k → Ended sheet new gs o last k b ps e → Next sheet newer hs p (after k e) b ps t) → Next sheet newer hs p (after atom e) b ps t
goes_on_at {sheet} {old} {new} {fs} {gs} {last = last} {b = b} {ps = ps} {e} {i} {o} t f lv is same r lower h k =
    let q = subst (λ l. Reduced old fs i (l + 1) new gs o) same r in
    let a = q.turns sheet last atom b ps e t h (fits_atom t) (ends_follow t f (sym is)) in
    via_next a (k a.parts a.tight a.tree t (sym is) (lower_wants (subst (λ l. Lower (l + 1) gs) same lower) a.ended.before.frames) (a.goes f (sym is)) a.ended)

-- what a token leaves where an operand is wanted and the token begins one
pub ruleset operands = (step_leaf, step_open, step_prefix, no_leaf)

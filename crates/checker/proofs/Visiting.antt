-- One lemma for each entry of the tree that the walk visits. Assumes nothing.
use Rattle.std.proofs.Common.{◌≡◌, ℕ, suc, ◌+◌, ◌≤◌, List, [], ◌∷◌, ◌++◌, reverse, length, Ok, Err, Result, Some, None, Option, sym, refl, ap, ◌∙◌, subst, append_assoc, arith, length-append}
use Rattle.std.proofs.lemmas.List.{length-reverse}
use Rattle.std.proofs.lemmas.Option.{none-some, same_Some}
use Rattle.std.specs.Result.{IsErr}
use Rattle.stack.specs.Items.{held, room}
use Rattle.types.specs.Types.{Ty}
use Rattle.types.specs.declared.entries.Root.{Root}
use Rattle.registers.specs.Meaning.{Meaning, Sound}
use Rattle.parser.specs.declared.symbols.Leaf.{Leaf as AnyLeaf}
use Rattle.parser.specs.declared.symbols.Prefix.{Prefix}
use Rattle.parser.specs.declared.symbols.Operator.{Operator}
use Rattle.parser.specs.declared.tree.TreeEntry.{TreeEntry}
use Rattle.parser.specs.declared.tree.TreeEntry.TheVariants as entry
use Rattle.parser.specs.declared.tree.WalkFrame.{WalkFrame}
use Rattle.parser.specs.declared.tree.WalkFrame.TheVariants.{Statements, Expression, Unary, Binary, Choice}
use Rattle.parser.specs.Syntax as syntax
use Rattle.parser.specs.Syntax.{Expr, place, size}
use Rattle.parser.specs.Table.{tree_at, Tree, leaf_at, unary_at, binary_at, choice_at, Listed, no_more, one_more}
use Rattle.checker.specs.declared.walk.Walk.{Walk}
use Rattle.checker.specs.declared.finding.Finding.{Finding}
use Rattle.checker.specs.declared.first.First.{First}
use Rattle.checker.specs.declared.store.Store.{Store}
use Rattle.checker.specs.declared.store.TooHeavy.{TooHeavy}
use Rattle.parser.specs.declared.symbols.Leaf.TheVariants.{Name}
use Rattle.checker.specs.Conditions.{Condition, bound}
use Rattle.checker.specs.Rules.{part, type_of, LeafRule, a_number, a_string, a_true, a_false, a_null, a_name, Note, ends, Typed, typed_leaf, typed_unary, typed_binary, typed_choice, AllTyped, typed_none}
use Rattle.checker.specs.Askings.{AsksName}
use Rattle.checker.specs.Makings.{MakesName, MakesLiteral}
use Rattle.checker.specs.Stores.{Tabled, Ready}
use Rattle.checker.specs.Owing.{Opd, exprs, turns, Owes, owes_none, owes_statements, owes_expression, owes_unary, owes_binary, owes_choice, Going, going}
use Rattle.checker.specs.Standing.{Pushed, State, state, SameLoans, Asks, Goes, Ending, Ends, Onward}
use Rattle.checker.proofs.Notes.{last_typed}
use Rattle.checker.proofs.Typable.{leaf_form}
use Rattle.checker.proofs.Logging.{asks_none, asks_as}
use Rattle.checker.proofs.Madely.{ready_as}
use Rattle.checker.proofs.Walking.{Finishing, finished, finished_failed}

pub size_pos : (e : Expr) → 1 ≤ size e
size_pos (syntax.leaf l p n) = omega arith
size_pos (syntax.unary op p e) = omega arith
size_pos (syntax.binary op a b) = omega arith
size_pos (syntax.choice a b c) = omega arith

-- there are no more frames than the bounds say
frames_few : {sheet : List ℕ} {Γ : Meaning} {table : List TreeEntry} {fs : List WalkFrame} {vs : List Opd} {ns : List Note} {k n : ℕ} → Owes sheet Γ table fs vs ns k n → (length fs ≤ n) × (length fs ≤ k)
frames_few owes_none = omega arith
frames_few (owes_statements l t o) = omega (arith, frames_few (o []))
frames_few (owes_expression {e = e} t y o) = omega (arith, frames_few o, size_pos e)
frames_few (owes_unary r o) = omega (arith, frames_few o)
frames_few (owes_binary r o) = omega (arith, frames_few o)
frames_few (owes_choice r o) = omega (arith, frames_few o)

pub frames_fit : {sheet : List ℕ} {Γ : Meaning} {table : List TreeEntry} {whole : List Note} {left : ℕ} {fs : List WalkFrame} {vs : List Opd} {ms : List Note} → Going sheet Γ table whole left fs vs ms → (length fs ≤ 4096) × (length fs ≤ left)
frames_fit (going o all enough small brief) = omega (arith, frames_few o)

exprs_last : (es : List Expr) (e : Expr) → exprs (es ++ e ∷ []) ≡ exprs es + size e
exprs_last [] e = omega arith
exprs_last (d ∷ es) e = omega (arith, exprs_last es e)

turns_last : (es : List Expr) (e : Expr) → turns (es ++ e ∷ []) ≡ turns es + suc (size e + size e)
turns_last [] e = omega arith
turns_last (d ∷ es) e = omega (arith, turns_last es e)

-- the expression that an entry is, by the entry
pub data Shape (table : List TreeEntry) : TreeEntry → Expr → Type 0 where
  leaf_shape : {l : AnyLeaf} {p n : ℕ} → Shape table (entry.Leaf l p n) (syntax.leaf l p n)
  unary_shape : {op : Prefix} {p j : ℕ} {a : Expr} → Tree table j a → Shape table (entry.Unary op p j) (syntax.unary op p a)
  binary_shape : {op : Operator} {j k : ℕ} {a b : Expr} → Tree table j a → Tree table k b → Shape table (entry.Binary op j k) (syntax.binary op a b)
  choice_shape : {j k l : ℕ} {a b c : Expr} → Tree table j a → Tree table k b → Tree table l c → Shape table (entry.Choice j k l) (syntax.choice a b c)

shape : {table : List TreeEntry} {i : ℕ} {e : Expr} → Tree table i e → Shape table (tree_at table i) e
shape {table} {e = e} (leaf_at q) = subst (λ x. Shape table x e) (sym q) leaf_shape
shape {table} {e = e} (unary_at q l a) = subst (λ x. Shape table x e) (sym q) (unary_shape a)
shape {table} {e = e} (binary_at q l m a b) = subst (λ x. Shape table x e) (sym q) (binary_shape a b)
shape {table} {e = e} (choice_at q l m n a b c) = subst (λ x. Shape table x e) (sym q) (choice_shape a b c)

-- the expression that is visited, and what is owed after it
pub data Visits (sheet : List ℕ) (Γ : Meaning) (table : List TreeEntry) (whole : List Note) (left : ℕ) (fs : List WalkFrame) (vs : List Opd) (ms : List Note) (x : TreeEntry) : Type 0 where
  visits : {e : Expr} {t : Ty} {ns rest : List Note} {k n : ℕ} → Shape table x e → Typed sheet Γ e t ns → Owes sheet Γ table fs ((place e, t) ∷ vs) rest k n
      → ms ++ (ns ++ rest) ≡ whole → size e + size e + k ≤ suc left → length vs + (size e + n) ≤ 4096 → length whole ≤ 16384 → Visits sheet Γ table whole left fs vs ms x

module _ {sheet : List ℕ} {Γ : Meaning} {table : List TreeEntry} {whole : List Note} {left : ℕ} {fs : List WalkFrame} {vs : List Opd} (ms : List Note) where
  pub visiting : {i : ℕ} (x : TreeEntry) → tree_at table i ≡ x → Going sheet Γ table whole (suc left) (Expression i ∷ fs) vs ms → Visits sheet Γ table whole left fs vs ms x
  visiting x q (going (owes_expression {e = e} tree typed o) all enough small brief) = visits (subst (λ y. Shape table y e) q (shape tree)) typed o all enough small brief

  -- a token
  pub leaf_going : {l : AnyLeaf} {p n : ℕ} → Visits sheet Γ table whole left fs vs ms (entry.Leaf l p n)
      → (t : Ty) × (cs : List Condition) × LeafRule sheet Γ p n l t cs × Going sheet Γ table whole left fs ((p, t) ∷ vs) (ms ++ ends cs t)
  leaf_going (visits {rest = rest} leaf_shape (typed_leaf {t = t} {cs = cs} rule) o all enough small brief) =
      (t, cs, rule, going o (append_assoc ms (ends cs t) rest ∙ all) (omega arith) (omega arith) brief)

  -- an operator before its operand
  pub unary_visit : {op : Prefix} {p j : ℕ} → Visits sheet Γ table whole left fs vs ms (entry.Unary op p j) → Going sheet Γ table whole left (Expression j ∷ Unary op p ∷ fs) vs ms
  unary_visit (visits (unary_shape a) (typed_unary ta rule) o all enough small brief) =
      going (owes_expression a ta (owes_unary rule o)) (simp append_assoc at all) (omega arith) (omega arith) brief

  -- an operator between its operands
  pub binary_visit : {op : Operator} {j k : ℕ} → Visits sheet Γ table whole left fs vs ms (entry.Binary op j k) → Going sheet Γ table whole left (Expression j ∷ Expression k ∷ Binary op ∷ fs) vs ms
  binary_visit (visits (binary_shape a b) (typed_binary ta tb rule) o all enough small brief) =
      going (owes_expression a ta (owes_expression b tb (owes_binary rule o))) (simp append_assoc at all) (omega arith) (omega arith) brief

  -- a choice
  pub choice_visit : {j k l : ℕ} → Visits sheet Γ table whole left fs vs ms (entry.Choice j k l) → Going sheet Γ table whole left (Expression j ∷ Expression k ∷ Expression l ∷ Choice ∷ fs) vs ms
  choice_visit (visits (choice_shape a b c) (typed_choice ta tb tc union) o all enough small brief) =
      going (owes_expression a ta (owes_expression b tb (owes_expression c tc (owes_choice union o)))) (simp append_assoc at all) (omega arith) (omega arith) brief

  -- no other entry is an expression
  pub no_visit : {x : TreeEntry} → Visits sheet Γ table whole left fs vs ms x → ((l : AnyLeaf) (p n : ℕ) → x ≡ entry.Leaf l p n → ⊥) → ((op : Prefix) (p j : ℕ) → x ≡ entry.Unary op p j → ⊥)
      → ((op : Operator) (j k : ℕ) → x ≡ entry.Binary op j k → ⊥) → ((j k l : ℕ) → x ≡ entry.Choice j k l → ⊥) → ⊥
  no_visit (visits leaf_shape t o all enough small brief) a b c d = a _ _ _ refl
  no_visit (visits (unary_shape x) t o all enough small brief) a b c d = b _ _ _ refl
  no_visit (visits (binary_shape x y) t o all enough small brief) a b c d = c _ _ _ refl
  no_visit (visits (choice_shape x y z) t o all enough small brief) a b c d = d _ _ _ refl

  -- the statements up to an index
  pub statements_done : (i : Option ℕ) → i ≡ None → Going sheet Γ table whole (suc left) (Statements i ∷ fs) vs ms → Going sheet Γ table whole left fs vs ms
  statements_done i z (going (owes_statements listed typed o) all enough small brief) = go z listed typed o all enough small
    where
      go : {i : Option ℕ} {es : List Expr} {ns rest : List Note} {k n : ℕ} → i ≡ None → Listed table i es → AllTyped sheet Γ es ns → ((us : List Opd) → Owes sheet Γ table fs us rest k n) → ms ++ (ns ++ rest) ≡ whole
          → suc (turns es) + k ≤ suc left → length vs + (suc (exprs es) + n) ≤ 4096 → Going sheet Γ table whole left fs vs ms
      go z no_more typed_none o all enough small = going (o vs) all (omega arith) (omega arith) brief
      go z (one_more q a b l t) typed o all enough small = absurd (none-some _ (sym z))

  pub statement_visit : (i : Option ℕ) (k : ℕ) (b : Option ℕ) (j : ℕ) → i ≡ Some k → tree_at table k ≡ entry.Statement b j → Going sheet Γ table whole (suc left) (Statements i ∷ fs) vs ms → Going sheet Γ table whole left (Statements b ∷ Expression j ∷ fs) vs ms
  statement_visit i k b j is q (going (owes_statements listed typed o) all enough small brief) = go is listed typed o all enough small
    where
      P : Option ℕ → ℕ → Type 0
      P b j = Going sheet Γ table whole left (Statements b ∷ Expression j ∷ fs) vs ms

      go : {i : Option ℕ} {es : List Expr} {ns rest : List Note} {l n : ℕ} → i ≡ Some k → Listed table i es → AllTyped sheet Γ es ns → ((us : List Opd) → Owes sheet Γ table fs us rest l n) → ms ++ (ns ++ rest) ≡ whole
          → suc (turns es) + l ≤ suc left → length vs + (suc (exprs es) + n) ≤ 4096 → Going sheet Γ table whole left (Statements b ∷ Expression j ∷ fs) vs ms
      go is no_more typed o all enough small = absurd (none-some _ is)
      go {rest = rest} is (one_more {i = b'} {j = j'} {k = k'} {ss = ss} {e = e} q' l m listed tree) typed o all enough small =
          let at = same_Some k' k is in
          let same : entry.Statement b' j' ≡ entry.Statement b j = sym q' ∙ (ap (tree_at table) at ∙ q) in
          let first : b' ≡ b = cc in
          let second : j' ≡ j = cc in
          let s = last_typed ss typed in
          let whole_is : ms ++ (s.0 ++ (s.1 ++ rest)) ≡ whole = ap (λ x. ms ++ x) (sym (append_assoc s.0 s.1 rest) ∙ ap (λ x. x ++ rest) (sym s.5)) ∙ all in
          let here : P b' j' = going (owes_statements listed s.3 (λ us. owes_expression tree s.4 (o _))) whole_is (omega (arith, turns_last ss e)) (omega (arith, exprs_last ss e)) brief in
          subst (λ x. P x j) first (subst (P b') second here)

  pub no_statement : (i : Option ℕ) (k : ℕ) → i ≡ Some k → ((b : Option ℕ) (j : ℕ) → tree_at table k ≡ entry.Statement b j → ⊥) → Going sheet Γ table whole (suc left) (Statements i ∷ fs) vs ms → ⊥
  no_statement i k is none (going (owes_statements listed typed o) all enough small brief) = go is listed
    where
      go : {i : Option ℕ} {es : List Expr} → i ≡ Some k → Listed table i es → ⊥
      go is no_more = none-some _ is
      go is (one_more {k = k'} q l m listed tree) = let at = same_Some k' k is in none _ _ (ap (tree_at table) (sym at) ∙ q)

-- frames were put on top
pub pushed_goes : {sheet : List ℕ} {Γ : Meaning} {table : List TreeEntry} {whole : List Note} {left : ℕ} (w v : Walk) (f : First Finding) (s : Store) (xs : List WalkFrame) {gs : List WalkFrame}
    (g : Goes sheet Γ table whole (suc left) gs (state w f s)) → Pushed w xs v → Going sheet Γ table whole left (reverse xs ++ held w.frames) g.operands g.notes → Goes sheet Γ table whole left (held v.frames) (state v f s)
pushed_goes {sheet} {Γ} {table} {whole} {left} w v f s xs g p h =
    let fit = (frames_fit h).0 in
    let long = length-append (reverse xs) (held w.frames) in
    let is = p.frames (omega (arith, long, length-reverse xs, g.rooms.frames)) in
    subst (λ x. Goes sheet Γ table whole left (held v.frames) (state x f s)) (sym p.rest)
    (record {
      notes = g.notes;
      operands = g.operands;
      tells = g.tells;
      tabled = g.tabled;
      holds = g.holds;
      rooms = record { frames = omega (arith, p.space, g.rooms.frames); operators = g.rooms.operators };
      goes = subst (λ l. Going sheet Γ table whole left l g.operands g.notes) (sym is) h;
    })

-- a token, whose conditions and type are still to be noted
pub leaf_finishing : {sheet : List ℕ} {Γ : Meaning} {table : List TreeEntry} {whole : List Note} {left : ℕ} {fs : List WalkFrame} (w : State) {gs : List WalkFrame} {p n : ℕ} {l : AnyLeaf} {t : Ty} {cs : List Condition}
    → Sound Γ → (g : Goes sheet Γ table whole (suc left) gs w) → LeafRule sheet Γ p n l t cs → Going sheet Γ table whole left fs ((p, t) ∷ g.operands) (g.notes ++ ends cs t)
    → Finishing sheet Γ table whole left fs w (held w.operators) p t cs
leaf_finishing {sheet} {Γ} w sound g rule h =
    record { notes = g.notes; operands = g.operands; tells = g.tells; tabled = g.tabled; holds = g.holds; rooms = g.rooms; formed = leaf_form sheet Γ sound rule; goes = h }

-- what a token sets

pub literal_asks : {sheet : List ℕ} {Γ : Meaning} {p n : ℕ} {l : AnyLeaf} {t : Ty} {cs : List Condition} → (l ≡ Name → ⊥) → LeafRule sheet Γ p n l t cs → cs ≡ []
literal_asks other (a_number h) = refl
literal_asks other (a_string h) = refl
literal_asks other a_true = refl
literal_asks other a_false = refl
literal_asks other a_null = refl
literal_asks other a_name = absurd (other refl)

pub name_rule : {sheet : List ℕ} {Γ : Meaning} {p n : ℕ} {t : Ty} {cs : List Condition} → LeafRule sheet Γ p n Name t cs → (t ≡ type_of (Γ (part sheet p n))) × (cs ≡ bound p (Γ (part sheet p n)) ∷ [])
name_rule a_name = (refl, refl)

-- the conditions of a token were asked and its type was made, while frames and operands stayed
pub record TokenMade (sheet : List ℕ) (Γ : Meaning) (p n : ℕ) (l : AnyLeaf) (w v : Walk) (f g : First Finding) (s r : Store) (m : Result Root TooHeavy) : Type 0 where
  pub frames : v.frames ≡ w.frames
  pub operators : v.operators ≡ w.operators
  pub lent : SameLoans (state w f s) (state v g r)
  pub made : (ts : List Ty) (t : Ty) (cs : List Condition) → Tabled s ts → LeafRule sheet Γ p n l t cs → Asks f cs g × Ready s r t m

module _ {sheet : List ℕ} {Γ : Meaning} {p n : ℕ} {l : AnyLeaf} {text : List ℕ} (same : text ≡ part sheet p n) where
  pub name_made : (w v : Walk) {f g : First Finding} {s r : Store} {m : Result Root TooHeavy} → l ≡ Name → v ≡ record w { room = v.room } → SameLoans (state w f s) (state v g r)
      → AsksName f Γ p text g → MakesName s Γ text r m → TokenMade sheet Γ p n l w v f g s r m
  name_made w v {f} {g} {s} {r} {m} is rest lent asks makes = record {
    frames = ap (λ x. x.frames) rest;
    operators = ap (λ x. x.operators) rest;
    lent = lent;
    made = λ ts t cs tabled rule.
        let x = name_rule (subst (λ k. LeafRule sheet Γ p n k t cs) is rule) in
        (asks_as _ _ x.1 (subst (λ b. Asks f (bound p (Γ b) ∷ []) g) same asks), ready_as _ _ _ x.0 (subst (λ b. Ready s r (type_of (Γ b)) m) same (makes ts tabled)));
  }

  pub literal_made : (w : Walk) {f : First Finding} {s r : Store} {m : Result Root TooHeavy} → (l ≡ Name → ⊥) → r.entries.ghost_name ≡ s.entries.ghost_name → MakesLiteral s l text r m → TokenMade sheet Γ p n l w w f f s r m
  literal_made w other lent makes = record {
    frames = refl;
    operators = refl;
    lent = (refl, lent);
    made = λ ts t cs tabled rule. (asks_as _ _ (literal_asks other rule) asks_none, makes ts sheet Γ p n t cs tabled same other rule);
  }

pub token_as : {sheet : List ℕ} {Γ : Meaning} {p n : ℕ} {l : AnyLeaf} {w v v' : Walk} {f g g' : First Finding} {s r r' : Store} {m m' : Root}
    → v ≡ v' → g ≡ g' → r ≡ r' → m ≡ m' → TokenMade sheet Γ p n l w v' f g' s r' (Ok m') → TokenMade sheet Γ p n l w v f g s r (Ok m)
token_as {sheet} {Γ} {p} {n} {l} {w} {v} {v'} {f} {g} {g'} {s} {r} {r'} {m} {m'} a b c d k =
    subst (λ x. TokenMade sheet Γ p n l w x f g s r (Ok m)) (sym a)
    (subst (λ x. TokenMade sheet Γ p n l w v' f x s r (Ok m)) (sym b)
    (subst (λ x. TokenMade sheet Γ p n l w v' f g' s x (Ok m)) (sym c)
    (subst (λ x. TokenMade sheet Γ p n l w v' f g' s r' (Ok x)) (sym d) k)))

module _ {sheet : List ℕ} {Γ : Meaning} {table : List TreeEntry} {i p n : ℕ} {l : AnyLeaf} (w v : Walk) {f g : First Finding} {s r : Store} (q : tree_at table i ≡ entry.Leaf l p n) where
  -- there was no room for its type
  pub token_failed : {e : TooHeavy} {b : Result (Unit {0}) TooHeavy} → TokenMade sheet Γ p n l w v f g s r (Err e) → IsErr b → Onward sheet Γ table (Expression i) (state w f s) (state v g r) b
  token_failed k is = record {
    lent = k.lent;
    onward = λ whole left sound h.
        let t = leaf_going h.notes (visiting h.notes _ q h.goes) in
        finished_failed _ _ (leaf_finishing _ sound h t.2 t.3) (k.made _ _ _ h.tabled t.2).1 is;
  }

  -- or it has ended with its type
  pub token_ended : {m : Root} {x : Walk} {y : Store} {b : Result (Unit {0}) TooHeavy} → TokenMade sheet Γ p n l w v f g s r (Ok m) → Ends v r p m x y b → Onward sheet Γ table (Expression i) (state w f s) (state x g y) b
  token_ended {m} {x} {y} k e = record {
    lent = (k.lent.0, e.lent ∙ k.lent.1);
    onward = λ whole left sound h.
        let t = leaf_going h.notes (visiting h.notes _ q h.goes) in
        let z = k.made _ _ _ h.tabled t.2 in
        e.ends sheet Γ table whole left g t.0
        (subst (λ c. Ending sheet Γ table whole left (held c) (state v g r) p t.0) (sym k.frames)
        (finished _ _ _ _ _ _ _ (leaf_finishing _ sound h t.2 t.3) (ap held k.operators) (ap room k.operators) k.frames z.0 z.1))
        z.1.in_hand;
  }

-- the same tables, and less to do
pub goes_with : {sheet : List ℕ} {Γ : Meaning} {table : List TreeEntry} {whole : List Note} {left : ℕ} {fs gs : List WalkFrame} {w : State} (g : Goes sheet Γ table whole (suc left) gs w) → Going sheet Γ table whole left fs g.operands g.notes → Goes sheet Γ table whole left fs w
goes_with g h = record { notes = g.notes; operands = g.operands; tells = g.tells; tabled = g.tabled; holds = g.holds; rooms = g.rooms; goes = h }

-- One lemma for each step of the walk. Assumes nothing.
use Rattle.std.proofs.Common.{◌≡◌, ℕ, suc, ◌+◌, ◌<◌, ◌≤◌, List, [], ◌∷◌, ◌++◌, length, Ok, Err, Result, sym, refl, ap, ◌∙◌, subst, append_assoc, append-nil, arith, length-append}
use Rattle.std.specs.Result.{IsErr}
use Rattle.std.proofs.lemmas.Bool.{false≢true}
use Rattle.stack.specs.Items.{held, room}
use Rattle.types.specs.declared.entries.TypeEntry.{TypeEntry}
use Rattle.types.specs.Types.{Ty, boolean, no_types, ◌and◌}
use Rattle.types.specs.Table.{Is}
use Rattle.types.proofs.Lower.{lower_only, higher}
use Rattle.types.specs.declared.entries.Root.{Root}
use Rattle.building.specs.Forms.{InForm}
use Rattle.building.specs.Made.{Kept}
use Rattle.building.specs.Unions.{UnionOf}
use Rattle.building.specs.Weights.{weight}
use Rattle.building.proofs.InOneForm.{union_in_form}
use Rattle.registers.specs.Meaning.{Meaning}
use Rattle.parser.specs.declared.symbols.Prefix.{Prefix}
use Rattle.parser.specs.declared.symbols.Operator.{Operator}
use Rattle.parser.specs.declared.tree.TreeEntry.{TreeEntry}
use Rattle.parser.specs.declared.tree.OperatorEntry.{OperatorEntry}
use Rattle.parser.specs.declared.tree.OperatorEntry.TheVariants.{Operand}
use Rattle.parser.specs.declared.tree.WalkFrame.{WalkFrame}
use Rattle.parser.specs.declared.tree.WalkFrame.TheVariants.{Unary, Binary, Choice}
use Rattle.checker.specs.declared.store.Store.{Store}
use Rattle.checker.specs.declared.store.TooHeavy.{TooHeavy}
use Rattle.checker.specs.declared.walk.Operand.{Operand as Popped}
use Rattle.checker.specs.Conditions.{Condition, fits}
use Rattle.checker.specs.Rules.{PrefixRule, InfixRule, Note, has, ends, conditions, types}
use Rattle.checker.specs.Findings.{weigh}
use Rattle.checker.specs.Stores.{entries, Tabled, InHand, Ready, KeptType}
use Rattle.checker.specs.Owing.{Opd, Owes, owes_unary, owes_binary, owes_choice, Going, going}
use Rattle.checker.specs.Standing.{Takes, Operands, no_operands, one_operand, State, Tells, Asks, Rooms, Goes, Ending, Stands}
use Rattle.checker.proofs.Logging.{conditions_append, types_append, asked, ends_asked, asked_conditions, asked_types, short}
use Rattle.checker.proofs.Stored.{tabled_ready, weigh_append}
use Rattle.checker.proofs.Typable.{prefix_form, infix_form, two_forms}

-- what holds of each error holds where an error is passed on
pub failed : {T E : Type 0} {r : Result T E} (P : Result T E → Type 0) → IsErr r → ((e : E) → P (Err e)) → P r
failed {r = Ok x} P h all = absurd (false≢true h)
failed {r = Err e} P h all = all e

-- operands

pub operands_length : {es : List TypeEntry} {used : ℕ} {gs : List OperatorEntry} {vs : List Opd} → Operands es used gs vs → length gs ≡ length vs
operands_length no_operands = refl
operands_length (one_operand h f o) = omega (arith, operands_length o)

-- they stand where the table is the same below, and more is in use
pub operands_moved : {es fs : List TypeEntry} {used : ℕ} (more : ℕ) {gs : List OperatorEntry} {vs : List Opd} → used ≤ more → Kept es fs used → Operands es used gs vs → Operands fs more gs vs
operands_moved more l k no_operands = no_operands
operands_moved {es} {fs} {used} more l k (one_operand {e = e} {t = t} h f o) = one_operand (higher more l (lower_only es fs used e t (λ j q. sym (k j q)) h)) f (operands_moved more l k o)

-- what is noted later adds to the load
more_load : (ms ns : List Note) (u : Ty) → weigh (types ms) + weight u ≤ weigh (types ((ms ++ has u ∷ []) ++ ns))
more_load ms ns u =
    let e = types_append (ms ++ has u ∷ []) ns in
    let f = types_append ms (has u ∷ []) in
    omega (arith, ap weigh e, ap weigh f, weigh_append (types (ms ++ has u ∷ [])) (types ns), weigh_append (types ms) (u ∷ []))

module _ {sheet : List ℕ} {Γ : Meaning} {table : List TreeEntry} {whole : List Note} {left : ℕ} where
  -- the expression that ended is too heavy
  pub ended_heavy : {fs : List WalkFrame} {w : State} {p : ℕ} {u : Ty} (h : Ending sheet Γ table whole left fs w p u) → 8192 < weigh (types h.notes) + weight u → 8192 < weigh (types whole)
  ended_heavy {fs} {w} {p} {u} h l = go h.goes
    where
      go : {fs : List WalkFrame} → Going sheet Γ table whole left fs ((p, u) ∷ h.operands) (h.notes ++ has u ∷ []) → 8192 < weigh (types whole)
      go (going {rest = rest} o all enough small brief) = subst (λ ns. 8192 < weigh (types ns)) all (omega (arith, more_load h.notes rest u))

  -- or it is kept
  pub ended_kept : {fs : List WalkFrame} (w v : State) (p : ℕ) (u : Ty) (m : Root) (h : Ending sheet Γ table whole left fs w p u) → InHand w.store u m
      → KeptType w.store m u (types h.notes) v.store → (length (held w.operators) < room w.operators → held v.operators ≡ Operand p m.entry ∷ held w.operators)
      → room v.operators ≡ room w.operators → v.frames ≡ w.frames → v.findings ≡ w.findings → Goes sheet Γ table whole left fs v
  ended_kept {fs} w v p u m h i k push space frames findings = record {
    notes = h.notes ++ has u ∷ [];
    operands = (p, u) ∷ h.operands;
    tells = subst (λ f. Tells f (conditions (h.notes ++ has u ∷ []))) (sym findings) (subst (Tells w.findings) (sym (conditions_append h.notes (has u ∷ []) ∙ append-nil (conditions h.notes))) h.tells);
    tabled = subst (Tabled v.store) (sym (types_append h.notes (has u ∷ []))) k.tabled;
    holds = subst (λ n. Operands (entries v.store) n (held v.operators) ((p, u) ∷ h.operands)) (sym k.used)
        (subst (λ gs. Operands (entries v.store) m.used gs ((p, u) ∷ h.operands)) (sym (push (omega (arith, room_for h.goes, operands_length h.holds, h.rooms.operators))))
        (one_operand (lower_only (entries w.store) (entries v.store) m.used m.entry u (λ j q. sym (k.kept j q)) i.holds) h.formed
        (operands_moved m.used i.more (λ j q. k.kept j (omega (arith, i.more))) h.holds)));
    rooms = record { frames = subst (λ f. 4096 ≤ room f) (sym frames) h.rooms.frames; operators = omega (arith, space, h.rooms.operators) };
    goes = h.goes;
  }
    where
      room_for : Going sheet Γ table whole left fs ((p, u) ∷ h.operands) (h.notes ++ has u ∷ []) → length h.operands < 4096
      room_for (going o all enough small brief) = omega arith

-- an expression whose parts are finished: what was asked, and the type, are still to be noted
pub record Finishing (sheet : List ℕ) (Γ : Meaning) (table : List TreeEntry) (whole : List Note) (left : ℕ) (fs : List WalkFrame) (w : State) (gs : List OperatorEntry) (p : ℕ) (u : Ty) (cs : List Condition) : Type 0 where
  pub notes : List Note
  pub operands : List Opd
  pub tells : Tells w.findings (conditions notes)
  pub tabled : Tabled w.store (types notes)
  pub holds : Operands (entries w.store) w.store.used gs operands
  pub rooms : Rooms w
  pub formed : InForm u
  pub goes : Going sheet Γ table whole left fs ((p, u) ∷ operands) (notes ++ ends cs u)

module _ {sheet : List ℕ} {Γ : Meaning} {table : List TreeEntry} {whole : List Note} {left : ℕ} {fs : List WalkFrame} where
  few_asked : {vs : List Opd} (ms : List Note) (cs : List Condition) (u : Ty) → Going sheet Γ table whole left fs vs (ms ++ ends cs u) → length (conditions ms ++ cs) ≤ 16384
  few_asked ms cs u (going {rest = rest} o all enough small brief) =
      let e = ap length all in
      let f = length-append (ms ++ ends cs u) rest in
      let g = length-append ms (ends cs u) in
      let h = ap length (ends_asked cs u) in
      let i = length-append (asked cs) (has u ∷ []) in
      let j = (short (asked cs)).0 in
      let k = ap length (asked_conditions cs) in
      let l = (short ms).0 in
      let m = length-append (conditions ms) cs in
      omega arith

  -- once its conditions are asked and its type is in hand, it has ended
  pub finished : (w v : State) (gs : List OperatorEntry) (p : ℕ) (u : Ty) (cs : List Condition) (m : Result Root TooHeavy) → Finishing sheet Γ table whole left fs w gs p u cs
      → held v.operators ≡ gs → room v.operators ≡ room w.operators → v.frames ≡ w.frames → Asks w.findings cs v.findings → Ready w.store v.store u m
      → Ending sheet Γ table whole left fs v p u
  finished w v gs p u cs m h taken space frames ask ready = record {
    notes = h.notes ++ asked cs;
    operands = h.operands;
    tells = subst (Tells v.findings) (sym (conditions_append h.notes (asked cs) ∙ ap (λ ds. conditions h.notes ++ ds) (asked_conditions cs))) (ask (conditions h.notes) (few_asked h.notes cs u h.goes) h.tells);
    tabled = subst (Tabled v.store) (sym (types_append h.notes (asked cs) ∙ (ap (λ ts. types h.notes ++ ts) (asked_types cs) ∙ append-nil (types h.notes)))) (tabled_ready h.tabled ready);
    holds = subst (λ l. Operands (entries v.store) v.store.used l h.operands) (sym taken)
        (subst (λ n. Operands (entries v.store) n gs h.operands) (sym ready.used) (operands_moved w.store.used (omega arith) ready.kept h.holds));
    rooms = record { frames = subst (λ f. 4096 ≤ room f) (sym frames) h.rooms.frames; operators = omega (arith, space, h.rooms.operators) };
    formed = h.formed;
    goes = subst (Going sheet Γ table whole left fs ((p, u) ∷ h.operands)) (ap (λ ns. h.notes ++ ns) (ends_asked cs u) ∙ sym (append_assoc h.notes (asked cs) (has u ∷ []))) h.goes;
  }

  -- or there is no room for its type
  finished_heavy : {w : State} {r : Store} {gs : List OperatorEntry} {p : ℕ} {u : Ty} {cs : List Condition} {e : TooHeavy} → Finishing sheet Γ table whole left fs w gs p u cs → Ready w.store r u (Err e) → 8192 < weigh (types whole)
  finished_heavy {w} {r} {gs} {p} {u} {cs} h ready = go h.goes
    where
      go : Going sheet Γ table whole left fs ((p, u) ∷ h.operands) (h.notes ++ ends cs u) → 8192 < weigh (types whole)
      go (going {rest = rest} o all enough small brief) =
          let parts = ap (λ ns. h.notes ++ ns) (ends_asked cs u) ∙ sym (append_assoc h.notes (asked cs) (has u ∷ [])) in
          let before = types_append h.notes (asked cs) ∙ (ap (λ ts. types h.notes ++ ts) (asked_types cs) ∙ append-nil (types h.notes)) in
          subst (λ ns. 8192 < weigh (types ns)) (ap (λ ns. ns ++ rest) (sym parts) ∙ all)
          (omega (arith, more_load (h.notes ++ asked cs) rest u, ap weigh before, h.tabled.load, ready.load, ready.in_hand))

  -- and then that is the answer
  pub finished_failed : {w : State} (v : State) {r : Store} {gs : List OperatorEntry} {p : ℕ} {u : Ty} {cs : List Condition} {e : TooHeavy} (b : Result (Unit {0}) TooHeavy)
      → Finishing sheet Γ table whole left fs w gs p u cs → Ready w.store r u (Err e) → IsErr b → Stands sheet Γ table whole left v b
  finished_failed v b h ready is = failed (Stands sheet Γ table whole left v) is (λ e. finished_heavy h ready)

-- the operands of a frame, taken off the stack
pub record OneTaken (es : List TypeEntry) (used : ℕ) (gs : List OperatorEntry) (p : ℕ) (t : Ty) (vs : List Opd) : Type 0 where
  pub entry : TypeEntry
  pub below : List OperatorEntry
  pub top : gs ≡ Operand p entry ∷ below
  pub is : Is es used entry t
  pub formed : InForm t
  pub rest : Operands es used below vs

pub one_taken : {es : List TypeEntry} {used : ℕ} {gs : List OperatorEntry} {p : ℕ} {t : Ty} {vs : List Opd} → Operands es used gs ((p, t) ∷ vs) → OneTaken es used gs p t vs
one_taken (one_operand {e = e} {gs = gs} h f o) = record { entry = e; below = gs; top = refl; is = h; formed = f; rest = o }

module _ {sheet : List ℕ} {Γ : Meaning} {table : List TreeEntry} {whole : List Note} {left : ℕ} {fs : List WalkFrame} (ms : List Note) where
  noted : {vs : List Opd} {rest : List Note} {k n : ℕ} (ns : List Note) → Owes sheet Γ table fs vs rest k n → ms ++ (ns ++ rest) ≡ whole → k ≤ left → length vs + n ≤ 4096 → length whole ≤ 16384 → Going sheet Γ table whole left fs vs (ms ++ ns)
  noted {rest = rest} ns o all enough small brief = going o (append_assoc ms ns rest ∙ all) enough small brief

  -- an operator before its operand
  pub unary_going : {op : Prefix} {p : ℕ} {ws : List Opd} → Going sheet Γ table whole (suc left) (Unary op p ∷ fs) ws ms
      → (q : ℕ) × (t u : Ty) × (cs : List Condition) × (vs : List Opd) × (ws ≡ (q, t) ∷ vs) × PrefixRule q t op u cs × Going sheet Γ table whole left fs ((p, u) ∷ vs) (ms ++ ends cs u)
  unary_going (going (owes_unary rule o) all enough small brief) = (_, _, _, _, _, refl, rule, noted _ o all (omega arith) (omega arith) brief)

  -- an operator between its operands
  pub binary_going : {op : Operator} {ws : List Opd} → Going sheet Γ table whole (suc left) (Binary op ∷ fs) ws ms
      → (p q : ℕ) × (s t u : Ty) × (cs : List Condition) × (vs : List Opd) × (ws ≡ (q, t) ∷ (p, s) ∷ vs) × InfixRule p s q t op u cs × Going sheet Γ table whole left fs ((p, u) ∷ vs) (ms ++ ends cs u)
  binary_going (going (owes_binary rule o) all enough small brief) = (_, _, _, _, _, _, _, refl, rule, noted _ o all (omega arith) (omega arith) brief)

  -- a choice
  pub choice_going : {ws : List Opd} → Going sheet Γ table whole (suc left) (Choice ∷ fs) ws ms
      → (p q o : ℕ) × (r s t u : Ty) × (vs : List Opd) × (ws ≡ (o, t) ∷ (q, s) ∷ (p, r) ∷ vs) × UnionOf (s and t and no_types) u × Going sheet Γ table whole left fs ((p, u) ∷ vs) (ms ++ ends (fits p r boolean ∷ []) u)
  choice_going (going (owes_choice union o) all enough small brief) = (_, _, _, _, _, _, _, _, refl, union, noted _ o all (omega arith) (omega arith) brief)

-- the type table has room for what is in use
pub in_table : {s : Store} {ts : List Ty} → Tabled s ts → s.used ≤ length (entries s)
in_table h = omega (arith, h.light, h.within, h.size)

module _ (sheet : List ℕ) (Γ : Meaning) (table : List TreeEntry) (whole : List Note) (left : ℕ) (fs : List WalkFrame) where
  -- an operator whose operand was taken off
  pub record UnaryReady (w : State) (op : Prefix) (p : ℕ) (v : Popped) (hs : List OperatorEntry) : Type 0 where
    pub operand : Ty
    pub result : Ty
    pub conditions : List Condition
    pub is : Is (entries w.store) w.store.used v.entry operand
    pub rule : PrefixRule v.place operand op result conditions
    pub finishing : Finishing sheet Γ table whole left fs w hs p result conditions

  pub unary_ready : (w : State) (op : Prefix) (p : ℕ) (v : Popped) (hs : List OperatorEntry) → Takes (held w.operators) v hs → Goes sheet Γ table whole (suc left) (Unary op p ∷ fs) w → UnaryReady w op p v hs
  unary_ready w op p v hs takes g =
      let a = unary_going g.notes g.goes in
      let o = one_taken (subst (Operands (entries w.store) w.store.used (held w.operators)) a.5 g.holds) in
      let k = takes a.0 o.entry o.below o.top in
      record {
        operand = a.1;
        result = a.2;
        conditions = a.3;
        is = subst (λ e. Is (entries w.store) w.store.used e a.1) (sym k.1) o.is;
        rule = subst (λ q. PrefixRule q a.1 op a.2 a.3) (sym k.0) a.6;
        finishing = record {
          notes = g.notes;
          operands = a.4;
          tells = g.tells;
          tabled = g.tabled;
          holds = subst (λ l. Operands (entries w.store) w.store.used l a.4) (sym k.2) o.rest;
          rooms = g.rooms;
          formed = prefix_form a.6;
          goes = a.7;
        };
      }

  -- an operator whose operands were taken off, the right one first
  pub record BinaryReady (w : State) (op : Operator) (a b : Popped) (hs : List OperatorEntry) : Type 0 where
    pub left_type : Ty
    pub right_type : Ty
    pub result : Ty
    pub conditions : List Condition
    pub is_left : Is (entries w.store) w.store.used a.entry left_type
    pub is_right : Is (entries w.store) w.store.used b.entry right_type
    pub right_formed : InForm right_type
    pub rule : InfixRule a.place left_type b.place right_type op result conditions
    pub finishing : Finishing sheet Γ table whole left fs w hs a.place result conditions

  pub binary_ready : (w : State) (op : Operator) (a b : Popped) (gs hs : List OperatorEntry) → Takes (held w.operators) b gs → Takes gs a hs → Goes sheet Γ table whole (suc left) (Binary op ∷ fs) w → BinaryReady w op a b hs
  binary_ready w op a b gs hs takes-b takes-a g =
      let d = binary_going g.notes g.goes in
      let o = one_taken (subst (Operands (entries w.store) w.store.used (held w.operators)) d.7 g.holds) in
      let k = takes-b d.1 o.entry o.below o.top in
      let r = one_taken (subst (λ l. Operands (entries w.store) w.store.used l ((d.0, d.2) ∷ d.6)) (sym k.2) o.rest) in
      let l = takes-a d.0 r.entry r.below r.top in
      let rule = subst (λ q. InfixRule a.place d.2 q d.3 op d.4 d.5) (sym k.0) (subst (λ p. InfixRule p d.2 d.1 d.3 op d.4 d.5) (sym l.0) d.8) in
      record {
        left_type = d.2;
        right_type = d.3;
        result = d.4;
        conditions = d.5;
        is_left = subst (λ e. Is (entries w.store) w.store.used e d.2) (sym l.1) r.is;
        is_right = subst (λ e. Is (entries w.store) w.store.used e d.3) (sym k.1) o.is;
        right_formed = o.formed;
        rule = rule;
        finishing = record {
          notes = g.notes;
          operands = d.6;
          tells = g.tells;
          tabled = g.tabled;
          holds = subst (λ x. Operands (entries w.store) w.store.used x d.6) (sym l.2) r.rest;
          rooms = g.rooms;
          formed = infix_form o.formed rule;
          goes = subst (λ p. Going sheet Γ table whole left fs ((p, d.4) ∷ d.6) (g.notes ++ ends d.5 d.4)) (sym l.0) d.9;
        };
      }

  -- a choice whose three parts were taken off, the last one first
  pub record ChoiceReady (w : State) (a b c : Popped) (hs : List OperatorEntry) : Type 0 where
    pub test : Ty
    pub then_type : Ty
    pub other_type : Ty
    pub result : Ty
    pub is_test : Is (entries w.store) w.store.used a.entry test
    pub is_then : Is (entries w.store) w.store.used b.entry then_type
    pub is_other : Is (entries w.store) w.store.used c.entry other_type
    pub then_formed : InForm then_type
    pub other_formed : InForm other_type
    pub union : UnionOf (then_type and other_type and no_types) result
    pub finishing : Finishing sheet Γ table whole left fs w hs a.place result (fits a.place test boolean ∷ [])

  pub choice_ready : (w : State) (a b c : Popped) (fs₁ gs hs : List OperatorEntry) → Takes (held w.operators) c fs₁ → Takes fs₁ b gs → Takes gs a hs → Goes sheet Γ table whole (suc left) (Choice ∷ fs) w → ChoiceReady w a b c hs
  choice_ready w a b c fs₁ gs hs takes-c takes-b takes-a g =
      let d = choice_going g.notes g.goes in
      let o = one_taken (subst (Operands (entries w.store) w.store.used (held w.operators)) d.8 g.holds) in
      let i = takes-c d.2 o.entry o.below o.top in
      let q = one_taken (subst (λ l. Operands (entries w.store) w.store.used l ((d.1, d.4) ∷ (d.0, d.3) ∷ d.7)) (sym i.2) o.rest) in
      let k = takes-b d.1 q.entry q.below q.top in
      let r = one_taken (subst (λ l. Operands (entries w.store) w.store.used l ((d.0, d.3) ∷ d.7)) (sym k.2) q.rest) in
      let l = takes-a d.0 r.entry r.below r.top in
      record {
        test = d.3;
        then_type = d.4;
        other_type = d.5;
        result = d.6;
        is_test = subst (λ e. Is (entries w.store) w.store.used e d.3) (sym l.1) r.is;
        is_then = subst (λ e. Is (entries w.store) w.store.used e d.4) (sym k.1) q.is;
        is_other = subst (λ e. Is (entries w.store) w.store.used e d.5) (sym i.1) o.is;
        then_formed = q.formed;
        other_formed = o.formed;
        union = d.9;
        finishing = record {
          notes = g.notes;
          operands = d.7;
          tells = g.tells;
          tabled = g.tabled;
          holds = subst (λ x. Operands (entries w.store) w.store.used x d.7) (sym l.2) r.rest;
          rooms = g.rooms;
          formed = union_in_form (two_forms q.formed o.formed) d.9;
          goes = subst (λ p. Going sheet Γ table whole left fs ((p, d.6) ∷ d.7) (g.notes ++ ends (fits p d.3 boolean ∷ []) d.6)) (sym l.0) d.10;
        };
      }

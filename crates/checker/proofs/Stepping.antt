-- The walk from step to step. Assumes nothing.
use Rattle.std.proofs.Common.{◌≡◌, ℕ, List, [], ◌∷◌, Result, sym, ap, ◌∙◌, subst, append-nil, arith}
use Rattle.std.proofs.lemmas.List.{nil_from_length}
use Rattle.stack.specs.Items.{held, room}
use Rattle.registers.specs.Meaning.{Meaning}
use Rattle.parser.specs.declared.tree.TreeEntry.{TreeEntry}
use Rattle.parser.specs.declared.tree.WalkFrame.{WalkFrame}
use Rattle.parser.specs.declared.tree.WalkFrame.TheVariants.{Blank}
use Rattle.checker.specs.declared.store.TooHeavy.{TooHeavy}
use Rattle.checker.specs.Rules.{Note, conditions, types}
use Rattle.checker.specs.Owing.{Opd, owes_none, Going, going}
use Rattle.checker.specs.Standing.{State, Goes, Tells, Onward}
use Rattle.checker.specs.Stores.{Tabled}
use Rattle.checker.proofs.Visiting.{frames_fit}

module _ {sheet : List ℕ} {Γ : Meaning} {table : List TreeEntry} {whole : List Note} {left : ℕ} where
  no_blank : {fs : List WalkFrame} {vs : List Opd} {ms : List Note} → Going sheet Γ table whole left (Blank ∷ fs) vs ms → ⊥
  no_blank (going o all enough small brief) = elim o [ ]

  pub not_blank : {fs : List WalkFrame} {w : State} → Goes sheet Γ table whole left (Blank ∷ fs) w → ⊥
  not_blank g = no_blank g.goes

  pub as_frames : {fs gs : List WalkFrame} {w : State} → fs ≡ gs → Goes sheet Γ table whole left fs w → Goes sheet Γ table whole left gs w
  as_frames {w = w} e g = subst (λ l. Goes sheet Γ table whole left l w) e g

  pub as_frame : {f h : WalkFrame} {fs : List WalkFrame} {w : State} → f ≡ h → Goes sheet Γ table whole left (f ∷ fs) w → Goes sheet Γ table whole left (h ∷ fs) w
  as_frame {fs = fs} e g = as_frames (ap (λ x. x ∷ fs) e) g

  all_noted : {vs : List Opd} {ms : List Note} → Going sheet Γ table whole left [] vs ms → ms ≡ whole
  all_noted {ms = ms} (going owes_none all enough small brief) = sym (append-nil ms) ∙ all

  -- with no frame left, all is told
  pub told_goes : (w : State) → Goes sheet Γ table whole left [] w → Tells w.findings (conditions whole) × Tabled w.store (types whole)
  told_goes w g = let e = all_noted g.goes in (subst (λ ns. Tells w.findings (conditions ns)) e g.tells, subst (λ ns. Tabled w.store (types ns)) e g.tabled)

  -- the frame on top was taken off
  pub popped : (w v : State) (f : WalkFrame) → held w.frames ≡ f ∷ held v.frames → room v.frames ≡ room w.frames → v ≡ record w { frames = v.frames }
      → Goes sheet Γ table whole left (held w.frames) w → Goes sheet Γ table whole left (f ∷ held v.frames) v
  popped w v f top space rest g =
      subst (Goes sheet Γ table whole left (f ∷ held v.frames)) (sym rest)
      (record {
        notes = g.notes;
        operands = g.operands;
        tells = g.tells;
        tabled = g.tabled;
        holds = g.holds;
        rooms = record { frames = omega (arith, space, g.rooms.frames); operators = g.rooms.operators };
        goes = subst (λ l. Going sheet Γ table whole left l g.operands g.notes) top g.goes;
      })

-- the frame that has been seen to, as it is written
pub seen : {sheet : List ℕ} {Γ : Meaning} {table : List TreeEntry} {w v : State} {r : Result (Unit {0}) TooHeavy} {f h : WalkFrame} → f ≡ h → Onward sheet Γ table h w v r → Onward sheet Γ table f w v r
seen {sheet} {Γ} {table} {w} {v} {r} e o = subst (λ f. Onward sheet Γ table f w v r) (sym e) o

-- with no steps to go, all is told
pub told_last : {sheet : List ℕ} {Γ : Meaning} {table : List TreeEntry} {whole : List Note} (left : ℕ) (w : State) → left ≡ 0 → Goes sheet Γ table whole left (held w.frames) w → Tells w.findings (conditions whole) × Tabled w.store (types whole)
told_last {sheet} {Γ} {table} {whole} left w z g =
    let none : held w.frames ≡ [] = nil_from_length _ (omega (arith, (frames_fit g.goes).1)) in
    told_goes w (as_frames none g)

-- one step less
pub counted : {sheet : List ℕ} {Γ : Meaning} {table : List TreeEntry} {whole : List Note} (n m : ℕ) {fs : List WalkFrame} {w : State} → n ≡ m → Goes sheet Γ table whole n fs w → Goes sheet Γ table whole m fs w
counted {sheet} {Γ} {table} {whole} n m {fs} {w} e s = subst (λ k. Goes sheet Γ table whole k fs w) e s

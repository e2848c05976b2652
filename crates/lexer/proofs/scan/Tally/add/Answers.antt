use Rattle.std.proofs.Common.{◌≡◌, ◌+◌, Some, sym, ap, ◌∙◌, subst, arith}
use Rattle.std.specs.Option.{is_some}
use Rattle.std.proofs.lemmas.Bool.{both_ways}
use Rattle.lexer.specs.Counting.{Breaks}
use Rattle.lexer.proofs.Steps.{onward}
use Rattle.lexer.proofs.Tallying.{Recorded, here, nowhere, no_line, still_recorded, tallied}
use Rattle.lexer.proofs.scan.Tally.add.Goals as goal
use Rattle.lexer.proofs.scan.Tally.add.Goals.{then-self-eq-TOKEN_LIMIT, else-self-eq-TOKEN_LIMIT, then-is_none+then-breaks, else-is_none, else-is_none-via-then-is_none+else-breaks, else-is_none-via-else-is_none}

pub returns : goal.returns
returns c next short was g =
    let a = c.args.self.now in
    let t = c.args.t in
    let m = c.if-self-eq-TOKEN_LIMIT.self in
    let b = c.if-is_none.self in
    -- the 4,097th token
    let over : (a.count ≡ 4096 → m.over ≡ Some t.at) × ((a.count ≡ 4096 → ⊥) → m.over ≡ a.over) × (m.line ≡ a.line) × (m.last ≡ a.last) × (m.count ≡ a.count) =
    elim c.if-self-eq-TOKEN_LIMIT.branch [
      | then-self-eq-TOKEN_LIMIT w ↦ (λ e. ap (λ x. x.over) w.self-is, λ n. absurd (n w.if-self-eq-TOKEN_LIMIT.true), ap (λ x. x.line) w.self-is, ap (λ x. x.last) w.self-is, ap (λ x. x.count) w.self-is)
      | else-self-eq-TOKEN_LIMIT w ↦ (λ e. absurd (w.if-self-eq-TOKEN_LIMIT.false e), λ n. ap (λ x. x.over) w.self-is, ap (λ x. x.line) w.self-is, ap (λ x. x.last) w.self-is, ap (λ x. x.count) w.self-is)
    ] in
    -- the first broken line
    let line : Recorded a c.args.sheet.now c.args.from t b.line × (b.over ≡ m.over) × (b.count ≡ m.count) =
    elim c.if-is_none.branch [
      | then-is_none+then-breaks w ↦ (
        here (sym over.2 ∙ no_line _ w.if-is_none.ensures) (subst (λ l. Breaks l c.args.sheet.now c.args.from t) over.3 (w.breaks.ensures.0 w.if-breaks.true)) (ap (λ x. x.line) w.self-is),
        ap (λ x. x.over) w.self-is,
        ap (λ x. x.count) w.self-is,
      )
      | else-is_none w ↦ elim w.else-is_none.branch [
        | else-is_none-via-then-is_none+else-breaks v ↦ (
          (let none = no_line _ v.if-is_none.ensures in
              nowhere (sym over.2 ∙ none) (λ h. both_ways _ v.if-breaks.false (v.breaks.ensures.1 (subst (λ l. Breaks l c.args.sheet.now c.args.from t) (sym over.3) h))) (ap (λ x. x.line) w.self-is ∙ none)),
          ap (λ x. x.over) w.self-is,
          ap (λ x. x.count) w.self-is,
        )
        | else-is_none-via-else-is_none v ↦ (
          still_recorded (ap is_some (sym over.2) ∙ v.if-is_none.ensures) (ap (λ x. x.line) w.self-is ∙ over.2),
          ap (λ x. x.over) w.self-is,
          ap (λ x. x.count) w.self-is,
        )
      ]
    ] in
    let on = onward _ _ _ next g in
    let more : c.saturating_add-self.result ≡ a.count + 1 = omega (arith, c.saturating_add-self.ensures, line.2, over.4, was.few, on.0, on.1) in (
      tallied _ _ next a t was g _ _ _ more (λ e. line.1 ∙ over.0 e) (λ n. line.1 ∙ over.1 n) line.0,
      more,
    )

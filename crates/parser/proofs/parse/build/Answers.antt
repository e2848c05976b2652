use Rattle.std.proofs.Common.{length, None, Ok, refl, ap, ◌∙◌, subst, arith}
use Rattle.lexer.specs.Scanning.{Clean}
use Rattle.lexer.specs.Tallies.{Counts}
use Rattle.lexer.proofs.Steps.{onward, given, finished_at}
use Rattle.parser.specs.Parsing.{tokens_clean}
use Rattle.parser.proofs.Faults.{token_told}
use Rattle.parser.proofs.Lexing.{Stepped, not_over, lies_within, along_none, along_more, refused_here, all_along}
use Rattle.parser.proofs.parse.build.Goals as goal
use Rattle.parser.proofs.parse.build.Goals.{In-Some, In_default}

pub returns-in_err-scanner-clause-parses : goal.returns-in_err-scanner-clause-parses
returns-in_err-scanner-clause-parses c = token_told _ c.from_residual.ensures.1 refl c.in_err-scanner.ensures

pub returns-in_err-t-clause-parses : goal.returns-in_err-t-clause-parses
returns-in_err-t-clause-parses c = token_told _ c.from_residual-in_err-t.ensures.1 c.loop-t.invariant.0 (c.in_err-t.ensures.counts c.loop-t.invariant.1)

-- what a step of the scanner gave
stepped : (c : In-Some) → Stepped c.args.sheet.now c.loop-t.scanner c.in-Some.t c.next.new.self
stepped c =
    let told = c.in_ok-t.ensures in
    let counts = subst (λ o. Counts c.loop-t.scanner (Ok o) c.next.new.self) c.in-Some.is (told.counts c.loop-t.invariant.1) in
    record { given = given c.loop-t.invariant.0 _ _ c.in-Some.is told.reads; same = told.sheet ∙ c.loop-t.invariant.0; counted = counts.0; more = counts.1 }

pub returns-then-count-gt-TOKEN_LIMIT-clause-parses : goal.returns-then-count-gt-TOKEN_LIMIT-clause-parses
returns-then-count-gt-TOKEN_LIMIT-clause-parses c =
    let d = stepped (goal.at.returns-then-count-gt-TOKEN_LIMIT-clause-parses c).In-Some in
    c.give_up.ensures _ _ d.same d.counted
    (λ n clean. absurd (omega (arith, not_over _ d (c.loop-t.invariant.6 clean.tokens clean.lexes), c.count.ensures, c.if-count-gt-TOKEN_LIMIT.true, clean.count, clean.few)))

pub loop-t-smaller : goal.loop-t-smaller
loop-t-smaller c =
    let on = onward _ _ _ _ (stepped (goal.at.loop-t-smaller c).In-Some).given in
    omega arith

pub loop-t-init : goal.loop-t-init
loop-t-init c =
    let s = c.in_ok-scanner.ensures in
    let e = c.requires.empty in
    (s.0, s.3, refl, refl, refl, omega (arith, e.used, ap length e.parts), λ ls. along_none _ s.1 s.2 e)

pub loop-t-preserved : goal.loop-t-preserved
loop-t-preserved c =
    let d = stepped (goal.at.loop-t-preserved c).In-Some in
    let told = c.in-Some-step.ensures in
    let grown = told.grown in (
      d.same,
      d.counted,
      grown.lent ∙ c.loop-t.invariant.2,
      grown.long ∙ c.loop-t.invariant.3,
      grown.space ∙ c.loop-t.invariant.4,
      omega (arith, grown.few, c.loop-t.invariant.5, d.more),
      λ ls l.
          let h = c.loop-t.invariant.6 ls l in
          along_more _ d h _ c.into.ensures (told.turns _ _ _ _ (lies_within _ d h _ c.into.ensures) h.sofar.holds),
    )

pub returns-in_default-step-clause-parses : goal.returns-in_default-step-clause-parses
returns-in_default-step-clause-parses c =
    let d = stepped (goal.at.returns-in_default-step-clause-parses c).In-Some in
    c.give_up-in_default-step.ensures _ _ d.same d.counted
    (λ n clean.
    let h = c.loop-t.invariant.6 clean.tokens clean.lexes in
    refused_here _ d h _ c.into.ensures clean.lexes (c.in_default-step.ensures.turns _ _ _ _ (lies_within _ d h _ c.into.ensures) h.sofar.holds))

-- what the last step gave
ended : (c : In_default) → Counts c.loop-t.scanner (Ok None) c.next.new.self
ended c = subst (λ o. Counts c.loop-t.scanner (Ok o) c.next.new.self) c.in_default.is (c.in_ok-t.ensures.counts c.loop-t.invariant.1)

pub returns-in_err-rest-clause-parses : goal.returns-in_err-rest-clause-parses
returns-in_err-rest-clause-parses c =
    let d = ended (goal.at.returns-in_err-rest-clause-parses c).In_default in
    token_told _ c.from_residual-in_err-rest.ensures.1 (c.in_ok-t.ensures.sheet ∙ c.loop-t.invariant.0) (c.in_err-rest.ensures d.0)

pub returns-clause-parses : goal.returns-clause-parses
returns-clause-parses c =
    let d = ended (goal.at.returns-clause-parses c).In_default in
    let told = c.in_ok-t.ensures in
    let clean = subst (λ l. Clean l c.in_ok-rest.field-0) (told.sheet ∙ c.loop-t.invariant.0) (c.in_ok-rest.ensures d.0) in
    let all = all_along (finished_at c.loop-t.invariant.0 _ _ c.in_default.is told.reads) (c.loop-t.invariant.6 clean.tokens clean.lexes) in
    tokens_clean clean (c.finish.ensures _ clean.tokens refl clean.lexes (omega (arith, clean.count, clean.few)) (omega (arith, all.0, c.loop-t.invariant.5)) all.1)

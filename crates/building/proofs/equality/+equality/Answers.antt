-- `same` answers whether two types are the same: each way out of it by one lemma of `Same`. Assumes nothing.
use Rattle.std.proofs.Common.{◌≡◌, Decides, sym, ◌∙◌, subst, ⊎_elim, arith}
use Rattle.types.proofs.Parts.{pair_low, entries_Decides}
use Rattle.building.proofs.Same.{at_both, strings_same, not_string, heads_apart, tails_same, not_pair, lists_same, not_list, parameters_apart, results_same, not_function, members_same, not_union, leaves_same, not_alike, runs_unlike, runs_alike, runs_differ}
use Rattle.building.proofs.equality.+equality.Goals as goal
use Rattle.building.proofs.equality.+equality.Goals.{same_parts-in_default-via-in-StringLiteral+in_default, same_parts-in_default-via-in-Function+in_default, same_parts-in_default-via-in-Pair+in_default, same_parts-in_default-via-in-List+in_default, same_parts-in_default-via-in-Union+in_default, same_parts-in_default-via-in_default}

pub same_parts-returns-then-count-c : goal.same_parts-returns-then-count-c
same_parts-returns-then-count-c t c =
    let e = c.if-count-c.true in
    strings_same c.in-StringLiteral-StringLiteral.is-0 (rw (← e) at c.in-StringLiteral-StringLiteral.is-1) c.same_units.ensures

pub same_parts-returns-in_ok-part-in-Function-Function-2 : goal.same_parts-returns-in_ok-part-in-Function-Function-2
same_parts-returns-in_ok-part-in-Function-Function-2 t c =
    let f = c.in_ok-run-in-Function-Function.ensures in
    let g = c.in_ok-run-in-Function-Function-2.ensures in
    results_same c.in-Function-Function.is-0 c.in-Function-Function.is-1 _ _ _ _ f.0 f.1 g.0 g.1 c.if-same_runs.ensures (at_both _ _ c.in_ok-part-in-Function-Function.ensures.1 c.in_ok-part-in-Function-Function-2.ensures.1 c.same.ensures)

pub same_parts-returns-else-same_runs : goal.same_parts-returns-else-same_runs
same_parts-returns-else-same_runs t c =
    let f = c.in_ok-run-in-Function-Function.ensures in
    let g = c.in_ok-run-in-Function-Function-2.ensures in
    parameters_apart c.in-Function-Function.is-0 c.in-Function-Function.is-1 _ _ _ _ f.0 f.1 g.0 g.1 c.if-same_runs.false c.same_runs.ensures

pub same_parts-returns-in_ok-part-in-Pair-Pair-4 : goal.same_parts-returns-in_ok-part-in-Pair-Pair-4
same_parts-returns-in_ok-part-in-Pair-Pair-4 t c = tails_same c.in-Pair-Pair.is-0 c.in-Pair-Pair.is-1 (at_both _ _ c.in_ok-part-in-Pair-Pair.ensures.1 c.in_ok-part-in-Pair-Pair-2.ensures.1 c.if-same.ensures) (at_both _ _ c.in_ok-part-in-Pair-Pair-3.ensures.1 c.in_ok-part-in-Pair-Pair-4.ensures.1 c.same-then-same.ensures)

pub same_parts-returns-else-same : goal.same_parts-returns-else-same
same_parts-returns-else-same t c = heads_apart c.in-Pair-Pair.is-0 c.in-Pair-Pair.is-1 c.if-same.false (at_both _ _ c.in_ok-part-in-Pair-Pair.ensures.1 c.in_ok-part-in-Pair-Pair-2.ensures.1 c.same-in-Pair-Pair.ensures)

pub same_parts-returns-in_err-part-in-Pair-Pair-4 : goal.same_parts-returns-in_err-part-in-Pair-Pair-4
same_parts-returns-in_err-part-in-Pair-Pair-4 t c le le' s u hs hu =
    let low = pair_low c.in-Pair-Pair.is-1 hu in
    let high = c.in_err-part-in-Pair-Pair-4.ensures le' in
    absurd (omega arith)

pub same_parts-returns-in_ok-part-in-List-List-2 : goal.same_parts-returns-in_ok-part-in-List-List-2
same_parts-returns-in_ok-part-in-List-List-2 t c = lists_same c.in-List-List.is-0 c.in-List-List.is-1 (at_both _ _ c.in_ok-part-in-List-List.ensures.1 c.in_ok-part-in-List-List-2.ensures.1 c.same-in-List-List.ensures)

pub same_parts-returns-in_ok-run-in-Union-Union-2 : goal.same_parts-returns-in_ok-run-in-Union-Union-2
same_parts-returns-in_ok-run-in-Union-Union-2 t c =
    let f = c.in_ok-run-in-Union-Union.ensures in
    let g = c.in_ok-run-in-Union-Union-2.ensures in
    members_same c.in-Union-Union.is-0 c.in-Union-Union.is-1 _ _ _ _ f.0 f.1 g.0 g.1 c.same_runs-in-Union-Union.ensures

pub same_parts-returns-in_default : goal.same_parts-returns-in_default
same_parts-returns-in_default t c =
    let d : Decides c.eq.result (c.args.a.entry ≡ c.args.b.entry) = subst (λ z. Decides z (c.args.a.entry ≡ c.args.b.entry)) (sym c.eq.ensures) (entries_Decides c.args.a.entry c.args.b.entry) in
    elim c.in_default.branch [
      | same_parts-in_default-via-in-StringLiteral+in_default w ↦ not_alike _ d (λ e. w.in_default.not-StringLiteral-1 _ _ (sym e ∙ w.in_default.is-0)) (not_string w.in_default.is-0 w.in_default.not-StringLiteral-1)
      | same_parts-in_default-via-in-Function+in_default w ↦ not_alike _ d (λ e. w.in_default.not-Function-1 _ _ (sym e ∙ w.in_default.is-0)) (not_function w.in_default.is-0 w.in_default.not-Function-1)
      | same_parts-in_default-via-in-Pair+in_default w ↦ not_alike _ d (λ e. w.in_default.not-Pair-1 _ _ (sym e ∙ w.in_default.is-0)) (not_pair w.in_default.is-0 w.in_default.not-Pair-1)
      | same_parts-in_default-via-in-List+in_default w ↦ not_alike _ d (λ e. w.in_default.not-List-1 _ (sym e ∙ w.in_default.is-0)) (not_list w.in_default.is-0 w.in_default.not-List-1)
      | same_parts-in_default-via-in-Union+in_default w ↦ not_alike _ d (λ e. w.in_default.not-Union-1 _ _ (sym e ∙ w.in_default.is-0)) (not_union w.in_default.is-0 w.in_default.not-Union-1)
      | same_parts-in_default-via-in_default w ↦ leaves_same w.in_default.not-StringLiteral-0 w.in_default.not-Function-0 w.in_default.not-Pair-0 w.in_default.not-List-0 w.in_default.not-Union-0 d
    ]

pub same_runs-returns-then-len : goal.same_runs-returns-then-len
same_runs-returns-then-len t c = runs_unlike (λ e. c.if-len.true (c.len.ensures.value ∙ e ∙ sym c.len-2.ensures.value))

pub same_runs-returns-then-not-same : goal.same_runs-returns-then-not-same
same_runs-returns-then-not-same t c =
    let f = c.loop-x.invariant in
    let s = c.in-Some.ensures.steps in
    runs_differ c.in-Some.x c.in-Some.y (sym c.len.ensures.value ∙ c.if-len.false ∙ c.len-2.ensures.value) (omega (arith, f.2, s)) (omega (arith, f.0, s)) (omega (arith, f.3, s)) (at_both _ _ c.at.ensures c.at-in-loop-x.ensures c.if-not-same.ensures)

pub same_runs-returns : goal.same_runs-returns
same_runs-returns t c =
    let f = c.loop-x.invariant in
    let n = sym c.len.ensures.value ∙ c.if-len.false ∙ c.len-2.ensures.value in
    runs_alike n (λ k lt. f.4 k (⊎_elim (λ d. omega (arith, d.1, f.0)) (λ d. omega (arith, d.1, f.1, f.3)) c.in-None.ensures.steps))

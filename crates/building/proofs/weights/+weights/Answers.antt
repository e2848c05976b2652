-- `weight_within` answers the weight: each way out of it by one lemma of `Weigh`. Assumes nothing.
use Rattle.std.proofs.Common.{◌≡◌, ◌∙◌, ap, arith}
use Rattle.types.specs.Roots.{root_at}
use Rattle.types.proofs.Parts.{pair_low, list_low}
use Rattle.building.proofs.Same.{function_low, union_low}
use Rattle.building.proofs.Weigh.{part_missing, run_missing, one_more, function_weighs}
use Rattle.building.proofs.weights.+weights.Goals as goal

pub parts_weigh-returns-in_err-run-in-Function : goal.parts_weigh-returns-in_err-run-in-Function
parts_weigh-returns-in_err-run-in-Function t c = run_missing _ c.from_residual.ensures c.in_err-run-in-Function.ensures (λ s h. let low = function_low c.in-Function.is h in omega arith)

pub parts_weigh-returns-in_err-part-in-Function : goal.parts_weigh-returns-in_err-part-in-Function
parts_weigh-returns-in_err-part-in-Function t c = part_missing _ c.from_residual-in_err-part-in-Function.ensures c.in_err-part-in-Function.ensures (λ s h. function_low c.in-Function.is h)

pub parts_weigh-returns-in_err-part-in-Pair : goal.parts_weigh-returns-in_err-part-in-Pair
parts_weigh-returns-in_err-part-in-Pair t c = part_missing _ c.from_residual-in_err-part-in-Pair.ensures c.in_err-part-in-Pair.ensures (λ s h. (pair_low c.in-Pair.is h).0)

pub parts_weigh-returns-in_err-part-in-Pair-2 : goal.parts_weigh-returns-in_err-part-in-Pair-2
parts_weigh-returns-in_err-part-in-Pair-2 t c = part_missing _ c.from_residual-in_err-part-in-Pair-2.ensures c.in_err-part-in-Pair-2.ensures (λ s h. (pair_low c.in-Pair.is h).1)

pub parts_weigh-returns-in_err-part-in-List : goal.parts_weigh-returns-in_err-part-in-List
parts_weigh-returns-in_err-part-in-List t c = part_missing _ c.from_residual-in_err-part-in-List.ensures c.in_err-part-in-List.ensures (λ s h. list_low c.in-List.is h)

pub parts_weigh-returns-in_err-run-in-Union : goal.parts_weigh-returns-in_err-run-in-Union
parts_weigh-returns-in_err-run-in-Union t c = run_missing _ c.from_residual-in_err-run-in-Union.ensures c.in_err-run-in-Union.ensures (λ s h. union_low c.in-Union.is h)

pub parts_weigh-returns-in_ok-part-in-Function : goal.parts_weigh-returns-in_ok-part-in-Function
parts_weigh-returns-in_ok-part-in-Function t c =
    let f = c.in_ok-run-in-Function.ensures in
    function_weighs _ _ _ _ _ _ c.in-Function.is f.0 f.1 c.run_weighs-parameters.ensures c.in_ok-part-in-Function.ensures.1 c.weight_within-res.ensures c.sum_within.ensures

pub run_weighs-loop-k-preserved : goal.run_weighs-loop-k-preserved
run_weighs-loop-k-preserved t c =
    let s = c.in-Some.ensures.steps in
    let k = c.loop-k.invariant in
    let now : c.at.result ≡ root_at c.args.types.now c.loop-k.k-iterator.start = c.at.ensures ∙ ap (λ i. root_at c.args.types.now i) s.1.1 in (
      omega arith,
      omega (arith, c.sum_within-sum.ensures),
      λ le. one_more _ _ _ _ _ c.loop-k.sum c.at.result s.1.2 (omega arith) le now c.weight_within-weight.ensures c.sum_within-sum.ensures (k.2 le),
    )

-- `meets` answers whether two types meet: each way out of it by one lemma of `Parts`. Assumes nothing.
use Rattle.std.proofs.Common.{◌≡◌, Decides, sym, ◌∙◌, arith, rules}
use Rattle.std.proofs.lemmas.Bool.Decides.{Decides-eqb}
use Rattle.types.proofs.Parts.{flip, union_meets, some_met, none_met, any_meets, kinds_meet, kinds_never, by_parts, first_broken, second_broken, at_both, at_first, numbers_meet, functions_meet, strings_meet, lengths_apart, pair_low, list_low, heads_apart, heads_meet, element_apart, element_meets}
use Rattle.types.proofs.meeting.+meeting.Goals as goal

pub meets-returns-in-Some : goal.meets-returns-in-Some
meets-returns-in-Some t c = union_meets _ _ c.in-Union-default.is-0 c.in-Some.ensures.0 c.in-Some.ensures.1 c.some_meets.ensures

pub meets-returns-in-Some-run : goal.meets-returns-in-Some-run
meets-returns-in-Some-run t c = flip (union_meets _ _ c.in_default-Union.is-1 c.in-Some-run.ensures.0 c.in-Some-run.ensures.1 c.meets_some.ensures)

pub meets-returns-in_default-2 : goal.meets-returns-in_default-2
meets-returns-in_default-2 t c = flip (any_meets (sym c.kind_of-in_default.ensures ∙ c.in_default-2.is-1) c.in_default.not-Union-1)

pub meets-returns-in_default-2-2 : goal.meets-returns-in_default-2-2
meets-returns-in_default-2-2 t c = any_meets (sym c.kind_of.ensures ∙ c.in_default-2.is-0) c.in_default.not-Union-0

pub meets-returns-in-Meet : goal.meets-returns-in-Meet
meets-returns-in-Meet t c = kinds_meet (sym c.in-Some-Some.ensures) (sym c.in-Some-Some.ensures') c.in-Meet.ensures.means

pub meets-returns-in-Never : goal.meets-returns-in-Never
meets-returns-in-Never t c = kinds_never (sym c.in-Some-Some.ensures) (sym c.in-Some-Some.ensures') c.in-Never.ensures.means

pub meets-returns-in-ByParts : goal.meets-returns-in-ByParts
meets-returns-in-ByParts t c = by_parts _ c.unwrap_or.ensures c.parts_meet.ensures (sym c.in-Some-Some.ensures) (sym c.in-Some-Some.ensures') (sym c.in-ByParts.ensures.known)

pub some_meets-returns-then-meets : goal.some_meets-returns-then-meets
some_meets-returns-then-meets t c = some_met _ _ (omega (arith, c.in-Some.ensures.steps)) (omega (arith, c.in-Some.ensures.steps)) (at_first _ c.at.ensures c.if-meets.ensures)

pub some_meets-returns : goal.some_meets-returns
some_meets-returns t c = none_met _ (λ m le lt. c.loop-k.invariant.2 m le (omega (arith, c.in-None.ensures.steps)))

pub meets_some-returns-then-meets : goal.meets_some-returns-then-meets
meets_some-returns-then-meets t c = some_met _ _ (omega (arith, c.in-Some.ensures.steps)) (omega (arith, c.in-Some.ensures.steps)) (at_first _ c.at.ensures (flip c.if-meets.ensures))

pub meets_some-returns : goal.meets_some-returns
meets_some-returns t c = none_met _ (λ m le lt. c.loop-j.invariant.2 m le (omega (arith, c.in-None.ensures.steps)))

pub parts_meet-returns-in_err-part-in-Pair-Pair : goal.parts_meet-returns-in_err-part-in-Pair-Pair
parts_meet-returns-in_err-part-in-Pair-Pair t c = first_broken _ _ c.from_residual.ensures (λ s h. (pair_low c.in-Pair-Pair.is-0 h).0) c.in_err-part-in-Pair-Pair.ensures

pub parts_meet-returns-in_err-part-in-Pair-Pair-2 : goal.parts_meet-returns-in_err-part-in-Pair-Pair-2
parts_meet-returns-in_err-part-in-Pair-Pair-2 t c = second_broken _ _ c.from_residual-in_err-part-in-Pair-Pair-2.ensures (λ s h. (pair_low c.in-Pair-Pair.is-1 h).0) c.in_err-part-in-Pair-Pair-2.ensures

pub parts_meet-returns-in_err-part-in-Pair-Pair-3 : goal.parts_meet-returns-in_err-part-in-Pair-Pair-3
parts_meet-returns-in_err-part-in-Pair-Pair-3 t c = first_broken _ _ c.from_residual-in_err-part-in-Pair-Pair-3.ensures (λ s h. (pair_low c.in-Pair-Pair.is-0 h).1) c.in_err-part-in-Pair-Pair-3.ensures

pub parts_meet-returns-in_err-part-in-Pair-Pair-4 : goal.parts_meet-returns-in_err-part-in-Pair-Pair-4
parts_meet-returns-in_err-part-in-Pair-Pair-4 t c = second_broken _ _ c.from_residual-in_err-part-in-Pair-Pair-4.ensures (λ s h. (pair_low c.in-Pair-Pair.is-1 h).1) c.in_err-part-in-Pair-Pair-4.ensures

pub parts_meet-returns-in_err-part-in-Pair-List : goal.parts_meet-returns-in_err-part-in-Pair-List
parts_meet-returns-in_err-part-in-Pair-List t c = first_broken _ _ c.from_residual-in_err-part-in-Pair-List.ensures (λ s h. (pair_low c.in-Pair-List.is-0 h).0) c.in_err-part-in-Pair-List.ensures

pub parts_meet-returns-in_err-part-in-Pair-List-2 : goal.parts_meet-returns-in_err-part-in-Pair-List-2
parts_meet-returns-in_err-part-in-Pair-List-2 t c = second_broken _ _ c.from_residual-in_err-part-in-Pair-List-2.ensures (λ s h. list_low c.in-Pair-List.is-1 h) c.in_err-part-in-Pair-List-2.ensures

pub parts_meet-returns-in_err-part-in-Pair-List-3 : goal.parts_meet-returns-in_err-part-in-Pair-List-3
parts_meet-returns-in_err-part-in-Pair-List-3 t c = first_broken _ _ c.from_residual-in_err-part-in-Pair-List-3.ensures (λ s h. (pair_low c.in-Pair-List.is-0 h).1) c.in_err-part-in-Pair-List-3.ensures

pub parts_meet-returns-in_err-part-in-List-Pair : goal.parts_meet-returns-in_err-part-in-List-Pair
parts_meet-returns-in_err-part-in-List-Pair t c = first_broken _ _ c.from_residual-in_err-part-in-List-Pair.ensures (λ s h. list_low c.in-List-Pair.is-0 h) c.in_err-part-in-List-Pair.ensures

pub parts_meet-returns-in_err-part-in-List-Pair-2 : goal.parts_meet-returns-in_err-part-in-List-Pair-2
parts_meet-returns-in_err-part-in-List-Pair-2 t c = second_broken _ _ c.from_residual-in_err-part-in-List-Pair-2.ensures (λ s h. (pair_low c.in-List-Pair.is-1 h).0) c.in_err-part-in-List-Pair-2.ensures

pub parts_meet-returns-in_err-part-in-List-Pair-3 : goal.parts_meet-returns-in_err-part-in-List-Pair-3
parts_meet-returns-in_err-part-in-List-Pair-3 t c = second_broken _ _ c.from_residual-in_err-part-in-List-Pair-3.ensures (λ s h. (pair_low c.in-List-Pair.is-1 h).1) c.in_err-part-in-List-Pair-3.ensures

pub parts_meet-returns-then-count-c : goal.parts_meet-returns-then-count-c
parts_meet-returns-then-count-c t c k l ki lj v =
    let e = c.if-count-c.true in
    strings_meet c.in-StringLiteral-StringLiteral.is-0 (rw (← e) at c.in-StringLiteral-StringLiteral.is-1) c.same_units.ensures

pub parts_meet-returns-else-count-c : goal.parts_meet-returns-else-count-c
parts_meet-returns-else-count-c t c k l ki lj v = lengths_apart c.in-StringLiteral-StringLiteral.is-0 c.in-StringLiteral-StringLiteral.is-1 (search rules) c.if-count-c.false

pub parts_meet-returns-in-Function-Function : goal.parts_meet-returns-in-Function-Function
parts_meet-returns-in-Function-Function t c k l ki lj v = functions_meet c.in-Function-Function.is-0 c.in-Function-Function.is-1 (Decides-eqb c.in-Function-Function.count c.in-Function-Function.c)

pub parts_meet-returns-in_ok-part-in-Pair-Pair-4 : goal.parts_meet-returns-in_ok-part-in-Pair-Pair-4
parts_meet-returns-in_ok-part-in-Pair-Pair-4 t c k l ki lj v = heads_meet c.in-Pair-Pair.is-0 c.in-Pair-Pair.is-1 (at_both _ _ c.in_ok-part-in-Pair-Pair.ensures.1 c.in_ok-part-in-Pair-Pair-2.ensures.1 c.if-meets.ensures) (at_both _ _ c.in_ok-part-in-Pair-Pair-3.ensures.1 c.in_ok-part-in-Pair-Pair-4.ensures.1 c.meets-then-meets.ensures)

pub parts_meet-returns-else-meets : goal.parts_meet-returns-else-meets
parts_meet-returns-else-meets t c k l ki lj v = heads_apart c.in-Pair-Pair.is-0 c.in-Pair-Pair.is-1 c.if-meets.false (at_both _ _ c.in_ok-part-in-Pair-Pair.ensures.1 c.in_ok-part-in-Pair-Pair-2.ensures.1 c.meets.ensures)

pub parts_meet-returns-in_ok-part-in-Pair-List-3 : goal.parts_meet-returns-in_ok-part-in-Pair-List-3
parts_meet-returns-in_ok-part-in-Pair-List-3 t c k l ki lj v = element_meets c.in-Pair-List.is-0 c.in-Pair-List.is-1 (at_both _ _ c.in_ok-part-in-Pair-List.ensures.1 c.in_ok-part-in-Pair-List-2.ensures.1 c.if-meets-2.ensures) (at_first _ c.in_ok-part-in-Pair-List-3.ensures.1 c.meets-then-meets-2.ensures)

pub parts_meet-returns-else-meets-2 : goal.parts_meet-returns-else-meets-2
parts_meet-returns-else-meets-2 t c k l ki lj v = element_apart c.in-Pair-List.is-0 c.in-Pair-List.is-1 c.if-meets-2.false (at_both _ _ c.in_ok-part-in-Pair-List.ensures.1 c.in_ok-part-in-Pair-List-2.ensures.1 c.meets-in-Pair-List.ensures)

pub parts_meet-returns-in_ok-part-in-List-Pair-3 : goal.parts_meet-returns-in_ok-part-in-List-Pair-3
parts_meet-returns-in_ok-part-in-List-Pair-3 t c k l ki lj v = flip (element_meets c.in-List-Pair.is-1 c.in-List-Pair.is-0 (flip (at_both _ _ c.in_ok-part-in-List-Pair.ensures.1 c.in_ok-part-in-List-Pair-2.ensures.1 c.if-meets-3.ensures)) (at_first _ c.in_ok-part-in-List-Pair-3.ensures.1 (flip c.meets-then-meets-3.ensures)))

pub parts_meet-returns-else-meets-3 : goal.parts_meet-returns-else-meets-3
parts_meet-returns-else-meets-3 t c k l ki lj v = flip (element_apart c.in-List-Pair.is-1 c.in-List-Pair.is-0 c.if-meets-3.false (flip (at_both _ _ c.in_ok-part-in-List-Pair.ensures.1 c.in_ok-part-in-List-Pair-2.ensures.1 c.meets-in-List-Pair.ensures)))

pub parts_meet-returns-in-NumberLiteral-NumberLiteral : goal.parts_meet-returns-in-NumberLiteral-NumberLiteral
parts_meet-returns-in-NumberLiteral-NumberLiteral t c k l ki lj v =
    let d : Decides c.eq-met.result ((c.in-NumberLiteral-NumberLiteral.digits ≡ c.in-NumberLiteral-NumberLiteral.d) × (c.in-NumberLiteral-NumberLiteral.exponent ≡ c.in-NumberLiteral-NumberLiteral.e)) = search rules in
    numbers_meet c.in-NumberLiteral-NumberLiteral.is-0 c.in-NumberLiteral-NumberLiteral.is-1 d

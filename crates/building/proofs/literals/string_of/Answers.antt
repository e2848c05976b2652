-- `string_of`: each way out of it by one lemma of `LiteralsMade`. Assumes nothing.
use Rattle.std.proofs.Common.{◌∙◌}
use Rattle.building.proofs.LiteralsMade.{unit_filled, string_full, string_filled}
use Rattle.building.proofs.literals.string_of.Goals as goal

pub returns-in_err-end-clause-made : goal.returns-in_err-end-clause-made
returns-in_err-end-clause-made c =
    string_full _ _ _ _ _ c.loop-unit.unit-iterator.text.now c.loop-unit.invariant.0 c.loop-unit.unit-iterator.at c.loop-unit.invariant.1 _ c.in-Some.unit _ c.from_residual.ensures (c.put_one.auto.types ∙ c.loop-unit.auto.types) c.in_err-end.ensures.written c.in-Some.ensures.steps.unit

pub loop-unit-preserved : goal.loop-unit-preserved
loop-unit-preserved c = (
  c.in-Some.ensures.steps.text ∙ c.loop-unit.invariant.0,
  unit_filled _ _ _ _ _ c.loop-unit.unit-iterator.text.now c.loop-unit.invariant.0 c.loop-unit.unit-iterator.at c.loop-unit.invariant.1 _ c.in-Some.unit _ _ c.in_ok-end.ensures.written c.in_ok-end.ensures.kept c.in-Some.ensures.steps.unit,
)

pub returns-clause-made : goal.returns-clause-made
returns-clause-made c =
    string_filled _ _ _ _ _ c.loop-unit.unit-iterator.text.now c.loop-unit.invariant.0 c.loop-unit.unit-iterator.at c.loop-unit.invariant.1 _ c.in-None.ensures.steps.unit

use Rattle.std.proofs.Common.{refl, ◌∙◌}
use Rattle.types.specs.Table.{is_boolean}
use Rattle.checker.proofs.Walking.{finished, finished_failed, in_table, choice_ready}
use Rattle.checker.proofs.walk.Walk.finish_choice.Goals as goal

pub returns-in_err-made : goal.returns-in_err-made
returns-in_err-made c sheet Γ table = record {
  lent = (c.ask_fits.ensures.lent, c.united.ensures.lent);
  onward = λ whole left sound g.
      let h = choice_ready sheet Γ table whole left _ _ _ _ _ _ _ _ c.take-other.ensures.takes c.take-then.ensures.takes c.take-test.ensures.takes g in
      finished_failed _ _ h.finishing (c.in_err-made.ensures.united _ _ _ _ g.tabled h.is_then h.is_other h.then_formed h.other_formed h.union) c.from_residual.ensures.0;
}

pub returns : goal.returns
returns c sheet Γ table = record {
  lent = (c.ask_fits.ensures.lent, c.ended.ensures.lent ∙ c.united.ensures.lent);
  onward = λ whole left sound g.
      let h = choice_ready sheet Γ table whole left _ _ _ _ _ _ _ _ c.take-other.ensures.takes c.take-then.ensures.takes c.take-test.ensures.takes g in
      let ready = c.in_ok-made.ensures.united _ _ _ _ g.tabled h.is_then h.is_other h.then_formed h.other_formed h.union in
      c.ended.ensures.ends sheet Γ table whole left _ h.result
      (finished _ _ _ _ _ _ _ h.finishing refl (c.take-test.ensures.space ∙ (c.take-then.ensures.space ∙ c.take-other.ensures.space)) refl (c.ask_fits.ensures.asked (in_table g.tabled) _ _ h.is_test is_boolean) ready)
      ready.in_hand;
}

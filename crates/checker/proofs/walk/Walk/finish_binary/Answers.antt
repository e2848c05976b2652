use Rattle.std.proofs.Common.{refl, ◌∙◌}
use Rattle.checker.proofs.Walking.{finished, finished_failed, in_table, binary_ready}
use Rattle.checker.proofs.walk.Walk.finish_binary.Goals as goal

pub returns-in_err-made : goal.returns-in_err-made
returns-in_err-made c sheet Γ table = record {
  lent = (c.ask_infix.ensures.lent, c.infix_made.ensures.lent);
  onward = λ whole left sound g.
      let h = binary_ready sheet Γ table whole left _ _ _ _ _ _ _ c.take-right.ensures.takes c.take-left.ensures.takes g in
      let form = c.rule_of-rule.ensures _ _ _ _ _ _ _ _ h.is_left h.is_right h.rule in
      finished_failed _ _ h.finishing (c.in_err-made.ensures.makes _ _ _ _ _ _ _ g.tabled h.is_right h.right_formed form) c.from_residual.ensures.0;
}

pub returns : goal.returns
returns c sheet Γ table = record {
  lent = (c.ask_infix.ensures.lent, c.ended.ensures.lent ∙ c.infix_made.ensures.lent);
  onward = λ whole left sound g.
      let h = binary_ready sheet Γ table whole left _ _ _ _ _ _ _ c.take-right.ensures.takes c.take-left.ensures.takes g in
      let form = c.rule_of-rule.ensures _ _ _ _ _ _ _ _ h.is_left h.is_right h.rule in
      let ready = c.in_ok-made.ensures.makes _ _ _ _ _ _ _ g.tabled h.is_right h.right_formed form in
      c.ended.ensures.ends sheet Γ table whole left _ h.result
      (finished _ _ _ _ _ _ _ h.finishing refl (c.take-left.ensures.space ∙ c.take-right.ensures.space) refl (c.ask_infix.ensures.asked (in_table g.tabled) _ _ _ _ h.is_left h.is_right form) ready)
      ready.in_hand;
}

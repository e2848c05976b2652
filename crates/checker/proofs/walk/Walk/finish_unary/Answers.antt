use Rattle.std.proofs.Common.{refl}
use Rattle.checker.proofs.Walking.{finished, in_table, unary_ready}
use Rattle.checker.proofs.walk.Walk.finish_unary.Goals as goal

pub returns : goal.returns
returns c sheet Γ table = record {
  lent = (c.ask_prefix.ensures.lent, c.ended.ensures.lent);
  onward = λ whole left sound g.
      let h = unary_ready sheet Γ table whole left _ _ _ _ _ _ c.take-v.ensures.takes g in
      let ready = c.prefix_made-made.ensures _ _ _ _ _ g.tabled h.rule in
      c.ended.ensures.ends sheet Γ table whole left _ h.result
      (finished _ _ _ _ _ _ _ h.finishing refl c.take-v.ensures.space refl (c.ask_prefix.ensures.asked (in_table g.tabled) _ _ _ h.is h.rule) ready)
      ready.in_hand;
}

use Rattle.std.proofs.Common.{◌+◌, ◌-◌, refl, ◌∙◌, arith}
use Rattle.checker.specs.Standing.{state, Told}
use Rattle.checker.proofs.Walking.{failed}
use Rattle.checker.proofs.Stepping.{as_frames, counted, popped, told_goes, told_last}
use Rattle.checker.proofs.walk.Walk.run.Goals as goal

pub returns-in_default : goal.returns-in_default
returns-in_default g c = record {
  lent = c.loop.invariant.lent;
  runs = λ whole sound h. told_goes (state c.loop.self c.loop.findings c.loop.store) (as_frames c.in_default.ensures.holds.0 (c.loop.invariant.goes whole sound h));
}

pub returns-in_err-see_to : goal.returns-in_err-see_to
returns-in_err-see_to g c = record {
  lent = (c.see_to.ensures.lent.0 ∙ c.loop.invariant.lent.0, c.see_to.ensures.lent.1 ∙ c.loop.invariant.lent.1);
  runs = λ whole sound h.
      failed (Told whole (state c.see_to.new.self c.see_to.new.findings c.see_to.new.store)) c.from_residual.ensures.0
      (λ e. c.in_err-see_to.ensures.onward whole (8192 - (c.loop.counter + 1)) sound
      (popped _ _ _ c.in-Some.ensures.holds c.in-Some.ensures.space refl (counted _ _ (omega arith) (c.loop.invariant.goes whole sound h))));
}

pub loop-preserved : goal.loop-preserved
loop-preserved g c = record {
  lent = (c.see_to.ensures.lent.0 ∙ c.loop.invariant.lent.0, c.see_to.ensures.lent.1 ∙ c.loop.invariant.lent.1);
  goes = λ whole sound h.
      c.in_ok-see_to.ensures.onward whole (8192 - (c.loop.counter + 1)) sound
      (popped _ _ _ c.in-Some.ensures.holds c.in-Some.ensures.space refl (counted _ _ (omega arith) (c.loop.invariant.goes whole sound h)));
}

pub returns : goal.returns
returns g c = record {
  lent = c.loop.invariant.lent;
  runs = λ whole sound h. told_last _ _ (omega (arith, c.loop-test.false)) (c.loop.invariant.goes whole sound h);
}

use Rattle.std.proofs.Common.{arith, length-take}
use Rattle.checker.proofs.Running.{lent_twice, same_sizes, performs_as, lawful_more}
use Rattle.checker.proofs.run.run.Goals as goal

pub loop-i-preserved : goal.loop-i-preserved
loop-i-preserved g c =
    let before = c.loop-i.invariant.lent in
    record {
      lawful =
          lawful_more _ _ _ c.args.calls.now _ _ c.loop-i.i c.min-made.result _ _ c.perform-outcome.result _ _ _ _ c.loop-i.invariant.lawful
          (omega (arith, length-take c.min-made.result c.args.calls.now)) (omega (arith, c.min-made.ensures)) (omega (arith, c.min-made.ensures, c.loop-i.auto.said))
          (performs_as _ _ c.perform-outcome.result _ _ (same_sizes c.loop-i.auto.tree before) c.perform-outcome.ensures.performs)
          c.said_of.ensures c.ok-last.ensures.value;
      lent = lent_twice before c.perform-outcome.ensures.lent;
    }

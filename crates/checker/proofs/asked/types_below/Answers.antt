use Rattle.std.proofs.Common.{refl, rules}
use Rattle.types.specs.Table.{entry_at}
use Rattle.checker.specs.Orders.{OfType}
use Rattle.checker.proofs.Ranged.{decides_run}
use Rattle.checker.proofs.asked.types_below.Goals as goal

pub returns-then-run_below : goal.returns-then-run_below
returns-then-run_below c =
    let d = decides_run _ _ _ c.args.first c.args.count (λ i. OfType (entry_at c.args.types.now i)) c.all.ensures.ran refl (λ i b q k. search rules) in
    (λ e. (c.run_below.ensures.0 c.if-run_below.true, d.0 e), λ h. d.1 h.1)

use Rattle.std.proofs.Common.{rules, refl}
use Rattle.types.specs.Table.{entry_at}
use Rattle.checker.specs.Orders.{Orderly}
use Rattle.checker.proofs.Ranged.{decides_below}
use Rattle.checker.proofs.asked.parts_in_order.Goals as goal

pub returns : goal.returns
returns c = decides_below _ _ _ c.args.used (λ i. Orderly c.args.types.now i (entry_at c.args.types.now i)) c.all.ensures.ran refl (λ i b q k. search rules)

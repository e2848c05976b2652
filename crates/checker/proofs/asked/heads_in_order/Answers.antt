use Rattle.std.proofs.Common.{◌-◌, rules, refl}
use Rattle.types.specs.Table.{entry_at}
use Rattle.checker.specs.Orders.{Orderly, OfType}
use Rattle.checker.proofs.Ranged.{decides_below}
use Rattle.checker.proofs.asked.heads_in_order.Goals as goal

pub returns : goal.returns
returns c = decides_below _ _ _ c.args.expressions (λ k. Orderly c.args.types.now c.args.used (entry_at c.args.types.now (8191 - k)) × OfType (entry_at c.args.types.now (8191 - k))) c.all.ensures.ran refl (λ i b q k. search rules)

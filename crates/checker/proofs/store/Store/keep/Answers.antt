use Rattle.std.proofs.Common.{set, refl, ap, arith}
use Rattle.checker.proofs.Stored.{kept_type}
use Rattle.checker.proofs.store.Store.keep.Goals as goal

pub returns-clause-kept : goal.returns-clause-kept
returns-clause-kept c ts t tabled h =
    kept_type c.args.self.now c.args.made t tabled h _ (c.weight_of.ensures (omega (arith, h.within, tabled.size)) t h.holds) _ (omega arith)
    (ap (λ i. set c.args.self.now.entries.now i c.args.made.entry) c.head_of.ensures) refl refl (omega arith)

use Rattle.std.proofs.Common.{length, subst, arith}
use Rattle.types.specs.Table.{entry_at}
use Rattle.building.specs.Entries.{Closes}
use Rattle.building.proofs.Closed.{closes_one}
use Rattle.building.proofs.members.OpenUnion.close.Goals as goal

pub returns-in-len1 : goal.returns-in-len1
returns-in-len1 c =
    let one = closes_one c.args.self.now.parts.now _ (omega (arith, c.in-len1)) in
    subst (λ hs. Closes c.args.self.now.parts.now hs (record { entry = entry_at c.members.result.now 0; used = length c.args.self.now.parts.now })) c.members.ensures one

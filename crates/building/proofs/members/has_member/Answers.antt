use Rattle.std.proofs.Common.{rules}
use Rattle.building.proofs.Open.{Sought, sought}
use Rattle.building.proofs.members.has_member.Goals as goal

pub returns : goal.returns
returns c = let f : Sought c.args.parts.now c.args.members.now c.args.e c.any.result = search rules in sought _ _ _ _ f

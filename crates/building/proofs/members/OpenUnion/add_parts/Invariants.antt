use Rattle.std.proofs.Common.{◌≡◌}
use Rattle.building.specs.Entries.{SameTable}
use Rattle.building.proofs.PartsMade.{Parting}
use Rattle.building.proofs.members.OpenUnion.add_parts.Given as goal

-- the parts of the types so far are added
abbrev pub invariant-loop-member : goal.invariant-loop-member
invariant-loop-member l =
    let u = l.initial.self in
    SameTable u l.self × ((u.count ≡ 0) → Parting u.parts.now l.self.slots.now l.members l.side l.member-index l.self.count)

use Rattle.building.specs.Entries.{SameTable}
use Rattle.building.proofs.AllMembers.{Adding}
use Rattle.building.proofs.members.OpenUnion.add.Given as goal

-- the members so far are added
abbrev pub invariant-loop-member : goal.invariant-loop-member
invariant-loop-member l =
    let u = l.initial.self in
    SameTable u l.self × Adding u.parts.now u.slots.now l.self.slots.now l.member-items u.count l.member-index l.self.count

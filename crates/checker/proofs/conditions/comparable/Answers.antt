use Rattle.std.proofs.Common.{sym, subst}
use Rattle.checker.specs.Entries.{SaysCompare}
use Rattle.checker.proofs.Tested.{two_meet_number, two_meet_string}
use Rattle.checker.proofs.conditions.comparable.Goals as goal

pub returns-then-both_meet : goal.returns-then-both_meet
returns-then-both_meet c = subst (SaysCompare c.args.types.now c.args.a.used c.args.a.entry c.args.b.used c.args.b.entry) (sym c.if-both_meet.true) (two_meet_number c.if-both_meet.ensures)

pub returns-else-both_meet : goal.returns-else-both_meet
returns-else-both_meet c = two_meet_string c.if-both_meet.ensures c.both_meet-else-both_meet.ensures

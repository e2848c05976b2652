use Rattle.std.proofs.Common.{None, subst}
use Rattle.building.specs.Literals.{GivesNumber}
use Rattle.checker.proofs.Madely.{number_ready}
use Rattle.checker.proofs.store.Store.number_made.Goals as goal

pub returns-in_err-entry : goal.returns-in_err-entry
returns-in_err-entry c ts d tabled n =
    let none : GivesNumber c.args.text.now None = subst (GivesNumber c.args.text.now) c.in_err-entry.ensures.ok_part c.number_of.ensures in
    absurd (none d n)

pub returns : goal.returns
returns c ts d tabled n = number_ready _ _ _ d c.plain.ensures tabled n (subst (GivesNumber c.args.text.now) c.in_ok-entry.ensures.ok_part c.number_of.ensures)

use Rattle.std.proofs.Common.{w16, SFits, sym, subst, rules}
use Rattle.building.specs.Literals.{GivesNumber}
use Rattle.std.proofs.lemmas.Int.{to_z-of_z}
use Rattle.building.proofs.LiteralsMade.{number_given, no_number}
use Rattle.building.proofs.literals.number_of.Goals as goal

pub returns-in_err-d : goal.returns-in_err-d
returns-in_err-d c = subst (GivesNumber c.args.text.now) (sym c.from_residual.ensures) (no_number _ c.in_err-d.ensures)

pub returns : goal.returns
returns c =
    let f : SFits w16 c.exponent_of.result = search rules in
    simp to_z-of_z (number_given _ c.in_ok-d.d c.exponent_of.result c.in_ok-d.ensures c.exponent_of.ensures)

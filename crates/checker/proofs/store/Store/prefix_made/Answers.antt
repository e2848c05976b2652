use Rattle.types.specs.Table.{is_number, is_string, is_boolean}
use Rattle.checker.proofs.Madely.{plain_as}
use Rattle.checker.proofs.Ruling.{as_prefix}
use Rattle.checker.proofs.store.Store.prefix_made.Goals as goal

pub returns-in-Not : goal.returns-in-Not
returns-in-Not c ts q t u cs tabled r = plain_as _ _ _ u c.plain.ensures (as_prefix q t u cs c.in-Not.is r).0 tabled is_boolean

pub returns-in-Negate : goal.returns-in-Negate
returns-in-Negate c ts q t u cs tabled r = plain_as _ _ _ u c.plain-in-Negate.ensures (as_prefix q t u cs c.in-Negate.is r).0 tabled is_number

pub returns-in-Typeof : goal.returns-in-Typeof
returns-in-Typeof c ts q t u cs tabled r = plain_as _ _ _ u c.plain-in-Typeof.ensures (as_prefix q t u cs c.in-Typeof.is r).0 tabled is_string

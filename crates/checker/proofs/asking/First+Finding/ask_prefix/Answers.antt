use Rattle.types.specs.Table.{is_number, is_boolean}
use Rattle.checker.proofs.Logging.{asks_as}
use Rattle.checker.proofs.Ruling.{as_prefix}
use Rattle.checker.proofs.asking.First+Finding.ask_prefix.Goals as goal

pub returns-in-Not-clause-asked : goal.returns-in-Not-clause-asked
returns-in-Not-clause-asked c low t u cs a r = asks_as _ _ (as_prefix _ t u cs c.in-Not.is r).1 (c.ask_fits.ensures.asked low t _ a is_boolean)

pub returns-in-Negate-clause-asked : goal.returns-in-Negate-clause-asked
returns-in-Negate-clause-asked c low t u cs a r = asks_as _ _ (as_prefix _ t u cs c.in-Negate.is r).1 (c.ask_fits-in-Negate.ensures.asked low t _ a is_number)

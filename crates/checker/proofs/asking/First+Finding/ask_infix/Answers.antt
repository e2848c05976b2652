use Rattle.types.specs.Table.{is_number, is_string, is_boolean}
use Rattle.checker.proofs.Logging.{asks_then, asks_as}
use Rattle.checker.proofs.Ruling.{as_form}
use Rattle.checker.proofs.asking.First+Finding.ask_infix.Goals as goal

pub returns-in-Arithmetic-clause-asked : goal.returns-in-Arithmetic-clause-asked
returns-in-Arithmetic-clause-asked c low t u v cs a b form = asks_as _ _ (as_form c.args.left.place t c.args.right.place u v cs c.in-Arithmetic.is form).1 (asks_then _ _ _ _ _ (c.ask_fits.ensures.asked low t _ a is_number) (c.ask_fits-in-Arithmetic.ensures.asked low u _ b is_number))

pub returns-in-Logical-clause-asked : goal.returns-in-Logical-clause-asked
returns-in-Logical-clause-asked c low t u v cs a b form = asks_as _ _ (as_form c.args.left.place t c.args.right.place u v cs c.in-Logical.is form).1 (c.ask_fits-in-Logical.ensures.asked low t _ a is_boolean)

pub returns-in-LeftNumber-clause-asked : goal.returns-in-LeftNumber-clause-asked
returns-in-LeftNumber-clause-asked c low t u v cs a b form = asks_as _ _ (as_form c.args.left.place t c.args.right.place u v cs c.in-LeftNumber.is form).1 (c.ask_fits-in-LeftNumber.ensures.asked low u _ b is_number)

pub returns-in-LeftString-clause-asked : goal.returns-in-LeftString-clause-asked
returns-in-LeftString-clause-asked c low t u v cs a b form = asks_as _ _ (as_form c.args.left.place t c.args.right.place u v cs c.in-LeftString.is form).1 (c.ask_fits-in-LeftString.ensures.asked low u _ b is_string)

pub returns-in-RightNumber-clause-asked : goal.returns-in-RightNumber-clause-asked
returns-in-RightNumber-clause-asked c low t u v cs a b form = asks_as _ _ (as_form c.args.left.place t c.args.right.place u v cs c.in-RightNumber.is form).1 (c.ask_fits-in-RightNumber.ensures.asked low t _ a is_number)

pub returns-in-RightString-clause-asked : goal.returns-in-RightString-clause-asked
returns-in-RightString-clause-asked c low t u v cs a b form = asks_as _ _ (as_form c.args.left.place t c.args.right.place u v cs c.in-RightString.is form).1 (c.ask_fits-in-RightString.ensures.asked low t _ a is_string)

pub returns-in-BothOpen-clause-asked : goal.returns-in-BothOpen-clause-asked
returns-in-BothOpen-clause-asked c low t u v cs a b form = asks_as _ _ (as_form c.args.left.place t c.args.right.place u v cs c.in-BothOpen.is form).1 (asks_then _ _ _ _ _ (c.ask_number_or_string.ensures.asked low t a) (c.ask_number_or_string-in-BothOpen.ensures.asked low u b))

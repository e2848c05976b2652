use Rattle.checker.proofs.Logging.{tells_met, tells_unmet}
use Rattle.checker.proofs.asking.First+Finding.ask.Goals as goal

pub returns-then-not-met-clause-asked : goal.returns-then-not-met-clause-asked
returns-then-not-met-clause-asked c k d e bs few t = tells_unmet _ _ k bs c.args.met _ d c.if-not-met.true e few (c.add.ensures.kept _) t

pub returns-else-not-met-clause-asked : goal.returns-else-not-met-clause-asked
returns-else-not-met-clause-asked c k d e bs few t = tells_met _ k bs c.args.met d c.if-not-met.false t

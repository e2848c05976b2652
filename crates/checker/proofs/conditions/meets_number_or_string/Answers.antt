use Rattle.std.proofs.Common.{sym, subst}
use Rattle.checker.specs.Entries.{SaysNumberOrString}
use Rattle.checker.proofs.Tested.{meets_number, meets_string}
use Rattle.checker.proofs.conditions.meets_number_or_string.Goals as goal

pub returns-then-meets : goal.returns-then-meets
returns-then-meets c = subst (SaysNumberOrString c.args.types.now c.args.v.used c.args.v.entry) (sym c.if-meets.true) (meets_number (rw c.without_parts.ensures at c.if-meets.ensures))

pub returns-else-meets : goal.returns-else-meets
returns-else-meets c = meets_string (rw c.without_parts.ensures at c.if-meets.ensures) (rw c.without_parts-else-meets.ensures at c.meets-else-meets.ensures)

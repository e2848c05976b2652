use Rattle.std.proofs.Common.{sym}
use Rattle.checker.proofs.walk.Walk.visit_expression.Goals as goal

pub returns-in_default : goal.returns-in_default
returns-in_default g c = c.wait_for_parts.ensures _ _ _ _ _ _ (sym c.entry_at.ensures) c.in_default.not-Leaf

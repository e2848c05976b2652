use Rattle.std.proofs.Common.{length}
use Rattle.stack.specs.Items.{held}
use Rattle.parser.specs.Building.{Completes}
use Rattle.parser.proofs.builder.Builder.reduce.Given as goal

abbrev pub invariant-loop-next : goal.invariant-loop-next
invariant-loop-next l = Completes l.initial.self l.initial.at l.least l.self l.at

abbrev pub decreases-loop-next : goal.decreases-loop-next
decreases-loop-next l = length (held l.self.parts)

use Rattle.std.proofs.Common.{sym}
use Rattle.parser.proofs.Turns.{no_operand}
use Rattle.parser.proofs.Arms.{no_leaf}
use Rattle.parser.proofs.builder.Builder.operand.Goals as goal

pub returns-in_err-operator-in_default-clause-turns : goal.returns-in_err-operator-in_default-clause-turns
returns-in_err-operator-in_default-clause-turns c = rw c.from_residual.ensures (λ sheet b ps w h.
    no_operand b ps _ (no_leaf _ c.in_default.not-Leaf) c.in_default.not-Open (sym c.in_err-operator-in_default.ensures))

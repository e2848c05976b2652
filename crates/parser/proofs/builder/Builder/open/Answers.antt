use Rattle.std.proofs.Common.{sym, arith}
use Rattle.parser.proofs.Arms.{step_infix, step_question}
use Rattle.parser.proofs.builder.Builder.open.Goals as goal
use Rattle.parser.proofs.builder.Builder.open.Goals.{in-Infix, in-Choice}

pub returns-clause-turns : goal.returns-clause-turns
returns-clause-turns c =
    let held = c.push.ensures.holds (omega (arith, c.requires.in_parts)) in
    λ sheet b ps k e t o low high h.
    elim c.match-f.branch [
      | in-Infix w ↦ step_infix t h _ _ w.in-Infix.is (rw (sym w.push-is) held) o low high
      | in-Choice w ↦ step_question t h _ w.in-Choice.is (rw (sym w.push-is) held) o low high
    ]

use Rattle.std.proofs.Common.{sym, ap, ◌∙◌, rules}
use Rattle.std.specs.Result.{is_err}
use Rattle.std.proofs.lemmas.Bool.{false≢true}
use Rattle.std.proofs.lemmas.Result.{err_from_is_err_and}
use Rattle.checker.proofs.Running.{same_sizes, was_read, not_read, performs_check}
use Rattle.checker.proofs.run.read_and_check.Goals as goal
use Rattle.checker.proofs.run.read_and_check.Goals.{then-is_err, else-is_err}

pub returns-in_err-reading-clause-checks : goal.returns-in_err-reading-clause-checks
returns-in_err-reading-clause-checks g c =
    let p = err_from_is_err_and c.from_residual.result c.from_residual.ensures.1 in
    let refused = not_read _ _ _ _ _ c.read.result c.map_err-reading.result _ c.read.ensures.reads c.map_err-reading.ensures.cases (λ e d k. search rules) c.in_err-reading.was in
    elim c.if-is_err.branch [
      | then-is_err w ↦ rw (p.1, p.2, w.findings-is) (refused, w.blank_out.ensures)
      | else-is_err w ↦ absurd (false≢true (sym w.if-is_err.false ∙ c.is_err.ensures.value ∙ ap is_err c.in_err-reading.was))
    ]

pub returns-clause-checks : goal.returns-clause-checks
returns-clause-checks g c =
    performs_check (was_read _ _ _ _ _ c.read.result c.map_err-reading.result c.read.ensures.reads c.map_err-reading.ensures.cases c.in_ok-reading.was) _ _ _ _ _ c.check.result c.map_err.result
    (same_sizes c.read.auto.tree c.read.ensures.lent) c.check.ensures.checks c.map_err.ensures.cases (λ e d k. search rules)

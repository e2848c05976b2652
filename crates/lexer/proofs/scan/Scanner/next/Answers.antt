use Rattle.std.proofs.lemmas.Result.{err_from_is_err_and}
use Rattle.lexer.proofs.Tallying.{stopped_told}
use Rattle.lexer.proofs.scan.Scanner.next.Goals as goal

pub returns-in_err-next-clause-counts : goal.returns-in_err-next-clause-counts
returns-in_err-next-clause-counts c =
    let p = err_from_is_err_and c.from_residual.result c.from_residual.ensures.1 in
    rw (p.1, p.2) (λ h. stopped_told _ _ _ _ h.short h.tallied c.in_err-next.ensures.reads.0)

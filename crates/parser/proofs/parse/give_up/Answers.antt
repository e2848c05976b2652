use Rattle.std.proofs.Common.{Err, refl, subst}
use Rattle.lexer.specs.Scanning.{Clean}
use Rattle.parser.specs.Parsing.{tokens_clean}
use Rattle.parser.proofs.Faults.{token_told}
use Rattle.parser.proofs.parse.give_up.Goals as goal

pub returns-in_err-rest : goal.returns-in_err-rest
returns-in_err-rest c sheet table same counted none = token_told _ c.from_residual.ensures.1 same (c.in_err-rest.ensures counted)

pub returns : goal.returns
returns c sheet table same counted none =
    let clean = subst (λ l. Clean l c.in_ok-rest.field-0) same (c.in_ok-rest.ensures counted) in
    rw c.at.ensures (tokens_clean {r = Err _} clean (refl, none _ clean))

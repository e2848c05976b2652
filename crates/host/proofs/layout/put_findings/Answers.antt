use Rattle.std.proofs.Common.{◌+◌, ◌*◌, get_or, take, ap, ◌∙◌, arith}
use Rattle.std.proofs.lemmas.List.{length-take-le}
use Rattle.checker.specs.Findings.{blank}
use Rattle.host.specs.Layout.{row, replaced}
use Rattle.host.proofs.Bytes.{next_row, nothing_new}
use Rattle.host.proofs.layout.put_findings.Goals as goal

pub loop-i-init : goal.loop-i-init
loop-i-init c = nothing_new c.args.out.now 8

pub loop-i-preserved : goal.loop-i-preserved
loop-i-preserved c =
    let i = c.loop-i.i in
    let listed = take c.min-n.result c.args.findings.now in
    c.put_finding.ensures
    ∙ ap (λ o. replaced o (8 + 8 * i) (row (get_or listed i blank))) c.loop-i.invariant
    ∙ next_row c.args.out.now listed i blank (omega arith) (omega (arith, length-take-le c.min-n.result c.args.findings.now (omega arith)))

use Rattle.std.proofs.Common.{◌≡◌, ◌+◌, ◌≤◌, refl, ap, ◌∙◌, arith}
use Rattle.checker.specs.declared.finding.Kind.{Kind}
use Rattle.checker.specs.declared.finding.Kind.TheVariants.{Blank, Clash, UnknownName}
use Rattle.checker.specs.Findings.{number_of}
use Rattle.host.specs.Layout.{word, replaced}
use Rattle.host.proofs.Bytes.{joined}
use Rattle.host.proofs.layout.put_finding.Goals as goal

-- a kind is told by 0, 1 or 2
at_most_two : (k : Kind) → number_of k ≤ 2
at_most_two Blank = omega arith
at_most_two Clash = omega arith
at_most_two UnknownName = omega arith

pub returns : goal.returns
returns c =
    let out = c.args.out.now in
    let at = c.args.at in
    let kind : c.from.result ≡ number_of c.args.f.kind = omega (arith, at_most_two c.args.f.kind) in
    c.put-2.ensures
    ∙ ap (λ o. replaced o (at + 4) (word c.args.f.place)) (c.put.ensures ∙ ap (λ k. replaced out at (word k)) kind)
    ∙ joined out at (word (number_of c.args.f.kind)) (word c.args.f.place) (at + 4) refl (omega arith)

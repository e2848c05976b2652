use Rattle.std.proofs.Common.{◌≡◌, ◌-◌, ◌/◌, min, ◌++◌, length, take, refl, ap, ◌∙◌, arith}
use Rattle.host.specs.Layout.{word, rows, replaced}
use Rattle.host.proofs.Bytes.{joined}
use Rattle.host.proofs.checked.Goals as goal

pub returns-clause-written : goal.returns-clause-written
returns-clause-written c =
    let out = c.args.out.now in
    let fs = c.args.findings.now in
    let count = c.args.c.now.count in
    let expressions = c.args.c.now.expressions in
    let first = c.put.new.out in
    let second = c.put-2.new.out in
    let long : length second ≡ length out = c.put-2.auto.out ∙ c.put.auto.out in
    let n = min (min count (length fs)) ((length out - 8) / 8) in
    let fit : min (min c.count-count.result (length fs)) ((length second - 8) / 8) ≡ n =
    ap (λ k. min (min k (length fs)) ((length second - 8) / 8)) c.count-count.ensures ∙ ap (λ k. min (min count (length fs)) ((k - 8) / 8)) long in
    let head : second ≡ replaced out 0 (word count ++ word expressions) =
    c.put-2.ensures
    ∙ ap (λ k. replaced first 4 (word k)) c.expressions-expressions.ensures
    ∙ ap (λ o. replaced o 4 (word expressions)) (c.put.ensures ∙ ap (λ k. replaced out 0 (word k)) c.count-count.ensures)
    ∙ joined out 0 (word count) (word expressions) 4 refl (omega arith) in
    c.put_findings.ensures
    ∙ ap (λ k. replaced second 8 (rows (take k fs))) fit
    ∙ ap (λ o. replaced o 8 (rows (take n fs))) head
    ∙ joined out 0 (word count ++ word expressions) (rows (take n fs)) 8 refl (omega arith)

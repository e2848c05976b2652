use Rattle.std.proofs.Common.{◌≡◌, sym, refl, ap, subst, rules}
use Rattle.checker.specs.Standing.{state}
use Rattle.checker.specs.Walks.{WalkedAs}
use Rattle.checker.proofs.Starting.{first_told, walked, walked_heavy}
use Rattle.checker.proofs.check.walk_over.Goals as goal

carried : {A B : Type 0} {x y : A} {u v : B} (P : A → B → Type 0) → x ≡ y → u ≡ v → P y v → P x u
carried {x = x} {v = v} P e f p = subst (P x) (sym f) (subst (λ z. P z v) (sym e) p)

pub returns-in_err-run : goal.returns-in_err-run
returns-in_err-run g c ss ns listed small typed sound operators frames size blanks =
    walked_heavy ns _ _ _ c.from_residual.ensures.0
    (first_told _ _ _ c.args.last ss ns _ _ _ c.new.result listed small typed sound operators frames c.new.ensures.none c.new.ensures.space c.push.ensures.holds c.push.ensures.space c.new-2.ensures.none c.new-2.ensures.space
    size refl refl refl refl blanks c.in_err-run.ensures)

pub returns : goal.returns
returns g c ss ns listed small typed sound operators frames size blanks =
    let told = first_told _ _ _ c.args.last ss ns _ _ _ c.new.result listed small typed sound operators frames c.new.ensures.none c.new.ensures.space c.push.ensures.holds c.push.ensures.space c.new-2.ensures.none c.new-2.ensures.space
    size refl refl refl refl blanks c.in_ok-run.ensures in
    carried (WalkedAs ns _) (let e = c.run.ensures.lent.0 in search rules) (let e = c.run.ensures.lent.1 in search rules)
    (walked ns (state c.run.new.self c.run.new.findings c.run.new.store) _ (ap (λ k. k.count) c.new-3.ensures) (ap (λ k. k.expressions) c.new-3.ensures) (ap (λ k. k.used) c.new-3.ensures) told.0 told.1)

-- Findings tell of the unmet conditions. Assumes nothing.
use Rattle.std.proofs.Common.{◌≡◌, List, [], ◌∷◌, refl, ap}
use Rattle.checker.specs.declared.finding.Finding.{Finding}
use Rattle.checker.specs.Conditions.{Condition, AllMet}
use Rattle.checker.specs.Findings.{Findings, none, met, unmet, finding}
use Rattle.checker.specs.Laws.{FindingsTell}

pub one_findings : {cs : List Condition} {fs gs : List Finding} → Findings cs fs → Findings cs gs → fs ≡ gs
one_findings none none = refl
one_findings (met m x) (met n y) = one_findings x y
one_findings (met m x) (unmet n y) = absurd (n m)
one_findings (unmet m x) (met n y) = absurd (m n)
one_findings (unmet {c} m x) (unmet n y) = ap (λ fs. finding c ∷ fs) (one_findings x y)

pub all_met_if_none : {cs : List Condition} {fs : List Finding} → Findings cs fs → fs ≡ [] → AllMet cs
all_met_if_none none e = tt
all_met_if_none (met m x) e = (m, all_met_if_none x e)
all_met_if_none (unmet m x) e = absurd (cc)

pub none_if_all_met : {cs : List Condition} {fs : List Finding} → Findings cs fs → AllMet cs → fs ≡ []
none_if_all_met none a = refl
none_if_all_met (met m x) a = none_if_all_met x a.1
none_if_all_met (unmet m x) a = absurd (m a.0)

pub findings_tell_lem : FindingsTell
findings_tell_lem = (λ cs fs gs. one_findings, λ cs fs. all_met_if_none, λ cs fs. none_if_all_met)

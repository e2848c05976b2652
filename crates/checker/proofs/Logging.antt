-- What is kept of one condition more. Assumes nothing.
use Rattle.std.proofs.Common.{◌≡◌, ◌^◌, ◌<◌, ◌≤◌, Bool, true, false, List, [], ◌∷◌, ◌++◌, length, Decides, sym, refl, ap, ◌∙◌, subst, append_assoc, append-nil, arith, length-append}
use Rattle.std.proofs.lemmas.Bool.{false≢true}
use Rattle.types.specs.Types.{Ty}
use Rattle.checker.specs.declared.finding.Finding.{Finding}
use Rattle.checker.specs.declared.first.First.{First}
use Rattle.checker.specs.Conditions.{Condition, Met}
use Rattle.checker.specs.Rules.{Note, asks, has, ends, conditions, types}
use Rattle.checker.specs.Findings.{Findings, none, met, unmet, finding, blank}
use Rattle.checker.specs.Keeping.{Keeps}
use Rattle.checker.specs.Standing.{Tells, Asks}

pub conditions_append : (ms ns : List Note) → conditions (ms ++ ns) ≡ conditions ms ++ conditions ns
conditions_append [] ns = refl
conditions_append (asks c ∷ ms) ns = ap (λ cs. c ∷ cs) (conditions_append ms ns)
conditions_append (has t ∷ ms) ns = conditions_append ms ns

pub types_append : (ms ns : List Note) → types (ms ++ ns) ≡ types ms ++ types ns
types_append [] ns = refl
types_append (asks c ∷ ms) ns = types_append ms ns
types_append (has t ∷ ms) ns = ap (λ ts. t ∷ ts) (types_append ms ns)

-- the conditions alone of what is noted where an expression ends
unfoldable pub asked : List Condition → List Note
asked [] = []
asked (c ∷ cs) = asks c ∷ asked cs

pub ends_asked : (cs : List Condition) (t : Ty) → ends cs t ≡ asked cs ++ has t ∷ []
unfolding asked
ends_asked [] t = refl
ends_asked (c ∷ cs) t = ap (λ ns. asks c ∷ ns) (ends_asked cs t)

pub asked_conditions : (cs : List Condition) → conditions (asked cs) ≡ cs
unfolding asked
asked_conditions [] = refl
asked_conditions (c ∷ cs) = ap (λ ds. c ∷ ds) (asked_conditions cs)

pub asked_types : (cs : List Condition) → types (asked cs) ≡ []
unfolding asked
asked_types [] = refl
asked_types (c ∷ cs) = asked_types cs

pub short : (ms : List Note) → (length (conditions ms) ≤ length ms) × (length (types ms) ≤ length ms)
short [] = omega arith
short (asks c ∷ ms) = omega (arith, short ms)
short (has t ∷ ms) = omega (arith, short ms)

-- a finding tells of a condition
pub few_found : {cs : List Condition} {fs : List Finding} → Findings cs fs → length fs ≤ length cs
few_found none = omega arith
few_found (met h f) = omega (arith, few_found f)
few_found (unmet h f) = omega (arith, few_found f)

found_met : {cs : List Condition} {fs : List Finding} (c : Condition) → Findings cs fs → Met c → Findings (cs ++ c ∷ []) fs
found_met c none m = met m none
found_met c (met h f) m = met h (found_met c f m)
found_met c (unmet h f) m = unmet h (found_met c f m)

found_unmet : {cs : List Condition} {fs : List Finding} (c : Condition) → Findings cs fs → (Met c → ⊥) → Findings (cs ++ c ∷ []) (fs ++ finding c ∷ [])
found_unmet c none m = unmet m none
found_unmet c (met h f) m = met h (found_unmet c f m)
found_unmet c (unmet h f) m = unmet h (found_unmet c f m)

-- a condition that is met leaves the findings as they are
pub tells_met : (f : First Finding) (c : Condition) (cs : List Condition) (b : Bool) → Decides b (Met c) → b ≡ true → Tells f cs → Tells f (cs ++ c ∷ [])
tells_met f c cs b d e t = record { found = t.found; findings = found_met c t.findings (d.0 e); kept = t.kept }

-- one that is not met adds one
pub tells_unmet : (f g : First Finding) (c : Condition) (cs : List Condition) (b : Bool) (x : Finding) → Decides b (Met c) → b ≡ false → finding c ≡ x → length (cs ++ c ∷ []) ≤ 16384
    → ((xs : List Finding) → Keeps blank f xs → length xs < 2 ^ 32 → Keeps blank g (xs ++ x ∷ [])) → Tells f cs → Tells g (cs ++ c ∷ [])
tells_unmet f g c cs b x d e q few add t = record {
  found = t.found ++ finding c ∷ [];
  findings = found_unmet c t.findings (λ m. false≢true (sym e ∙ d.1 m));
  kept = subst (λ y. Keeps blank g (t.found ++ y ∷ [])) (sym q) (add t.found t.kept (omega (arith, few_found t.findings, length-append cs (c ∷ []))));
}

-- one condition after another
pub asks_none : {f : First Finding} → Asks f [] f
asks_none {f} bs few t = subst (Tells f) (sym (append-nil bs)) t

pub asks_then : (f g h : First Finding) (c d : Condition) → Asks f (c ∷ []) g → Asks g (d ∷ []) h → Asks f (c ∷ d ∷ []) h
asks_then f g h c d a b bs few t =
    let e = append_assoc bs (c ∷ []) (d ∷ []) in
    let long = length-append bs (c ∷ d ∷ []) in
    let front = length-append bs (c ∷ []) in
    subst (Tells h) e (b (bs ++ c ∷ []) (subst (λ xs. length xs ≤ 16384) (sym e) few) (a bs (omega arith) t))

pub asks_as : (f g : First Finding) {cs ds : List Condition} → cs ≡ ds → Asks f ds g → Asks f cs g
asks_as f g e a = subst (λ xs. Asks f xs g) (sym e) a

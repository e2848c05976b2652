-- What an entry's type weighs. Assumes nothing.
use Rattle.std.proofs.Common.{◌≡◌, ℕ, suc, ◌+◌, ◌-◌, ◌<◌, ◌≤◌, min, List, length, Some, None, Option, sym, refl, ap, ◌∙◌, subst, arith}
use Rattle.types.specs.declared.entries.TypeEntry.{TypeEntry}
use Rattle.types.specs.declared.entries.TypeEntry.TheVariants.{Function}
use Rattle.types.specs.Types.{Ty, Types, ◌and◌}
use Rattle.types.specs.Table.{entry_at, Is, is_function, Run, run_end, run_more}
use Rattle.building.specs.Weights.{weight, weights}
use Rattle.types.specs.declared.entries.Root.{Root}
use Rattle.types.specs.Roots.{root_at}
use Rattle.building.specs.Made.{SaysWeight}
use Rattle.building.specs.Entries.{SaysPartsWeigh, SaysRunWeighs}
use Rattle.types.proofs.Parts.{known}
use Rattle.building.proofs.Same.{run_from}

-- the weights of the types of a run before the index k, within the limit, and what the others add
abbrev pub Left : List TypeEntry → ℕ → ℕ → ℕ → ℕ → ℕ → Type 0
Left es first end limit k sum = (ts : Types) → Run es first (end - first) ts → (us : Types) × Run es k (end - k) us × (min (weights ts) limit ≡ min (sum + weights us) limit)

pub next : {es : List TypeEntry} {first size : ℕ} {us : Types} → 0 < size → Run es first size us → (t : Ty) × (ts : Types) × (us ≡ (t and ts)) × Is es first (entry_at es first) t × Run es (suc first) (size - 1) ts
next lt run_end = absurd (omega arith)
next {es} {first} lt (run_more {size} {t} {ts} x r) =
    let e : size ≡ suc size - 1 = omega arith in
    (t, ts, refl, x, subst (λ n. Run es (suc first) n ts) e r)

pub one_more : (es : List TypeEntry) (first end limit k sum : ℕ) {j w after : ℕ} (x : Root) → j ≡ k + 1 → k < end → end ≤ length es → x ≡ root_at es k → SaysWeight es x.used x.entry limit w → after ≡ min (sum + w) limit → Left es first end limit k sum → Left es first end limit j after
one_more es first end limit k sum {j} {w} {after} x at-next lt low is d e left ts r =
    let l = left ts r in
    let n = next (omega arith) l.1 in
    let here = subst (λ z. SaysWeight es z.used z.entry limit w) is d (omega arith) n.0 n.3 in
    let p : suc k ≡ j = omega arith in
    let q : (end - k) - 1 ≡ end - j = omega arith in
    let total = l.2 ∙ ap (λ us. min (sum + weights us) limit) n.2 in
    (n.1, subst (λ i. Run es i (end - j) n.1) p (subst (λ i. Run es (suc k) i n.1) q n.4), capped (weights ts) limit sum w (weight n.0) (weights n.1) after total here e)
  where
    capped : (a limit sum w t us after : ℕ) → min a limit ≡ min (sum + (t + us)) limit → w ≡ min t limit → after ≡ min (sum + w) limit → min a limit ≡ min (after + us) limit
    capped a limit sum w t us after p q r = omega arith

-- a part or a run that does not stand below the entry
pub part_missing : (limit : ℕ) {es : List TypeEntry} {n i : ℕ} {e : TypeEntry} {r : Option ℕ} → r ≡ None → (n ≤ length es → n ≤ i) → ((t : Ty) → Is es n e t → i < n) → SaysPartsWeigh es n e limit r
part_missing limit {es} {n} {i} {e} none out low = subst (SaysPartsWeigh es n e limit) (sym none) (λ le t h. let a = out le in let b = low t h in omega arith)

pub run_missing : (limit : ℕ) {es : List TypeEntry} {n end : ℕ} {e : TypeEntry} {r : Option ℕ} → r ≡ None → n < end → ((t : Ty) → Is es n e t → end ≤ n) → SaysPartsWeigh es n e limit r
run_missing limit {es} {n} {end} {e} none out low = subst (SaysPartsWeigh es n e limit) (sym none) (λ le t h. let b = low t h in omega arith)

-- the parameters and the result together
pub function_weighs : (limit : ℕ) {es : List TypeEntry} {n first size : ℕ} (from end sum w : ℕ) {e : TypeEntry} {all : ℕ} (x : Root) → e ≡ Function first size → from ≡ first → end ≡ first + size → SaysRunWeighs es from end limit sum → x ≡ root_at es (first + size) → SaysWeight es x.used x.entry limit w → all ≡ min (sum + w) limit → SaysPartsWeigh es n e limit (Some all)
function_weighs limit {es} {n} {first} {size} from end sum w {e} {all} x is p q c at d r le t h = go (known is h)
  where
    go : {t : Ty} → Is es n (Function first size) t → min (weight t) limit ≡ min (1 + all) limit
    go (is_function {ps} {r = u} low y z) =
        let a = c (omega arith) ps (run_from from end p q y) in
        let b = subst (λ z. SaysWeight es z.used z.entry limit w) at d (omega arith) u z in
        omega arith

-- Types that entries in hand hold. Assumes nothing.
use Rattle.std.proofs.Common.{◌≡◌, ℕ, suc, ◌+◌, ◌<◌, ◌≤◌, List, ◌∷◌, ◌++◌, length, get_or, take, drop, sym, refl, ap, ◌∙◌, subst, add-zero, arith, drop-cons}
use Rattle.std.proofs.lemmas.Grind.{common_steps}
use Rattle.types.specs.declared.entries.TypeEntry.{TypeEntry}
use Rattle.types.specs.declared.entries.TypeEntry.TheVariants.{Unused}
use Rattle.types.specs.Types.{Ty, Types, no_types, ◌and◌, count}
use Rattle.types.specs.Table.{entry_at, Is, Run, run_end, run_more}
use Rattle.types.proofs.Lower.{Agree, is_kept, higher}
use Rattle.building.specs.Made.{Hold, hold_none, hold_more}

pub hold_count : {es : List TypeEntry} {n : ℕ} {hs : List TypeEntry} {ts : Types} → Hold es n hs ts → count ts ≡ length hs
hold_count hold_none = refl
hold_count (hold_more x h) = ap suc (hold_count h)

-- written one after the other, they are a run
pub hold_run : {es fs : List TypeEntry} (used i : ℕ) {hs : List TypeEntry} {ts : Types} → Agree es fs used → used ≤ i → ((j : ℕ) → j < length hs → entry_at fs (i + j) ≡ get_or hs j Unused) → Hold es used hs ts → Run fs i (length hs) ts
hold_run used i a le at hold_none = run_end
hold_run {es} {fs} used i a le at (hold_more {e} {t} x h) =
    let first : entry_at fs i ≡ e = simp add-zero at (at 0 (omega arith)) in
    run_more
    (subst (λ y. Is fs i y t) (sym first) (higher i le (is_kept a x)))
    (hold_run used (suc i) a (omega arith) (λ j lt. let f : suc i + j ≡ i + suc j = omega arith in ap (λ y. entry_at fs y) f ∙ at (suc j) (omega arith)) h)

-- and the entries of a run hold its types
pub run_held : {es : List TypeEntry} {first size : ℕ} {ts : Types} (n : ℕ) → first + size ≤ n → n ≤ length es → Run es first size ts → Hold es n (take size (drop first es)) ts
run_held n low le run_end = hold_none
run_held {es} n low le (run_more {first} {size} {t} {ts} x r) =
    subst (λ z. Hold es n (take (suc size) z) (t and ts)) (sym (drop-cons es first Unused (omega arith))) (hold_more (higher n (omega arith) x) (run_held n (omega arith) le r))

-- one of them, and those after it
next_of : {es : List TypeEntry} {n : ℕ} {e : TypeEntry} {hs : List TypeEntry} {ms : Types} → Hold es n (e ∷ hs) ms → (t : Ty) × (ts : Types) × (ms ≡ (t and ts)) × Is es n e t × Hold es n hs ts
next_of (hold_more {t} {ts} x h) = (t, ts, refl, x, h)

pub next_held : {es : List TypeEntry} {n : ℕ} {ms : Types} (hs : List TypeEntry) (k : ℕ) → k < length hs → Hold es n (drop k hs) ms → (t : Ty) × (ts : Types) × (ms ≡ (t and ts)) × Is es n (entry_at hs k) t × Hold es n (drop (k + 1) hs) ts
next_held {es} {n} {ms} hs k lt h =
    let q = next_of (subst (λ z. Hold es n z ms) (drop-cons hs k Unused lt) h) in
    let e : suc k ≡ k + 1 = omega arith in
    (q.0, q.1, q.2, q.3, subst (λ j. Hold es n (drop j hs) q.1) e q.4)

no_types_left : (ms : Types) → count ms ≡ 0 → ms ≡ no_types
no_types_left no_types e = refl
no_types_left (m and ms) e = absurd (omega arith)

pub none_after : {es : List TypeEntry} {n : ℕ} {ms : Types} (hs : List TypeEntry) (k : ℕ) → length hs ≤ k → Hold es n (drop k hs) ms → ms ≡ no_types
none_after {ms} hs k le h = let c = hold_count h in no_types_left ms (grind (arith, common_steps))

-- the table that begins with the parts
pub begins : (ps rest : List TypeEntry) → Agree ps (ps ++ rest) (length ps)
begins ps rest = record { same = λ k lt. grind (arith, common_steps) }

pub begun : (ps rest : List TypeEntry) → Agree (ps ++ rest) ps (length ps)
begun ps rest = record { same = λ k lt. sym ((begins ps rest).same k lt) }

pub after_parts : (ps hs rest : List TypeEntry) (j : ℕ) → j < length hs → entry_at (ps ++ (hs ++ rest)) (length ps + j) ≡ get_or hs j Unused
after_parts ps hs rest j lt = grind (arith, common_steps)

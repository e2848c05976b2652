-- Entries written one after the other. Assumes nothing.
use Rattle.std.proofs.Common.{◌≡◌, ℕ, ◌+◌, ◌<◌, ◌≤◌, ◌≢◌, List, length, set, sym, refl, ◌∙◌, subst, ⊎_elim, arith, get_or-set_other, get_or-set_same}
use borrow.Rule.Slice.PartMut.{put_mid}
use Rattle.std.proofs.lemmas.Grind.{common_steps}
use Rattle.std.proofs.lemmas.Bool.{cases_eq}
use Rattle.types.specs.declared.entries.TypeEntry.{TypeEntry}
use Rattle.types.specs.Types.{Ty}
use Rattle.types.specs.Table.{entry_at, Is}
use Rattle.types.proofs.Lower.{is_kept}
use Rattle.building.specs.Made.{Kept}

pub elsewhere : (es : List TypeEntry) (k j : ℕ) (x : TypeEntry) → (j ≡ k → ⊥) → entry_at (set es k x) j ≡ entry_at es j
elsewhere es k j x ne = let n : j ≢ k = ne in rw get_or-set_other refl

pub here : (es : List TypeEntry) (k : ℕ) (x : TypeEntry) → k < length es → entry_at (set es k x) k ≡ x
here es k x lt = rw get_or-set_same refl

-- what stands below used is held as before
pub kept_held : {es fs : List TypeEntry} (used : ℕ) {n : ℕ} {e : TypeEntry} {t : Ty} → Kept es fs used → n ≤ used → Is es n e t → Is fs n e t
kept_held used kept le h = is_kept (record { same = λ k lt. sym (kept k (omega arith)) }) h

pub put_holds : (es qs : List TypeEntry) (used k j : ℕ) → used ≤ length es → j < length qs → entry_at (put_mid used k es qs) (used + j) ≡ entry_at qs j
put_holds es qs used k j le lt = grind (arith, common_steps)

pub put_long : (es qs : List TypeEntry) (used k : ℕ) → used + k ≤ length es → length qs ≡ k → length (put_mid used k es qs) ≡ length es
put_long es qs used k le e = grind (arith, common_steps)

-- a write from used on keeps what is below
pub kept_more : (es fs : List TypeEntry) (used k : ℕ) (x : TypeEntry) → Kept es fs used → Kept es (set fs (used + k) x) used
kept_more es fs used k x kept j lt = elsewhere fs (used + k) j x (λ e. omega arith) ∙ kept j lt

-- what is written at k stands after the k entries before it
pub written_more : (fs : List TypeEntry) (used k : ℕ) (f : ℕ → TypeEntry) {x : TypeEntry} → used + k < length fs → x ≡ f k → ((j : ℕ) → j < k → entry_at fs (used + j) ≡ f j) → (j : ℕ) → j < k + 1 → entry_at (set fs (used + k) x) (used + j) ≡ f j
written_more fs used k f {x} room e before j lt =
    ⊎_elim
    (λ q. subst (λ i. entry_at (set fs (used + k) x) (used + i) ≡ f i) (sym q) (here fs (used + k) x room ∙ e))
    (λ ne. elsewhere fs (used + k) (used + j) x (λ q. ne (omega arith)) ∙ before j (omega arith))
    (cases_eq j k)

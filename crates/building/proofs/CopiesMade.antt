-- Types copied from one run of entries to another. Assumes nothing.
use Rattle.std.proofs.Common.{◌≡◌, ℕ, suc, ◌+◌, ◌-◌, ◌^◌, ◌<◌, ◌≤◌, List, length, take, Some, sym, refl, ap, ◌∙◌, subst, arith}
use Rattle.std.proofs.lemmas.List.{get_or-take}
use Rattle.types.specs.declared.entries.TypeEntry.{TypeEntry}
use Rattle.types.specs.Types.{Ty, Types}
use Rattle.types.specs.Table.{entry_at, UnitsAt, Is, is_any, is_number, is_number_literal, is_string, is_string_literal, is_boolean, is_true, is_false, is_undefined, is_null, is_function, is_pair, is_list, is_union, Run, run_end, run_more}
use Rattle.types.specs.declared.entries.Root.{Root}
use Rattle.building.specs.Entries.{up, shift}
use Rattle.building.specs.Made.{MakesCopy, StandsFor, a_type, a_unit}

-- the entries below n stand in fs, moved up
pub record Moved (es fs : List TypeEntry) (by n : ℕ) : Type 0 where
  pub copies : (j : ℕ) → j < n → entry_at fs (by + j) ≡ shift by (entry_at es j)
  pub fit : by + n < 2 ^ 64

moved_at : {es fs : List TypeEntry} {t : Ty} (by n i j : ℕ) → Moved es fs by n → i < n → j ≡ by + i → Is fs (by + i) (shift by (entry_at es i)) t → Is fs j (entry_at fs j) t
moved_at {es} {fs} {t} by n i j m lt e h = subst (λ k. Is fs k (entry_at fs k) t) (sym e) (subst (λ x. Is fs (by + i) x t) (sym (m.copies i lt)) h)

moved_units : (es fs : List TypeEntry) (by n first i : ℕ) (us : List ℕ) → Moved es fs by n → first + length us ≤ n → i ≡ by + first → UnitsAt es first us → UnitsAt fs i us
moved_units es fs by n first i us m le e u k lt =
    let f : i + k ≡ by + (first + k) = omega arith in
    ap (λ x. entry_at fs x) f ∙ m.copies (first + k) (omega arith) ∙ ap (shift by) (u k lt)

moved_up : {es fs : List TypeEntry} (by n i : ℕ) → Moved es fs by n → i ≤ n → up by i ≡ by + i
moved_up by n i m le = let f = m.fit in omega arith

mutual
  pub shift_held : {es fs : List TypeEntry} (by n : ℕ) {m : ℕ} {e : TypeEntry} {t : Ty} → Moved es fs by n → m ≤ n → Is es m e t → Is fs (by + m) (shift by e) t
  shift_held by n c le is_any = is_any
  shift_held by n c le is_number = is_number
  shift_held by n c le (is_number_literal p q) = is_number_literal p q
  shift_held by n c le is_string = is_string
  shift_held {es} {fs} by n c le (is_string_literal {first} {s} low p u) =
      let e = moved_up by n first c (omega arith) in
      is_string_literal (omega arith) p (moved_units es fs by n first (up by first) s.units c (omega arith) e u)
  shift_held by n c le is_boolean = is_boolean
  shift_held by n c le is_true = is_true
  shift_held by n c le is_false = is_false
  shift_held by n c le is_undefined = is_undefined
  shift_held by n c le is_null = is_null
  shift_held by n c le (is_function {first} {size} low r x) =
      let e = moved_up by n first c (omega arith) in
      is_function (omega arith) (shift_run by n (up by first) c (omega arith) e r) (moved_at by n (first + size) (up by first + size) c (omega arith) (omega arith) (shift_held by n c (omega arith) x))
  shift_held by n c le (is_pair {head} {tail} low low' x y) =
      let e = moved_up by n head c (omega arith) in
      let f = moved_up by n tail c (omega arith) in
      is_pair (omega arith) (omega arith) (moved_at by n head (up by head) c (omega arith) e (shift_held by n c (omega arith) x)) (moved_at by n tail (up by tail) c (omega arith) f (shift_held by n c (omega arith) y))
  shift_held by n c le (is_list {element} low x) =
      let e = moved_up by n element c (omega arith) in
      is_list (omega arith) (moved_at by n element (up by element) c (omega arith) e (shift_held by n c (omega arith) x))
  shift_held by n c le (is_union {first} low r) =
      let e = moved_up by n first c (omega arith) in
      is_union (omega arith) (shift_run by n (up by first) c (omega arith) e r)

  shift_run : {es fs : List TypeEntry} (by n i : ℕ) {first size : ℕ} {ts : Types} → Moved es fs by n → first + size ≤ n → i ≡ by + first → Run es first size ts → Run fs i size ts
  shift_run by n i c le e run_end = run_end
  shift_run by n i c le e (run_more {first} x r) = run_more (moved_at by n first i c (omega arith) e (shift_held by n c (omega arith) x)) (shift_run by n (suc i) c (omega arith) (omega arith) r)

-- what stood for something still does
shift_stands : {es fs : List TypeEntry} (by n i j : ℕ) → Moved es fs by n → i < n → j ≡ by + i → StandsFor es i → StandsFor fs j
shift_stands by n i j m lt e (a_type h) = a_type (moved_at by n i j m lt e (shift_held by n m (omega arith) h))
shift_stands {fs} by n i j m lt e (a_unit u) = a_unit (ap (λ k. entry_at fs k) e ∙ m.copies i lt ∙ ap (shift by) u)

pub copy_made : (es fs others : List TypeEntry) (used : ℕ) (m : Root) {e : TypeEntry} → used + m.used ≤ length fs → used + m.used < 2 ^ 64 → e ≡ shift used m.entry → ((j : ℕ) → j < m.used → entry_at fs (used + j) ≡ shift used (entry_at others j)) → MakesCopy es fs used others m (Some (record { entry = e; used = used + m.used }))
copy_made es fs others used m {e} room fit is copies le all t h =
    let moved : Moved others fs used m.used = record { copies = copies; fit = fit } in
    record {
      holds = subst (λ x. Is fs (used + m.used) x t) (sym is) (shift_held used m.used moved (omega arith) h);
      used_is = refl;
      within = room;
      filled = λ j low lt. shift_stands used m.used (j - used) j moved (omega arith) (omega arith) (all (j - used) (omega arith) (omega arith));
    }

-- the entries of a run moved up and written, and where they end
pub copy_written : (es fs others qs : List TypeEntry) (used end : ℕ) (m : Root) {e : TypeEntry} → end ≡ used + m.used → end ≤ length fs → end < 2 ^ 64 → qs ≡ take m.used others
    → e ≡ shift used m.entry → ((j : ℕ) → j < m.used → entry_at fs (used + j) ≡ shift used (entry_at qs j)) → MakesCopy es fs used others m (Some (record { entry = e; used = end }))
copy_written es fs others qs used end m {e} at-end room fit is top moved =
    subst
    (λ k. MakesCopy es fs used others m (Some (record { entry = e; used = k })))
    (sym at-end)
    (copy_made es fs others used m (omega arith) (omega arith) top (λ j lt.
    let from : entry_at qs j ≡ entry_at others j = ap (λ xs. entry_at xs j) is ∙ rw get_or-take refl in
    moved j lt ∙ ap (shift used) from))

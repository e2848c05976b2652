-- Function types made in the table. Assumes nothing.
use Rattle.std.proofs.Common.{◌≡◌, ℕ, ◌+◌, ◌<◌, ◌≤◌, List, [], ◌∷◌, length, Some, sym, ◌∙◌, subst, add-zero, arith}
use Rattle.types.specs.declared.entries.TypeEntry.{TypeEntry}
use Rattle.types.specs.declared.entries.TypeEntry.TheVariants.{Function}
use Rattle.types.specs.Table.{entry_at, Is, is_function, Run}
use Rattle.types.proofs.Lower.{higher}
use Rattle.building.specs.Entries.{Puts}
use Rattle.building.specs.Made.{Kept, MakesFunction, a_type}
use Rattle.building.proofs.Held.{hold_count, hold_run}
use Rattle.building.proofs.OneMore.{agree}
use Rattle.building.proofs.Closed.{some_weight, count_weights}
use Rattle.building.proofs.Written.{kept_held}
use Rattle.building.proofs.Filled.{filled_more, run_filled}

-- the parameters put in, and the result after them
pub function_made : (es gs fs : List TypeEntry) (used mid end : ℕ) (ps : List TypeEntry) (e : TypeEntry) → length ps ≤ 8 → Puts gs used ps (Some mid) → Puts fs mid (e ∷ []) (Some end) → Kept es gs used → Kept gs fs mid → MakesFunction es fs used ps e (Some (record { entry = Function used (length ps); used = end }))
function_made es gs fs used mid end ps e few p q before over ts t hs ht =
    let kept : Kept es fs used = λ j lt. over j (omega (arith, p.0)) ∙ before j lt in
    let n = length ps in
    let at : (j : ℕ) → j < n → entry_at fs (used + j) ≡ entry_at ps j = λ j lt. over (used + j) (omega (arith, p.0)) ∙ p.2 j lt in
    let r : Run fs used n ts = hold_run used used (agree kept) (omega arith) at hs in
    let first : entry_at fs mid ≡ e = simp add-zero at (q.2 0 (omega arith)) in
    let there : entry_at fs (used + n) ≡ e = subst (λ k. entry_at fs k ≡ e) p.0 first in
    let last : Is fs (used + n) (entry_at fs (used + n)) t = subst (λ y. Is fs (used + n) y t) (sym there) (higher (used + n) (omega arith) (kept_held used kept (omega arith) ht)) in
    let c = hold_count hs in
    let w = count_weights ts in
    let v = some_weight t in (
      omega arith,
      record {
        holds = is_function (omega (arith, p.0, q.0)) r last;
        more = omega (arith, p.0, q.0);
        within = q.1;
        light = omega (arith, p.0, q.0);
        filled = filled_more used (used + n) (omega (arith, p.0, q.0)) (run_filled r) (a_type last);
      },
    )

-- Pair types and list types made in the table. Assumes nothing.
use Rattle.std.proofs.Common.{◌≡◌, ℕ, ◌+◌, List, [], ◌∷◌, Some, sym, subst, add-zero, arith}
use Rattle.types.specs.declared.entries.TypeEntry.{TypeEntry}
use Rattle.types.specs.declared.entries.TypeEntry.TheVariants.{Pair, List as ListOf}
use Rattle.types.specs.Table.{entry_at, Is, is_pair, is_list}
use Rattle.types.proofs.Lower.{higher}
use Rattle.building.specs.Entries.{Puts}
use Rattle.building.specs.Made.{MakesPair, MakesList, Kept, a_type}
use Rattle.building.proofs.Written.{kept_held}
use Rattle.building.proofs.Filled.{filled_none, filled_more}
use Rattle.building.proofs.Closed.{some_weight}

pub list_made : (es fs : List TypeEntry) (used end : ℕ) (a : TypeEntry) → Puts fs used (a ∷ []) (Some end) → Kept es fs used → MakesList es fs used a (Some (record { entry = ListOf used; used = end }))
list_made es fs used end a p kept t h =
    let w = some_weight t in
    let here : entry_at fs used ≡ a = simp add-zero at (p.2 0 (omega arith)) in
    let x : Is fs used (entry_at fs used) t = subst (λ e. Is fs used e t) (sym here) (kept_held used kept (omega arith) h) in
    record { holds = is_list (omega (arith, p.0)) x; more = omega (arith, p.0); within = p.1; light = omega (arith, p.0); filled = filled_more used used (omega (arith, p.0)) (filled_none fs used) (a_type x) }

pub pair_made : (es fs : List TypeEntry) (used end : ℕ) (a b : TypeEntry) → Puts fs used (a ∷ b ∷ []) (Some end) → Kept es fs used → MakesPair es fs used a b (Some (record { entry = Pair used (used + 1); used = end }))
pair_made es fs used end a b p kept s t hs ht =
    let v = some_weight s in
    let w = some_weight t in
    let first : entry_at fs used ≡ a = simp add-zero at (p.2 0 (omega arith)) in
    let x : Is fs used (entry_at fs used) s = subst (λ e. Is fs used e s) (sym first) (kept_held used kept (omega arith) hs) in
    let y : Is fs (used + 1) (entry_at fs (used + 1)) t = subst (λ e. Is fs (used + 1) e t) (sym (p.2 1 (omega arith))) (higher (used + 1) (omega arith) (kept_held used kept (omega arith) ht)) in
    record {
      holds = is_pair (omega (arith, p.0)) (omega (arith, p.0)) x y;
      more = omega (arith, p.0);
      within = p.1;
      light = omega (arith, p.0);
      filled = filled_more used (used + 1) (omega (arith, p.0)) (filled_more used used (omega arith) (filled_none fs used) (a_type x)) (a_type y);
    }

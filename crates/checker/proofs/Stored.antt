-- What the type table holds while a type is made, and once it is kept. Assumes nothing.
use Rattle.std.proofs.Common.{◌≡◌, ℕ, ◌+◌, ◌-◌, ◌<◌, ◌≤◌, min, ◌≢◌, List, [], ◌∷◌, ◌++◌, length, get_or, take, drop, set, Some, None, Result, Option, ok_or, sym, ap, ◌∙◌, subst, ⊎_elim, arith, length-append, length-drop, length-set}
use Rattle.std.proofs.lemmas.List.{get_or_append_left, get_or-append_right, get_or-take, get_or-drop, get_or-set_same, get_or-set_other, get_or_push, length_push, length-take-le}
use Rattle.std.proofs.lemmas.Bool.{cases_lt}
use Rattle.types.specs.declared.entries.TypeEntry.{TypeEntry}
use Rattle.types.specs.Values.{Text}
use Rattle.types.specs.Types.{Ty, any, string_literal, no_types, ◌and◌}
use Rattle.types.specs.Table.{Is, entry_at}
use Rattle.types.proofs.Lower.{lower_only, higher}
use Rattle.types.specs.declared.entries.Root.{Root}
use Rattle.building.specs.Made.{Filled, Kept, TypeMade, TypeOrNone, UnionOrNone, CopyOrNone}
use Rattle.building.specs.Unions.{UnionOf}
use Rattle.building.specs.Weights.{weight}
use Rattle.building.proofs.Filled.{filled_kept, filled_joined}
use Rattle.building.proofs.OneUnion.{union_is_one}
use Rattle.building.proofs.Closed.{needs_weigh}
use Rattle.checker.specs.declared.store.Store.{Store}
use Rattle.checker.specs.declared.store.TooHeavy.{TooHeavy}
use Rattle.checker.specs.Findings.{weigh}
use Rattle.checker.specs.Stores.{entries, Tabled, InHand, InHandOrHeavy, Ready, KeptType}

-- the type t made in a part of the table, or there is no room for it in that part
abbrev pub PartMade : List TypeEntry → List TypeEntry → ℕ → Ty → Option Root → Type 0
PartMade old new used t (Some m) = TypeMade new used t m
PartMade old new used t None = length old < used + weight t

-- a union is such a type
pub union_part : (old new : List TypeEntry) (used : ℕ) {s t u : Ty} (r : Option Root) → UnionOf (s and t and no_types) u → UnionOrNone old new used (s and t and no_types) r → PartMade old new used u r
union_part old new used (Some m) h w =
    subst (λ x. TypeMade new used x m) (union_is_one w.is_union h) (record { holds = w.holds; more = w.more; within = w.within; light = w.light; filled = w.filled })
union_part old new used None h w = omega (arith, w.2, needs_weigh w.1 h)

-- the part of the table below a limit
module _ (s : Store) (limit : ℕ) {ts : List Ty} (tabled : Tabled s ts) (is-limit : s.count ≤ 8192 → 8192 ≤ length (entries s) → limit ≡ 8192 - s.count) where
  abbrev old : List TypeEntry
  old = take limit (entries s)

  room : limit ≡ 8192 - s.count
  room = is-limit (omega (arith, tabled.light, tabled.within)) tabled.size

  below : s.used ≤ limit
  below = omega (arith, room, tabled.light, tabled.within)

  old_long : length old ≡ limit
  old_long = length-take-le limit (entries s) (omega (arith, room, tabled.size))

  pub given : {e : TypeEntry} {t : Ty} → Is (entries s) s.used e t → Is old s.used e t
  given {e} {t} h = lower_only (entries s) old s.used e t (λ k l. sym (get_or-take limit (entries s) k _ (omega (arith, below)))) h

  -- only that part was changed
  module _ (r : Store) (new : List TypeEntry) (long : length new ≡ length old) (put : entries r ≡ new ++ drop limit (entries s)) where
    low : (j : ℕ) → j < limit → entry_at (entries r) j ≡ entry_at new j
    low j h = ap (λ es. entry_at es j) put ∙ get_or_append_left new (drop limit (entries s)) _ j (omega (arith, old_long))

    high : (j : ℕ) → limit ≤ j → entry_at (entries r) j ≡ entry_at (entries s) j
    high j h =
        let there : limit + (j - limit) ≡ j = omega arith in
        ap (λ es. entry_at es j) put ∙ (get_or-append_right new (drop limit (entries s)) limit j _ (long ∙ old_long) h ∙ (get_or-drop limit (entries s) (j - limit) _ ∙ ap (entry_at (entries s)) there))

    taken : {e : TypeEntry} {t : Ty} (n : ℕ) → n ≤ limit → Is new n e t → Is (entries r) n e t
    taken {e} {t} n l h = lower_only new (entries r) n e t (λ k q. sym (low k (omega arith))) h

    in_hand : (t : Ty) (m : Option Root) (e : TooHeavy) → r.used ≡ s.used → r.count ≡ s.count → r.load ≡ s.load → PartMade old new s.used t m → InHandOrHeavy r t (ok_or m e)
    in_hand t (Some m) e u c l h =
        let within : m.used ≤ limit = omega (arith, h.within, long, old_long) in record {
          holds = taken m.used within h.holds;
          more = omega (arith, h.more);
          light = omega (arith, h.light);
          within = omega (arith, room, tabled.light, tabled.within);
          filled = subst (λ n. Filled (entries r) n m.used) (sym u) (filled_kept s.used m.used (λ j q. low j (omega arith)) h.filled);
        }
    in_hand t None e u c l h = omega (arith, old_long, room, tabled.light, tabled.within)

    pub part_ready : (t : Ty) (m : Option Root) (e : TooHeavy) (a : Result Root TooHeavy) → a ≡ ok_or m e → r.used ≡ s.used → r.count ≡ s.count → r.load ≡ s.load → Kept old new s.used → PartMade old new s.used t m → Ready s r t a
    part_ready t m e a same u c l k h = record {
      used = u;
      count = c;
      load = l;
      long = ap length put ∙ (length-append new (drop limit (entries s)) ∙ omega (arith, long, old_long, length-drop limit (entries s), room, tabled.size));
      kept = λ j q. low j (omega (arith, below)) ∙ (k j q ∙ get_or-take limit (entries s) j _ (omega (arith, below)));
      heads = λ j q. high j (omega (arith, room));
      in_hand = subst (InHandOrHeavy r t) (sym same) (in_hand t m e u c l h);
    }

-- what the table held it holds still
pub tabled_ready : {s r : Store} {ts : List Ty} {t : Ty} {m : Result Root TooHeavy} → Tabled s ts → Ready s r t m → Tabled r ts
tabled_ready {s} {r} {ts} h k = record {
  size = omega (arith, h.size, k.long);
  count = k.count ∙ h.count;
  load = k.load ∙ h.load;
  light = omega (arith, h.light, k.used, k.count, k.load);
  within = omega (arith, h.within, k.load);
  heads = λ i q.
      let there = k.heads (8191 - i) (omega (arith, h.count, h.light, h.within)) in
      subst (λ n. Is (entries r) n (entry_at (entries r) (8191 - i)) (get_or ts i any)) (sym k.used)
      (subst (λ e. Is (entries r) s.used e (get_or ts i any)) (sym there)
      (lower_only (entries s) (entries r) s.used _ _ (λ j l. sym (k.kept j l)) (h.heads i q)));
  filled = subst (Filled (entries r) 0) (sym k.used) (filled_kept 0 s.used k.kept h.filled);
}

-- a string is made as its units, a copy as the entries that it has in use
pub string_part : (old new : List TypeEntry) (used : ℕ) (s : Text) (r : Option Root) → TypeOrNone old new used (length s.units) (string_literal s) r → PartMade old new used (string_literal s) r
string_part old new used s (Some m) h = h
string_part old new used s None h = omega arith

pub copy_part : (old new : List TypeEntry) (used : ℕ) (t : Ty) (m : Root) (r : Option Root) → m.used < weight t → CopyOrNone old new used t m r → PartMade old new used t r
copy_part old new used t m (Some c) l h = record { holds = h.holds; more = omega (arith, h.used_is); within = h.within; light = omega (arith, h.used_is); filled = h.filled }
copy_part old new used t m None l h = omega arith

pub weigh_append : (ts us : List Ty) → weigh (ts ++ us) ≡ weigh ts + weigh us
weigh_append [] us = omega arith
weigh_append (t ∷ ts) us = omega (arith, weigh_append ts us)

module _ (s : Store) (m : Root) (t : Ty) {ts : List Ty} (tabled : Tabled s ts) (h : InHand s t m) (w : ℕ) (weighs : w ≡ min (weight t) 8193) where
  -- one type more
  pub kept_type : (r : Store) → w ≤ 8192 - s.load → entries r ≡ set (entries s) (8191 - s.count) m.entry → r.used ≡ m.used → r.count ≡ s.count + 1 → r.load ≡ s.load + w → KeptType s m t ts r
  kept_type r fits put used count load = record { tabled = record { size = size; count = omega (arith, count, tabled.count, length_push ts t); load = omega (arith, load, exact, tabled.load, weigh_append ts (t ∷ [])); light = omega (arith, used, count, load, free); within = omega (arith, load, tabled.within); heads = heads; filled = subst (Filled (entries r) 0) (sym used) (filled_kept 0 m.used kept (filled_joined 0 s.used m.used tabled.filled h.filled)) }; kept = kept; used = used }
    where
      exact : w ≡ weight t
      exact = omega (arith, tabled.within)

      free : m.used + s.count < s.load + w
      free = omega (arith, exact, h.light, tabled.light)

      at : ℕ
      at = 8191 - s.count

      size : 8192 ≤ length (entries r)
      size = omega (arith, ap length put, length-set (entries s) (8191 - s.count) m.entry, tabled.size)

      elsewhere : (j : ℕ) → j ≢ 8191 - s.count → entry_at (entries r) j ≡ entry_at (entries s) j
      elsewhere j ne = ap (λ es. entry_at es j) put ∙ get_or-set_other (entries s) (8191 - s.count) j m.entry _ ne

      kept : Kept (entries s) (entries r) m.used
      kept j l = elsewhere j (omega (arith, free, tabled.within))

      moved : {e : TypeEntry} {u : Ty} → Is (entries s) m.used e u → Is (entries r) r.used e u
      moved {e} {u} i = subst (λ n. Is (entries r) n e u) (sym used) (lower_only (entries s) (entries r) m.used e u (λ j l. sym (kept j l)) i)

      heads : (k : ℕ) → k < length (ts ++ t ∷ []) → Is (entries r) r.used (entry_at (entries r) (8191 - k)) (get_or (ts ++ t ∷ []) k any)
      heads k l = ⊎_elim old_one new_one (cases_lt k (length ts))
        where
          old_one : k < length ts → Is (entries r) r.used (entry_at (entries r) (8191 - k)) (get_or (ts ++ t ∷ []) k any)
          old_one q =
              let there = elsewhere (8191 - k) (omega (arith, tabled.count, tabled.light, tabled.within, free)) in
              subst (λ u. Is (entries r) r.used (entry_at (entries r) (8191 - k)) u) (sym (get_or_append_left ts (t ∷ []) any k q))
              (subst (λ e. Is (entries r) r.used e (get_or ts k any)) (sym there) (moved (higher m.used h.more (tabled.heads k q))))

          new_one : length ts ≤ k → Is (entries r) r.used (entry_at (entries r) (8191 - k)) (get_or (ts ++ t ∷ []) k any)
          new_one q =
              let here : k ≡ length ts = omega (arith, length_push ts t) in
              let place : 8191 - k ≡ 8191 - s.count = omega (arith, tabled.count) in
              let there = ap (entry_at (entries r)) place ∙ (ap (λ es. entry_at es (8191 - s.count)) put ∙ get_or-set_same (entries s) (8191 - s.count) m.entry _ (omega (arith, tabled.size))) in
              subst (λ u. Is (entries r) r.used (entry_at (entries r) (8191 - k)) u) (sym (get_or_push ts t any k (sym here)))
              (subst (λ e. Is (entries r) r.used e t) (sym there) (moved h.holds))

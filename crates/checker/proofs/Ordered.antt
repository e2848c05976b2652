-- Entries that hold types are in order. Assumes nothing.
use Rattle.std.proofs.Common.{◌≡◌, ℕ, zero, suc, ◌+◌, ◌-◌, ◌<◌, ◌≤◌, List, length, get_or, sym, subst, ⊎_elim, arith}
use Rattle.types.specs.declared.entries.TypeEntry.{TypeEntry}
use Rattle.types.specs.declared.entries.TypeEntry.TheVariants.{Unused, CodeUnit}
use Rattle.types.specs.Types.{Ty, Types, any}
use Rattle.types.specs.Table as table
use Rattle.types.specs.Table.{Is, Run, run_end, run_more, entry_at, Holds}
use Rattle.types.proofs.Lower.{higher}
use Rattle.building.specs.Made.{StandsFor, a_type, a_unit}
use Rattle.checker.specs.Orders.{OfType, Every, Orderly, IsInOrder, ToldAt}
use Rattle.checker.specs.declared.stage.Checked.{Checked}
use Rattle.std.proofs.lemmas.Bool.{cases_lt}

pub is_type : {es : List TypeEntry} {n : ℕ} {e : TypeEntry} {t : Ty} → Is es n e t → OfType e
is_type {es} {n} {e} {t} h = record { no_blank = λ q. blank (subst (λ x. Is es n x t) q h); no_unit = λ q. unit (subst (λ x. Is es n x t) q.1 h) }
  where
    blank : {s : Ty} → Is es n Unused s → ⊥
    blank x = elim x [ ]

    unit : {u : ℕ} {s : Ty} → Is es n (CodeUnit u) s → ⊥
    unit x = elim x [ ]

every_type : {es : List TypeEntry} {first size : ℕ} {ts : Types} → Run es first size ts → Every OfType es first size
every_type run_end k l = absurd (omega arith)
every_type {es} {first} (run_more h r) zero l = subst (λ i. OfType (entry_at es i)) (omega arith) (is_type h)
every_type {es} {first} (run_more h r) (suc k) l = subst (λ i. OfType (entry_at es i)) (omega arith) (every_type r k (omega arith))

-- one entry more
every_more : (P : TypeEntry → Type 0) (es : List TypeEntry) (first size : ℕ) → Every P es first size → P (entry_at es (first + size)) → Every P es first (suc size)
every_more P es first size h p k l = ⊎_elim (λ q. h k q) (λ q. let at : k ≡ size = omega arith in subst (λ j. P (entry_at es (first + j))) (sym at) p) (cases_lt k size)

pub is_orderly : {es : List TypeEntry} {n : ℕ} {e : TypeEntry} {t : Ty} → Is es n e t → Orderly es n e
is_orderly table.is_any = tt
is_orderly table.is_number = tt
is_orderly (table.is_number_literal a b) = tt
is_orderly table.is_string = tt
is_orderly (table.is_string_literal a b c) = (a, λ k l. (_, c k (omega (arith, b))))
is_orderly table.is_boolean = tt
is_orderly table.is_true = tt
is_orderly table.is_false = tt
is_orderly table.is_undefined = tt
is_orderly table.is_null = tt
is_orderly {es} (table.is_function {first = first} {size = size} a b c) = (a, every_more OfType es first size (every_type b) (is_type c))
is_orderly (table.is_pair a b c d) = (a, b, is_type c, is_type d)
is_orderly (table.is_list a b) = (a, is_type b)
is_orderly (table.is_union a b) = (a, every_type b)

pub stands_orderly : {es : List TypeEntry} {j : ℕ} → StandsFor es j → Orderly es j (entry_at es j)
stands_orderly (a_type h) = is_orderly h
stands_orderly {es} {j} (a_unit q) = subst (Orderly es j) (sym q) tt

pub told_at : (es : List TypeEntry) (c : Checked) (number i : ℕ) → 8192 ≤ length es → number < c.expressions → IsInOrder es c.used c.expressions → i ≡ 8191 - number → ToldAt es c number i
told_at es c number i size one order at = record {
  size = size;
  is_one = one;
  in_order = order;
  at = at;
  holds = λ ts long room held. subst (λ j. Holds es j (get_or ts number any)) (sym at) (higher (8191 - number) (omega arith) (held number (omega (arith, long))));
}

-- What an entry holds rests on no entry above it. Assumes nothing.
use Rattle.std.proofs.Common.{◌≡◌, ℕ, ◌+◌, ◌<◌, ◌≤◌, List, length, sym, ◌∙◌, subst, arith}
use Rattle.types.specs.declared.entries.TypeEntry.{TypeEntry}
use Rattle.types.specs.Types.{Ty, Types}
use Rattle.types.specs.Table.{entry_at, UnitsAt, Is, is_any, is_number, is_number_literal, is_string, is_string_literal, is_boolean, is_true, is_false, is_undefined, is_null, is_function, is_pair, is_list, is_union, Run, run_end, run_more, LowerOnly}

-- two tables agree below an index
pub record Agree (es fs : List TypeEntry) (n : ℕ) : Type 0 where
  pub same : (k : ℕ) → k < n → entry_at es k ≡ entry_at fs k

less : {es fs : List TypeEntry} (m n : ℕ) → m ≤ n → Agree es fs n → Agree es fs m
less m n le a = record { same = λ k lt. a.same k (omega arith) }

units_kept : (es fs : List TypeEntry) (first n : ℕ) (us : List ℕ) → first + length us ≤ n → Agree es fs n → UnitsAt es first us → UnitsAt fs first us
units_kept es fs first n us le a u k lt = sym (a.same (first + k) (omega arith)) ∙ u k lt

at_kept : {es fs : List TypeEntry} (n k : ℕ) {t : Ty} → k < n → Agree es fs n → Is fs k (entry_at es k) t → Is fs k (entry_at fs k) t
at_kept {es} {fs} n k {t} lt a x = subst (λ e. Is fs k e t) (a.same k lt) x

mutual
  pub is_kept : {es fs : List TypeEntry} {n : ℕ} {e : TypeEntry} {t : Ty} → Agree es fs n → Is es n e t → Is fs n e t
  is_kept a is_any = is_any
  is_kept a is_number = is_number
  is_kept a (is_number_literal p q) = is_number_literal p q
  is_kept a is_string = is_string
  is_kept {es} {fs} a (is_string_literal {n} {first} low p u) = is_string_literal low p (units_kept es fs first n _ (omega arith) a u)
  is_kept a is_boolean = is_boolean
  is_kept a is_true = is_true
  is_kept a is_false = is_false
  is_kept a is_undefined = is_undefined
  is_kept a is_null = is_null
  is_kept a (is_function {n} {first} {size} low r x) = is_function low (run_kept n (omega arith) a r) (at_kept n (first + size) low a (is_kept (less (first + size) n (omega arith) a) x))
  is_kept a (is_pair {n} {head} {tail} low low' x y) = is_pair low low' (at_kept n head low a (is_kept (less head n (omega arith) a) x)) (at_kept n tail low' a (is_kept (less tail n (omega arith) a) y))
  is_kept a (is_list {n} {element} low x) = is_list low (at_kept n element low a (is_kept (less element n (omega arith) a) x))
  is_kept a (is_union {n} low r) = is_union low (run_kept n low a r)

  pub run_kept : {es fs : List TypeEntry} {first size : ℕ} {ts : Types} (n : ℕ) → first + size ≤ n → Agree es fs n → Run es first size ts → Run fs first size ts
  run_kept n low a run_end = run_end
  run_kept n low a (run_more {first} x r) = run_more (at_kept n first (omega arith) a (is_kept (less first n (omega arith) a) x)) (run_kept n (omega arith) a r)

pub lower_only : LowerOnly
lower_only es fs n e t same h = is_kept (record { same = same }) h

-- parts that stand below an index stand below a higher one
pub higher : {es : List TypeEntry} {n : ℕ} {e : TypeEntry} {t : Ty} (m : ℕ) → n ≤ m → Is es n e t → Is es m e t
higher m le is_any = is_any
higher m le is_number = is_number
higher m le (is_number_literal p q) = is_number_literal p q
higher m le is_string = is_string
higher m le (is_string_literal low p u) = is_string_literal (omega arith) p u
higher m le is_boolean = is_boolean
higher m le is_true = is_true
higher m le is_false = is_false
higher m le is_undefined = is_undefined
higher m le is_null = is_null
higher m le (is_function low r x) = is_function (omega arith) r x
higher m le (is_pair low low' x y) = is_pair (omega arith) (omega arith) x y
higher m le (is_list low x) = is_list (omega arith) x
higher m le (is_union low r) = is_union (omega arith) r

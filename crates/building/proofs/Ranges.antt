-- What `any` over a range of numbers says. Assumes nothing.
use Rattle.std.proofs.Common.{◌≡◌, ℕ, ◌+◌, ◌-◌, ◌<◌, ◌≤◌, Bool, true, false, List, length, get_or, Option, refl, subst, arith}
use Rattle.std.proofs.lemmas.Iterator.{YieldsList-from_range, cases_from_any}
use Rattle.std.proofs.lemmas.List.FromFn.{length-range_with_len, get_or-range_with_len}
use Rattle.std.proofs.iter.Yields.{nat_range_steps}
use Rattle.std.specs.Bool.{MatchBool}
use Rattle.std.specs.Option.{MatchOption}
use Rattle.std.specs.Fn.{Called}
use Rattle.std.specs.Iterator.{YieldsThen}
use Rattle.std.specs.List.{FoldsTo, range_with_len, AllWithin, HoldsAt}
use Rattle.std.specs.declared.ops.Range.{Range}
use denote.Param.Members.{Mut}

-- where the closure's answers say Yes and No of a number, and it changes nothing, `any` says Yes of some number of the range
-- or No of all
pub any_in_range : {F : Type 0} {g : Mut F (ℕ × Unit {0}) Bool} {s : Range ℕ} (u : Range ℕ) (f : F) (r : Bool) (Yes No : ℕ → Type 0)
    → (xs : List ℕ) × (o : Option ℕ) × (j : F) × YieldsThen nat_range_steps s xs o u × FoldsTo (λ p x q. Called g p (x, tt) false q) f xs j × MatchOption o (r ≡ false) (λ x. (r ≡ true) × ((h : F) × Called g j (x, tt) true h))
    → ((x : ℕ) (q : F) → Called g f (x, tt) true q → Yes x) → ((x : ℕ) (q : F) → Called g f (x, tt) false q → (q ≡ f) × No x)
    → MatchBool r ((k : ℕ) × (s.start ≤ k) × (k < s.end) × Yes k) ((k : ℕ) → s.start ≤ k → k < s.end → No k)
any_in_range {s} u f r Yes No ran p q = told r (cases_from_any u f r Yes No ran (YieldsList-from_range s.start s.end n refl refl) p q)
  where
    n : ℕ
    n = s.end - s.start

    at : (k d : ℕ) → k < n → get_or (range_with_len s.start n) k d ≡ s.start + k
    at k d h = get_or-range_with_len s.start n k d h

    told : (b : Bool) → MatchBool b ((k : ℕ) × (k < length (range_with_len s.start n)) × HoldsAt Yes (range_with_len s.start n) k) (AllWithin No (range_with_len s.start n) 0 (length (range_with_len s.start n))) → MatchBool b ((k : ℕ) × (s.start ≤ k) × (k < s.end) × Yes k) ((k : ℕ) → s.start ≤ k → k < s.end → No k)
    told true h =
        let lt : h.0 < n = omega (arith, h.1, length-range_with_len s.start n) in
        (s.start + h.0, omega arith, omega arith, subst Yes (at h.0 0 lt) (h.2 0))
    told false h = λ k le lt.
        let i : k - s.start < n = omega arith in
        let e : s.start + (k - s.start) ≡ k = omega arith in
        subst No e (subst No (at (k - s.start) 0 i) (h (k - s.start) 0 (omega arith) (omega (arith, i, length-range_with_len s.start n))))

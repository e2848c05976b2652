-- What `all` over a range of numbers decides. Assumes nothing.
use Rattle.std.proofs.Common.{◌≡◌, ℕ, ◌+◌, ◌<◌, Bool, true, false, List, length, get_or, Decides, Option, sym, refl, ap, ◌∙◌, subst, arith}
use Rattle.std.proofs.lemmas.Bool.{false≢true}
use Rattle.std.proofs.lemmas.Iterator.{YieldsList-from_range, cases_from_all}
use Rattle.std.proofs.lemmas.List.FromFn.{length-range_with_len, get_or-range_with_len}
use Rattle.std.proofs.iter.Yields.{nat_range_steps}
use Rattle.std.specs.Bool.{MatchBool}
use Rattle.std.specs.Option.{MatchOption}
use Rattle.std.specs.Fn.{Called}
use Rattle.std.specs.Iterator.{YieldsThen}
use Rattle.std.specs.List.{FoldsTo, range_with_len, AllWithin, HoldsAt}
use Rattle.std.specs.declared.ops.Range.{Range}
use denote.Param.Members.{Mut}

-- where the closure decides P of each number, and changes nothing, `all` decides P of n numbers from a on
pub decides_run : {F : Type 0} {g : Mut F (ℕ × Unit {0}) Bool} {s : Range ℕ} (u : Range ℕ) (f : F) (r : Bool) (a n : ℕ) (P : ℕ → Type 0)
    → (xs : List ℕ) × (o : Option ℕ) × (j : F) × YieldsThen nat_range_steps s xs o u × FoldsTo (λ p x q. Called g p (x, tt) true q) f xs j × MatchOption o (r ≡ true) (λ x. (r ≡ false) × ((h : F) × Called g j (x, tt) false h))
    → s ≡ record { start = a; end = a + n } → ((x : ℕ) (b : Bool) (q : F) → Called g f (x, tt) b q → (q ≡ f) × Decides b (P x)) → Decides r ((k : ℕ) → k < n → P (a + k))
decides_run u f r a n P ran is each =
    told r (cases_from_all u f r P (λ x. P x → ⊥) ran (YieldsList-from_range a (a + n) n is (omega arith))
    (λ x q k. let e = each x true q k in (e.0, e.1.0 refl)) (λ x q k p. false≢true ((each x false q k).1.1 p)))
  where
    at : (k d : ℕ) → k < n → get_or (range_with_len a n) k d ≡ a + k
    at k d h = get_or-range_with_len a n k d h

    told : (b : Bool) → MatchBool b (AllWithin P (range_with_len a n) 0 (length (range_with_len a n))) ((k : ℕ) × (k < length (range_with_len a n)) × HoldsAt (λ x. P x → ⊥) (range_with_len a n) k) → Decides b ((k : ℕ) → k < n → P (a + k))
    told true h = (λ e k lt. subst P (at k 0 lt) (h k 0 (omega arith) (omega (arith, length-range_with_len a n))), λ p. refl)
    told false h = (λ e. absurd (false≢true e), λ p. absurd (h.2 0 (subst P (sym (at h.0 0 (omega (arith, h.1, length-range_with_len a n)))) (p h.0 (omega (arith, h.1, length-range_with_len a n))))))

-- the same of the numbers below n
pub decides_below : {F : Type 0} {g : Mut F (ℕ × Unit {0}) Bool} {s : Range ℕ} (u : Range ℕ) (f : F) (r : Bool) (n : ℕ) (P : ℕ → Type 0)
    → (xs : List ℕ) × (o : Option ℕ) × (j : F) × YieldsThen nat_range_steps s xs o u × FoldsTo (λ p x q. Called g p (x, tt) true q) f xs j × MatchOption o (r ≡ true) (λ x. (r ≡ false) × ((h : F) × Called g j (x, tt) false h))
    → s ≡ record { start = 0; end = n } → ((x : ℕ) (b : Bool) (q : F) → Called g f (x, tt) b q → (q ≡ f) × Decides b (P x)) → Decides r ((k : ℕ) → k < n → P k)
decides_below u f r n P ran is each =
    let d = decides_run u f r 0 n P ran (is ∙ ap (λ m. record { start = 0; end = m }) (omega arith)) each in
    (λ e k lt. subst P (omega arith) (d.0 e k lt), λ h. d.1 (λ k lt. subst P (omega arith) (h k lt)))

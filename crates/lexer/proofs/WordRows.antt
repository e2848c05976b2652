-- The words in rows by their first letters. Assumes nothing.
use Rattle.std.proofs.Common.{rules, ◌≡◌, ℕ, ◌+◌, ◌%◌, ◌<◌, ◌≤◌, Bool, true, false, eqb, ltb, List, [], length, get_or, Bor, Decides, Option, MatchOption, sym, refl, ◌∙◌, subst, arith}
use lib.Pointwise.{pointwise}
use Rattle.std.specs.List.{ContainsAt as Has, AllByRecursion, IsAnyAnswer, HoldsAt}
use Rattle.std.proofs.ByRecursion.{All-get_or, all-has}
use Rattle.std.proofs.lemmas.Bool.{false≢true, ltb-true}
use Rattle.std.proofs.lemmas.Bool.Decides.{Decides-eqb}
use Rattle.std.proofs.lemmas.List.{get_or-map, length-map}
use Rattle.std.proofs.lemmas.Slice.Eq.{slice_eq-Decides}
use Rattle.lexer.specs.Marks.{words}
use Rattle.lexer.proofs.Tables.{texts, has, has_decides}

abbrev Row : Type 0
Row = Bor (List (Bor (List ℕ)))

-- a row of no words
abbrev pub none : Row
none = record { ref_ptr = (0, 0); now = [] }

-- the number of a text's row: that of its first letter, counted from a
abbrev pub row_of : List ℕ → ℕ
row_of t = (get_or t 0 0 + 159) % 256

-- a table that has each word in its row, and nothing else, by tests that antt computes
pub record Rows (table : List Row) : Type 0 where
  pub small : AllByRecursion (λ t. ltb (row_of t) (length table) ≡ true) words
  pub only : AllByRecursion (λ w. AllByRecursion (λ t. has words t ≡ true) (texts w.now)) table
  pub every : AllByRecursion (λ t. has (texts (get_or table (row_of t) none).now) t ≡ true) words

module _ (table : List Row) (x : List ℕ) (row : ℕ) (is : row ≡ row_of x) (rows : Rows table) where
  no_row : length table ≤ row → Has words x → ⊥
  no_row past h =
      let low = ltb-true _ _ (all-has (λ t. ltb (row_of t) (length table) ≡ true) words x rows.small h) in
      omega arith

  module _ (w : Row) (low : row < length table) (here : (d : Row) → w ≡ get_or table row d) where
    row_only : AllByRecursion (λ t. has words t ≡ true) (texts w.now)
    row_only =
        subst (λ v. AllByRecursion (λ t. has words t ≡ true) (texts v.now)) (sym (here w))
        (All-get_or (λ v. AllByRecursion (λ t. has words t ≡ true) (texts v.now)) table row w low rows.only)

    row_every : Has words x → Has (texts w.now) x
    row_every h =
        let at = all-has (λ t. has (texts (get_or table (row_of t) none).now) t ≡ true) words x rows.every h in
        let v : has (texts w.now) x ≡ true = subst (λ v. has (texts v.now) x ≡ true) (sym (here none)) (subst (λ i. has (texts (get_or table i none).now) x ≡ true) (sym is) at) in
        (has_decides (texts w.now) x).0 v

    in_row : (r : Bool) → IsAnyAnswer (λ y b. pointwise eqb y.now x ≡ b) w.now r → Decides r (Has words x)
    in_row true any =
        let d : Bor (List ℕ) = record { ref_ptr = (0, 0); now = [] } in
        let same = (slice_eq-Decides Decides-eqb _ x _ refl).0 (any.2 d) in
        let t = All-get_or (λ t. has words t ≡ true) (texts w.now) any.0 [] (omega (arith, any.1, length-map w.now (λ t. t.now))) row_only in
        (λ _. subst (Has words) (get_or-map (λ t. t.now) w.now any.0 d [] any.1 ∙ same) ((has_decides words _).0 t), λ _. refl)
    in_row false any = (
      λ f. absurd (false≢true f),
      λ h.
          let d : Bor (List ℕ) = record { ref_ptr = (0, 0); now = [] } in
          let at = row_every h in
          let low : at.0 < length w.now = omega (arith, at.1, length-map w.now (λ t. t.now)) in
          let same = sym (get_or-map (λ t. t.now) w.now at.0 d [] low) ∙ at.2 [] in
          sym (any at.0 d (omega arith) low) ∙ (slice_eq-Decides Decides-eqb _ x _ refl).1 same,
    )

  -- what `is_some_and` tells of the row that was looked up, if there is one
  pub word_told : (o : Option (Bor Row)) (r : Bool) (P : Bor Row → Type 0) → MatchOption o (length table ≤ row) (λ w. (row < length table) × HoldsAt (λ y. w.now ≡ y) table row) → MatchOption o (r ≡ false) P → ((w : Bor Row) → P w → IsAnyAnswer (λ y b. pointwise eqb y.now x ≡ b) w.now.now r) → Decides r (Has words x)
  word_told o r P h k f = search (rules, in_row, no_row)

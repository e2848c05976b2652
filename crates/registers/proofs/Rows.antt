-- The first row that has a name, and rows by the lengths of their names. Assumes nothing.
use Rattle.std.proofs.Common.{◌≡◌, ℕ, zero, suc, ◌+◌, ◌<◌, ◌≤◌, Bool, true, false, eqb, ltb, cond, List, [], ◌∷◌, length, get_or, Some, None, Option, refl, sym, ap, ◌∙◌, ⊎_elim, arith}
use Rattle.std.proofs.lemmas.Bool.{cases_Bool, false≢true, eq-eqb, ltb-true}
use Rattle.std.proofs.lemmas.Bool.Decides.{Decides-eqb}
use Rattle.std.proofs.lemmas.Slice.Eq.{slice_eq-Decides}
use Rattle.std.specs.Str.{bytes_eq}
use Rattle.std.specs.List.{find, AllByRecursion}
use Rattle.std.specs.Option.{option_map}
use Rattle.registers.specs.Meaning.{Name, Binding, Line, look_up}
use Rattle.registers.specs.Standings.{TableEntry, binding_of, table_lines, TableRow, of_length, Placed}

-- what a row that was found stands for
abbrev pub meant : Option TableEntry → Option Binding
meant = option_map (λ r. binding_of r.1)

-- one row more
either : (t : Bool) (x : TableEntry) (o : Option TableEntry) (b : Option Binding) → meant o ≡ b → meant (cond t (Some x) o) ≡ cond t (Some (binding_of x.1)) b
either true x o b e = refl
either false x o b e = e

pub found_first : (rows : List TableEntry) (name : Name) → meant (find (λ r. bytes_eq r.0.now name) rows) ≡ look_up (table_lines rows) name
found_first [] name = refl
found_first (x ∷ xs) name = either (bytes_eq x.0.now name) x _ _ (found_first xs name)

other_length : (m n : Name) → (length m ≡ length n → ⊥) → bytes_eq m n ≡ false
other_length m n h = ⊎_elim (λ t. absurd (h (ap length ((slice_eq-Decides Decides-eqb m n _ refl).0 t)))) (λ f. f) (cases_Bool (bytes_eq m n))

-- one line more
kept : (t : Bool) (l : Line) (ks ls : List Line) (n : Name) → (t ≡ false → bytes_eq l.0 n ≡ false) → look_up ks n ≡ look_up ls n → look_up (cond t (l ∷ ks) ks) n ≡ look_up (l ∷ ls) n
kept true l ks ls n f e = ap (cond (bytes_eq l.0 n) (Some l.1)) e
kept false l ks ls n f e = e ∙ sym (ap (λ b. cond b (Some l.1) (look_up ls n)) (f refl))

-- a look-up needs the lines of its length alone
same_length : (ls : List Line) (n : Name) → look_up (of_length (length n) ls) n ≡ look_up ls n
same_length [] n = refl
same_length (l ∷ ls) n =
    kept (eqb (length l.0) (length n)) l _ ls n
    (λ f. other_length l.0 n (λ e. false≢true (sym f ∙ eq-eqb _ _ e))) (same_length ls n)

too_long : (k : ℕ) (ls : List Line) (n : Name) → AllByRecursion (λ l. ltb (length l.0) k ≡ true) ls → k ≤ length n → look_up ls n ≡ None
too_long k [] n h w = refl
too_long k (l ∷ ls) n h w =
    let low = ltb-true _ _ h.0 in
    ap (λ b. cond b (Some l.1) (look_up ls n)) (other_length l.0 n (λ e. omega (arith, low, w))) ∙ too_long k ls n h.1 w

module _ (ls : List Line) (n : Name) where
  pub none_past : (k : ℕ) (rs : List TableRow) → Placed ls k rs → k + length rs ≤ length n → look_up ls n ≡ None
  none_past k [] h w = too_long k ls n h (omega arith)
  none_past k (r ∷ rs) h w = none_past (suc k) rs h.1 (omega arith)

  in_row : (k i : ℕ) (rs : List TableRow) (d : TableRow) → Placed ls k rs → i < length rs → table_lines (get_or rs i d).now ≡ of_length (k + i) ls
  in_row k i [] d h w = absurd (omega arith)
  in_row k zero (r ∷ rs) d h w = h.0 ∙ ap (λ m. of_length m ls) (omega arith)
  in_row k (suc i) (r ∷ rs) d h w = in_row (suc k) i rs d h.1 (omega arith) ∙ ap (λ m. of_length m ls) (omega arith)

  pub by_row : (rs : List TableRow) (d : TableRow) → Placed ls 0 rs → length n < length rs → look_up (table_lines (get_or rs (length n) d).now) n ≡ look_up ls n
  by_row rs d h w =
      ap (λ ks. look_up ks n) (in_row 0 (length n) rs d h w ∙ ap (λ m. of_length m ls) (omega arith))
      ∙ same_length ls n

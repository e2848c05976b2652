-- Bytes that are replaced one run after the other. Assumes nothing.
use Rattle.std.proofs.Common.{◌≡◌, ℕ, ◌+◌, ◌-◌, ◌*◌, ◌<◌, ◌≤◌, List, [], ◌∷◌, ◌++◌, length, get_or, take, drop, sym, refl, ap, ◌∙◌, append_assoc, add-zero, add_assoc, arith, length-append, take-append-drop}
use borrow.Rule.Slice.PartMut.{put_mid, post_of, Post-is}
use Rattle.std.proofs.lemmas.List.{take_at, drop_at, drop-drop, length-take-le, take_more}
use Rattle.checker.specs.declared.finding.Finding.{Finding}
use Rattle.host.specs.Layout.{row, rows, replaced}

-- two runs in a row are one
pub joined : (old : List ℕ) (at : ℕ) (a b : List ℕ) (m : ℕ) → m ≡ at + length a → m ≤ length old → replaced (replaced old at a) m b ≡ replaced old at (a ++ b)
unfolding replaced
joined old at a b m e h =
    let front : length (take at old ++ a) ≡ m = length-append (take at old) a ∙ ap (λ k. k + length a) (length-take-le at old (omega arith)) ∙ sym e in
    let rest : List ℕ = drop (at + length a) old in
    let split : take at old ++ (a ++ rest) ≡ (take at old ++ a) ++ rest = sym (append_assoc (take at old) a rest) in
    let head : take m (take at old ++ (a ++ rest)) ≡ take at old ++ a = ap (take m) split ∙ take_at (take at old ++ a) rest m front in
    let tail : drop m (take at old ++ (a ++ rest)) ≡ rest = ap (drop m) split ∙ drop_at (take at old ++ a) rest m front in
    let after : drop (m + length b) (take at old ++ (a ++ rest)) ≡ drop (at + length (a ++ b)) old =
    sym (drop-drop (length b) m (take at old ++ (a ++ rest))) ∙ ap (drop (length b)) tail ∙ drop-drop (length b) (at + length a) old
    ∙ ap (λ k. drop k old) (add_assoc at (length a) (length b) ∙ ap (λ k. at + k) (sym (length-append a b))) in
    ap (λ xs. xs ++ (b ++ drop (m + length b) (take at old ++ (a ++ rest)))) head
    ∙ ap (λ ys. (take at old ++ a) ++ (b ++ ys)) after
    ∙ append_assoc (take at old) a (b ++ drop (at + length (a ++ b)) old)
    ∙ ap (λ ys. take at old ++ ys) (sym (append_assoc a b (drop (at + length (a ++ b)) old)))

pub rows_append : (xs ys : List Finding) → rows (xs ++ ys) ≡ rows xs ++ rows ys
rows_append [] ys = refl
rows_append (x ∷ xs) ys = ap (λ bs. row x ++ bs) (rows_append xs ys)

pub rows_length : (xs : List Finding) → length (rows xs) ≡ 8 * length xs
rows_length [] = refl
rows_length (x ∷ xs) = omega (arith, rows_length xs)

rows_more : (xs : List Finding) (i : ℕ) (d : Finding) → i < length xs → rows (take (i + 1) xs) ≡ rows (take i xs) ++ row (get_or xs i d)
rows_more xs i d h = ap rows (take_more xs i d h) ∙ rows_append (take i xs) (get_or xs i d ∷ [])

-- one finding more
pub next_row : (old : List ℕ) (xs : List Finding) (i : ℕ) (d : Finding) → i < length xs → 8 + 8 * i ≤ length old
    → replaced (replaced old 8 (rows (take i xs))) (8 + 8 * i) (row (get_or xs i d)) ≡ replaced old 8 (rows (take (i + 1) xs))
next_row old xs i d h g =
    let long : length (rows (take i xs)) ≡ 8 * i = rows_length (take i xs) ∙ ap (λ k. 8 * k) (length-take-le i xs (omega arith)) in
    joined old 8 (rows (take i xs)) (row (get_or xs i d)) (8 + 8 * i) (ap (λ k. 8 + k) (sym long)) g ∙ ap (replaced old 8) (sym (rows_more xs i d h))

pub nothing_new : (old : List ℕ) (at : ℕ) → old ≡ replaced old at []
unfolding replaced
nothing_new old at = sym (ap (λ k. take at old ++ drop k old) (add-zero at) ∙ take-append-drop at old)

-- a part that was lent comes back with other bytes
pub came_back : (old : List ℕ) (at to : ℕ) (new bytes : List ℕ) → to ≡ at + length bytes → new ≡ bytes → put_mid at (to - at) old new ≡ replaced old at bytes
unfolding replaced
came_back old at to new bytes h q =
    ap (λ z. take at old ++ (z ++ post_of at (to - at) old)) q ∙ ap (λ z. take at old ++ (bytes ++ z)) (Post-is at to old (omega arith) ∙ ap (λ k. drop k old) h)

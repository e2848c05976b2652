-- One entry more, and one less, of what a stack holds. Assumes nothing.
use Rattle.std.proofs.Common.{◌≡◌, ℕ, ◌+◌, ◌<◌, min, List, [], ◌∷◌, reverse, length, get_or, take, set, sym, ap, ◌∙◌, arith, length-take}
use mathlib.Core.List.{reverse_aux-append}
use Rattle.std.proofs.lemmas.List.{take_more, take_more_set, take_min, length-reverse}
use Rattle.stack.specs.Items.{items}

pub items_length : {T : Type 0} (xs : List T) (n : ℕ) → length (items xs n) ≡ min n (length xs)
unfolding items
items_length xs n = length-reverse (take n xs) ∙ length-take n xs

pub items_none : {T : Type 0} (xs : List T) (n : ℕ) → n ≡ 0 → items xs n ≡ []
unfolding items
items_none xs n e = ap (λ k. reverse (take k xs)) e

pub items_push : {T : Type 0} (xs : List T) (n : ℕ) (x : T) → n < length xs → items (set xs n x) (n + 1) ≡ x ∷ items xs n
unfolding items
items_push xs n x h = ap reverse (take_more_set xs n x h) ∙ reverse_aux-append (take n xs) (x ∷ []) []

-- past the slots, there is no more
pub items_all : {T : Type 0} (xs : List T) (n m : ℕ) → m ≡ length (items xs n) → items xs n ≡ items xs m
unfolding items
items_all xs n m e = ap reverse (sym (take_min n xs)) ∙ ap (λ k. reverse (take k xs)) (sym (e ∙ items_length xs n))

-- the top entry, and those below it
pub items_top : {T : Type 0} (xs : List T) (len n : ℕ) (d : T) → length (items xs len) ≡ n + 1 → items xs len ≡ get_or xs n d ∷ items xs n
unfolding items
items_top xs len n d e =
    items_all xs len (n + 1) (sym e) ∙
    (ap reverse (take_more xs n d (omega (arith, items_length xs len))) ∙ reverse_aux-append (take n xs) (get_or xs n d ∷ []) [])

-- the facts that the stack's functions need
pub ruleset stacked = (items_length, items_none, items_push, items_top)

-- The units of a text, one after another, beside those of a list. Assumes nothing.
use Rattle.std.proofs.lemmas.Grind.{common_steps}
use Rattle.std.proofs.Common.{arith, Bool, true, false, not, eqb, Decides, ◌≡◌, ℕ, ◌+◌, ◌<◌, ◌≤◌, List, [], ◌∷◌, length, get_or, drop, Option, Some, None, sym, refl, ap, subst}
use Rattle.std.proofs.lemmas.List.{drop_more, drop_all}
use Rattle.std.specs.Option.{option_eq}
use Rattle.std.specs.Cmp.Lexicographic.{pointwise}
use Rattle.std.proofs.lemmas.Slice.Eq.{bytes_eq-Decides}
use Rattle.lexer.specs.Classes.{class}
use Rattle.lexer.specs.Strings.{Closes, close, more, Decodes, quoted}
use Rattle.lexer.specs.Decoding.{Next}
use Rattle.lexer.specs.declared.classes.Class.TheVariants.{Other, Quote}
use Rattle.lexer.proofs.Decodings.{first_unit, no_more}

-- the first i units agree: the text is a string of the units where the rest of it is one of the rest of them
pub record Agrees (text units : List ℕ) (at i : ℕ) : Type 0 where
  pub on : Closes (get_or text 0 0) (drop at text) (drop i units) [] → Decodes text units
  pub back : Decodes text units → Closes (get_or text 0 0) (drop at text) (drop i units) []

-- what `!=` tells of a unit that was given
pub given_other : (o : Option ℕ) (u : ℕ) (r : Bool) → r ≡ not (option_eq eqb o (Some u)) → r ≡ true → o ≡ Some u → ⊥
given_other o u r e t h = grind (arith, common_steps)

pub given_same : (o : Option ℕ) (u : ℕ) (r : Bool) → r ≡ not (option_eq eqb o (Some u)) → r ≡ false → o ≡ Some u
given_same None u r e t = grind (arith, common_steps)
given_same (Some v) u r e t = grind (arith, common_steps)

-- a text of one byte or more
front : (text : List ℕ) → class (get_or text 0 0) ≡ Quote → text ≡ get_or text 0 0 ∷ drop 1 text
front [] is = let none : Other ≡ Quote = is in cc
front (b ∷ bs) is = refl

only : (q : ℕ) (bs : List ℕ) → Closes q bs [] [] → bs ≡ q ∷ []
only q _ close = refl

-- the unit that stands there comes first
unit_differs : (q : ℕ) → class q ≡ Quote → (text : List ℕ) (at : ℕ) (o : Option ℕ) (next : ℕ) {u : ℕ} {us : List ℕ} → Next q text at o next → Closes q (drop at text) (u ∷ us) [] → (o ≡ Some u → ⊥) → ⊥
unit_differs q is text at None next n c e = no_more q is _ n.0 c
unit_differs q is text at (Some v) next n c e = e (ap Some (first_unit q is _ _ n.0 c).0)

closing : (text us : List ℕ) → Decodes text us → Closes (get_or text 0 0) (drop 1 text) us []
closing _ us (quoted is c) = c

pub unquoted : (text us : List ℕ) → (class (get_or text 0 0) ≡ Quote → ⊥) → Decodes text us → ⊥
unquoted _ us h (quoted is c) = h is

module _ (text units : List ℕ) (is : class (get_or text 0 0) ≡ Quote) where
  pub agrees_first : Agrees text units 1 0
  agrees_first = record {
    on = λ c. subst (λ l. Decodes l units) (sym (front text is)) (quoted is c);
    back = closing text units;
  }

  -- s is the text that the decoder has
  module _ (s : List ℕ) (same : s ≡ text) (at i next : ℕ) (a : Agrees text units at i) (h : i < length units) (o : Option ℕ) (n : Next (get_or s 0 0) s at o next) where
    given : Next (get_or text 0 0) text at o next
    given = subst (λ l. Next (get_or l 0 0) l at o next) same n

    left : drop i units ≡ get_or units i 0 ∷ drop (i + 1) units
    left = drop_more units i 0 h

    pub agrees_more : o ≡ Some (get_or units i 0) → Agrees text units next (i + 1)
    agrees_more e =
        let n = subst (λ r. Next (get_or text 0 0) text at r next) e given in
        record {
          on = λ c. a.on (subst (λ l. Closes (get_or text 0 0) (drop at text) l []) (sym left) (more n.0 c));
          back = λ d. (first_unit (get_or text 0 0) is _ _ n.0 (subst (λ l. Closes (get_or text 0 0) (drop at text) l []) left (a.back d))).1;
        }

    pub agrees_not : (o ≡ Some (get_or units i 0) → ⊥) → Decodes text units → ⊥
    agrees_not e d = unit_differs (get_or text 0 0) is text at o next given (subst (λ l. Closes (get_or text 0 0) (drop at text) l []) left (a.back d)) e

  -- no unit is left: the text is a string of them where only the quote is left of it
  pub agrees_whole : (at i : ℕ) → Agrees text units at i → length units ≤ i → Decides (pointwise eqb (drop at text) (get_or text 0 0 ∷ [])) (Decodes text units)
  agrees_whole at i a h =
      let q = get_or text 0 0 in
      let none : drop i units ≡ [] = drop_all i units h in
      let same = bytes_eq-Decides (drop at text) (q ∷ []) in (
        λ e. a.on (subst (λ l. Closes q l (drop i units) []) (sym (same.0 e)) (subst (λ l. Closes q (q ∷ []) l []) (sym none) close)),
        λ d. same.1 (only q _ (subst (λ l. Closes q (drop at text) l []) none (a.back d))),
      )

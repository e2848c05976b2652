-- Number literals and string literals made in the table. Assumes nothing.
use Rattle.std.proofs.Common.{◌≡◌, ℕ, ◌+◌, ◌-◌, ◌%◌, ◌<◌, ◌≤◌, Bool, true, false, cond, not, ◌&&◌, eqb, ltb, ◌⊎◌, List, [], ◌∷◌, length, get_or, drop, ℤ, pos, ◌+ℤ◌, ◌-ℤ◌, Some, None, Option, sym, refl, ap, ◌∙◌, subst, ap₂, inl, inr, ⊎_elim, add-one, arith, drop-cons}
use lib.IntN.{+ℤ-neg_ℤ_cancel, -ℤ-+ℤ_cancel}
use Rattle.std.proofs.lemmas.List.{drop_all}
use Rattle.std.proofs.lemmas.Bool.{cases_eq, cases_lt, and_parts, ltb-true, lt-ltb, ne_eqb}
use Rattle.lexer.specs.Classes.{class}
use Rattle.lexer.specs.declared.classes.Class.TheVariants.{Quote}
use Rattle.lexer.specs.declared.decimals.Decimal.{Decimal as Read-decimal}
use Rattle.lexer.specs.Decimals.{Stands}
use Rattle.lexer.specs.Decoding.{Next}
use Rattle.lexer.specs.Escapes.{escapes, unit_in}
use Rattle.lexer.specs.Strings.{Writes, plain, escape, four, Closes, close, more, Decodes, quoted}
use Rattle.lexer.proofs.Decodings.{hex_range, closes_once, after_unit, first_unit, no_more}
use Rattle.lexer.proofs.Tens.{stands_once}
use Rattle.types.specs.declared.entries.TypeEntry.{TypeEntry}
use Rattle.types.specs.declared.entries.TypeEntry.TheVariants.{NumberLiteral, StringLiteral, CodeUnit}
use Rattle.types.specs.Values.{Decimal, Text, canonical, is_zero, units16}
use Rattle.types.specs.Table.{entry_at, is_number_literal, is_string_literal}
use Rattle.types.proofs.Parts.{same_decimal, same_text}
use Rattle.types.specs.declared.entries.Root.{Root}
use Rattle.building.specs.Entries.{Puts}
use Rattle.building.specs.Made.{Kept, a_unit}
use Rattle.building.specs.Literals.{Numeral, NumberGiven, GivesNumber, SpelledString, MakesString, LiteralLaws}

-- numbers
cancel : (x y k : ℤ) → x +ℤ k ≡ y +ℤ k → x ≡ y
cancel x y k e = sym (+ℤ-neg_ℤ_cancel x k) ∙ ap (λ z. z -ℤ k) e ∙ +ℤ-neg_ℤ_cancel y k

canonical_of : (digits : ℕ) (z : ℤ) → (0 < digits % 10) ⊎ ((digits ≡ 0) × (z ≡ pos 0)) → canonical digits z ≡ true
canonical_of digits z p =
    ⊎_elim
    (λ some.
    let e : eqb digits 0 ≡ false = ne_eqb digits 0 (λ q. let g : digits % 10 ≡ 0 = ap (λ n. n % 10) q in omega arith) in
    let f : eqb (digits % 10) 0 ≡ false = ne_eqb (digits % 10) 0 (λ q. omega arith) in
    ap (λ b. cond b (is_zero z) (not (eqb (digits % 10) 0))) e ∙ ap not f)
    (λ q. ap₂ canonical q.0 q.1)
    p

pub number_given : (text : List ℕ) (d : Read-decimal) (z : ℤ) → Stands text d → z +ℤ pos 300 ≡ pos d.power → NumberGiven text (NumberLiteral d.digits z)
number_given text d z s e = record {
  number = record { digits = d.digits; exponent = z; is_canonical = canonical_of d.digits z (⊎_elim (λ p. inl p) (λ q. inr (q.0, cancel z (pos 0) (pos 300) (e ∙ ap pos q.1))) s.canonical.last) };
  numeral = record { as_read = d; stands = s; digits_are = refl; exponent_is = e };
  holds = λ es n. is_number_literal refl refl;
}

pub no_number : (text : List ℕ) → ((d : Read-decimal) → Stands text d → ⊥) → GivesNumber text None
no_number text none d n = none n.as_read n.stands

one_numeral : (text : List ℕ) (c d : Decimal) → Numeral text c → Numeral text d → c ≡ d
one_numeral text c d m n =
    let e = stands_once text m.as_read n.as_read m.stands n.stands in
    same_decimal c d
    (m.digits_are ∙ ap (λ x. x.digits) e ∙ sym n.digits_are)
    (cancel c.exponent d.exponent (pos 300) (m.exponent_is ∙ ap (λ x. pos x.power) e ∙ sym n.exponent_is))

a_numeral : (text : List ℕ) (c : Read-decimal) → Stands text c → (d : Decimal) × Numeral text d
a_numeral text c s = let g = number_given text c (pos c.power -ℤ pos 300) s (-ℤ-+ℤ_cancel (pos c.power) (pos 300)) in (g.number, g.numeral)

-- strings
quote_of : (text us : List ℕ) → Decodes text us → class (get_or text 0 0) ≡ Quote
quote_of _ us (quoted is c) = is

closes_of : (text us : List ℕ) → Decodes text us → Closes (get_or text 0 0) (drop 1 text) us []
closes_of _ us (quoted is c) = c

front : (us : List ℕ) (n : ℕ) → n < length us → drop n us ≡ get_or us n 0 ∷ drop (n + 1) us
front us n h = rw (add-one, drop-cons us n 0)

no_cons : {A : Type 0} {u : ℕ} {us : List ℕ} → u ∷ us ≡ [] → A
no_cons e = let z : ◌≡◌ {A = ℕ} 0 1 = cc in absurd (omega arith)

-- the next unit of the text is the next of the string's units
next_unit : (q : ℕ) → class q ≡ Quote → (bs cs us : List ℕ) (n u : ℕ) → Closes q bs (drop n us) [] → Writes q bs u cs → (n < length us) × (u ≡ get_or us n 0) × Closes q cs (drop (n + 1) us) []
next_unit q is bs cs us n u c w =
    ⊎_elim
    (λ lt. let f = first_unit q is bs cs w (subst (λ l. Closes q bs l []) (front us n lt) c) in (lt, f.0, f.1))
    (λ le.
    let d : Closes q bs [] [] = subst (λ l. Closes q bs l []) (drop_all n us le) c in
    let r = after_unit q is bs cs w d in
    no_cons (closes_once q is bs bs refl (more w r.1) d).0)
    (cases_lt n (length us))

-- the first n units of a string stand in the table, and what is left of the text writes the others
pub record SomeUnits (fs : List TypeEntry) (used : ℕ) (text : List ℕ) (at n : ℕ) (us : List ℕ) : Type 0 where
  pub stand : (k : ℕ) → k < n → entry_at fs (used + k) ≡ CodeUnit (get_or us k 0)
  pub left : Closes (get_or text 0 0) (drop at text) (drop n us) []
  pub some_of : n ≤ length us

-- so do those of each string that the text may be, in the entries from used on and below end
pub record Filling (es fs : List TypeEntry) (used end : ℕ) (text : List ℕ) (at : ℕ) : Type 0 where
  pub same : Kept es fs used
  pub more : used ≤ end
  pub room : end ≤ length fs
  pub filled : (us : List ℕ) → Decodes text us → SomeUnits fs used text at (end - used) us

module _ (es fs : List TypeEntry) (used end : ℕ) (text s : List ℕ) (same-text-is : s ≡ text) (at : ℕ) (f : Filling es fs used end text at) where
  on_text : (r : Option ℕ) (next : ℕ) → Next (get_or s 0 0) s at r next → Next (get_or text 0 0) text at r next
  on_text r next w = subst (λ l. Next (get_or l 0 0) l at r next) same-text-is w

  one_unit : (u next : ℕ) → Next (get_or s 0 0) s at (Some u) next → (us : List ℕ) → Decodes text us → (end - used < length us) × (u ≡ get_or us (end - used) 0) × Closes (get_or text 0 0) (drop next text) (drop (end - used + 1) us) []
  one_unit u next w us d = next_unit (get_or text 0 0) (quote_of text us d) (drop at text) (drop next text) us (end - used) u (f.filled us d).left (on_text (Some u) next w).0

  pub unit_filled : (gs : List TypeEntry) (u next after : ℕ) → Puts gs end (CodeUnit u ∷ []) (Some after) → Kept fs gs end → Next (get_or s 0 0) s at (Some u) next → Filling es gs used after text next
  unit_filled gs u next after p kept w =
      let more = f.more in
      let e : end - used + 1 ≡ after - used = omega (arith, p.0) in
      record {
        same = λ j lt. kept j (omega arith) ∙ f.same j lt;
        more = omega (arith, p.0);
        room = p.1;
        filled = λ us d.
            let o = one_unit u next w us d in
            let g = f.filled us d in
            subst (λ k. SomeUnits gs used text next k us) e (record {
              stand = λ k lt.
                  ⊎_elim
                  (λ q.
                  let i : used + k ≡ end + 0 = omega arith in
                  ap (λ z. entry_at gs z) i ∙ p.2 0 (omega arith) ∙ ap CodeUnit (o.1 ∙ ap (λ z. get_or us z 0) (sym q)))
                  (λ ne. kept (used + k) (omega arith) ∙ g.stand k (omega arith))
                  (cases_eq k (end - used));
              left = o.2;
              some_of = omega (arith, o.0);
            });
      }

  pub string_full : (gs : List TypeEntry) (u next : ℕ) {r : Option Root} → r ≡ None → length gs ≡ length es → Puts gs end (CodeUnit u ∷ []) None → Next (get_or s 0 0) s at (Some u) next → MakesString es gs used text r
  string_full gs u next none long full w = subst (MakesString es gs used text) (sym none) (λ x d. let more = f.more in let o = one_unit u next w x.units d in omega (arith, o.0, full))

  pub string_filled : (next : ℕ) → Next (get_or s 0 0) s at None next → MakesString es fs used text (Some (record { entry = StringLiteral used (end - used); used = end }))
  string_filled next w x d =
      let more = f.more in
      let n = end - used in
      let g = f.filled x.units d in
      let q = get_or text 0 0 in
      let full : length x.units ≤ n =
      ⊎_elim
      (λ lt. absurd (no_more q (quote_of text x.units d) (drop at text) (on_text None next w).0 (subst (λ l. Closes q (drop at text) l []) (front x.units n lt) g.left)))
      (λ le. le)
      (cases_lt n (length x.units)) in
      let some = g.some_of in
      record {
        holds = is_string_literal (omega arith) (omega arith) (λ k lt. g.stand k (omega arith));
        more = more;
        within = f.room;
        light = omega arith;
        filled = λ j le lt. let e : j ≡ used + (j - used) = omega arith in a_unit (ap (λ i. entry_at fs i) e ∙ g.stand (j - used) (omega arith));
      }

-- the units of a string fit sixteen bits
abbrev small : List (ℕ × ℕ) → Bool
small [] = true
small (e ∷ es) = ltb e.1 65536 && small es

escape_fits : (es : List (ℕ × ℕ)) (b u : ℕ) → small es ≡ true → unit_in es b ≡ Some u → u < 65536
escape_fits [] b u t h = let z : ◌≡◌ {A = ℕ} 0 1 = cc in absurd (omega arith)
escape_fits (e ∷ es) b u t h = go (eqb b e.0) h (escape_fits es b u (and_parts (ltb e.1 65536) (small es) t).1)
  where
    go : (v : Bool) → cond v (Some e.1) (unit_in es b) ≡ Some u → (unit_in es b ≡ Some u → u < 65536) → u < 65536
    go true p f = let q : e.1 ≡ u = cc in omega (arith, ltb-true e.1 65536 (and_parts (ltb e.1 65536) (small es) t).0)
    go false p f = f p

unit_fits : {q u : ℕ} {bs cs : List ℕ} → Writes q bs u cs → u < 65536
unit_fits (plain p) = ⊎_elim (λ h. omega (arith, h.1)) (λ h. omega (arith, h.1)) p.allowed
unit_fits (escape {b} {u} h) = escape_fits escapes b u refl h
unit_fits (four a b c d) = omega (arith, (hex_range a).2, (hex_range b).2, (hex_range c).2, (hex_range d).2)

units_fit : {q : ℕ} {bs us cs : List ℕ} → Closes q bs us cs → units16 us ≡ true
units_fit close = refl
units_fit (more {u} w c) = ap₂ ◌&&◌ (lt-ltb u 65536 (unit_fits w)) (units_fit c)

text_of : (text us : List ℕ) → Decodes text us → (s : Text) × SpelledString text s × (s.units ≡ us)
text_of _ us (quoted is c) = (record { units = us; fit = units_fit c }, quoted is c, refl)

one_string : (text : List ℕ) (s t : Text) → SpelledString text s → SpelledString text t → s ≡ t
one_string text s t d e = same_text s t (closes_once (get_or text 0 0) (quote_of text s.units d) (drop 1 text) (drop 1 text) refl (closes_of text s.units d) (closes_of text t.units e)).0

pub literal_laws : LiteralLaws
literal_laws = (one_numeral, one_string, a_numeral, text_of)

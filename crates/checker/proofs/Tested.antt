-- Types in hand, and the conditions on them. Assumes nothing.
use Rattle.std.proofs.Common.{◌≡◌, ℕ, Bool, true, false, ◌⊎◌, List, ℤ, refl, subst, inl, inr, ⊎_elim, arith}
use Rattle.std.proofs.lemmas.Bool.Decides.{not_from_Decides}
use Rattle.types.specs.declared.entries.TypeEntry.{TypeEntry}
use Rattle.types.specs.declared.entries.TypeEntry.TheVariants.{Number, NumberLiteral, String, StringLiteral}
use Rattle.types.specs.Values.{Value}
use Rattle.types.specs.Types.{Ty, number, string, Meet, Belongs, in_number, in_string, in_union, to_first, to_other}
use Rattle.types.specs.Table.{Is, is_number, is_number_literal, is_string, is_string_literal, SaysMeet}
use Rattle.checker.specs.Conditions.{Compare, Comparable, two_numbers, two_strings}
use Rattle.checker.specs.Rules as rules
use Rattle.checker.specs.Rules.{Numeric, Textual, number_or_string}
use Rattle.checker.specs.Entries.{SaysNumberOrString, SaysBothMeet, SaysCompare, SaysNumeric, SaysTextual}
use Rattle.checker.proofs.Orderly.{says_yes}

-- a number or a string
number_fits : {s : Ty} → Meet s number → Meet s number_or_string
number_fits (v, p, in_number) = (v, p, in_union (to_first in_number))

string_fits : {s : Ty} → Meet s string → Meet s number_or_string
string_fits (v, p, in_string) = (v, p, in_union (to_other (to_first in_string)))

one_of_two : {s : Ty} → Meet s number_or_string → Meet s number ⊎ Meet s string
one_of_two (v, p, in_union (to_first q)) = inl (v, p, q)
one_of_two (v, p, in_union (to_other (to_first q))) = inr (v, p, q)
one_of_two (v, p, in_union (to_other (to_other q))) = elim q [ ]

module _ {es : List TypeEntry} {n : ℕ} {e : TypeEntry} where
  pub meets_number : SaysMeet es n e 0 Number true → SaysNumberOrString es n e true
  meets_number d le s x = says_yes (number_fits ((d le (omega arith) s number x is_number).0 refl))

  pub meets_string : {r : Bool} → SaysMeet es n e 0 Number false → SaysMeet es n e 0 String r → SaysNumberOrString es n e r
  meets_string c d le s x =
      let y = d le (omega arith) s string x is_string in
      (λ p. string_fits (y.0 p), λ m. ⊎_elim (λ a. absurd (not_from_Decides false (c le (omega arith) s number x is_number) refl a)) (λ a. y.1 a) (one_of_two m))

-- two numbers or two strings
numbers_compare : {s t : Ty} → Meet s number × Meet t number → Compare s t
numbers_compare ((v, p, in_number), (w, q, in_number)) = record { one = v; other = w; of_one = p; of_other = q; can = two_numbers }

strings_compare : {s t : Ty} → Meet s string × Meet t string → Compare s t
strings_compare ((v, p, in_string), (w, q, in_string)) = record { one = v; other = w; of_one = p; of_other = q; can = two_strings }

both_of_one : {s t : Ty} {v w : Value} → Belongs v s → Belongs w t → Comparable v w → (Meet s number × Meet t number) ⊎ (Meet s string × Meet t string)
both_of_one p q two_numbers = inl ((_, p, in_number), (_, q, in_number))
both_of_one p q two_strings = inr ((_, p, in_string), (_, q, in_string))

module _ {es : List TypeEntry} {n m : ℕ} {a b : TypeEntry} where
  pub two_meet_number : SaysBothMeet es n a m b Number true → SaysCompare es n a m b true
  two_meet_number d le lf s t x y = says_yes (numbers_compare ((d le lf s t number x y is_number).0 refl))

  pub two_meet_string : {r : Bool} → SaysBothMeet es n a m b Number false → SaysBothMeet es n a m b String r → SaysCompare es n a m b r
  two_meet_string c d le lf s t x y =
      let z = d le lf s t string x y is_string in (
        λ p. strings_compare (z.0 p),
        λ m. ⊎_elim (λ f. absurd (not_from_Decides false (c le lf s t number x y is_number) refl f)) (λ f. z.1 f) (both_of_one m.of_one m.of_other m.can),
      )

-- `number` and number literals, `string` and string literals
known : {es : List TypeEntry} {n : ℕ} {a e : TypeEntry} {s : Ty} → a ≡ e → Is es n a s → Is es n e s
known {es} {n} {s} is h = subst (λ x. Is es n x s) is h

module _ {e : TypeEntry} where
  pub number_numeric : e ≡ Number → SaysNumeric e true
  number_numeric is es n s x = says_yes (go (known is x))
    where
      go : {s : Ty} → Is es n Number s → Numeric s
      go is_number = rules.is_number

  pub literal_numeric : {digits : ℕ} {exponent : ℤ} → e ≡ NumberLiteral digits exponent → SaysNumeric e true
  literal_numeric {digits} {exponent} is es n s x = says_yes (go (known is x))
    where
      go : {s : Ty} → Is es n (NumberLiteral digits exponent) s → Numeric s
      go (is_number_literal p q) = rules.is_number_literal

  pub string_textual : e ≡ String → SaysTextual e true
  string_textual is es n s x = says_yes (go (known is x))
    where
      go : {s : Ty} → Is es n String s → Textual s
      go is_string = rules.is_string

  pub literal_textual : {first size : ℕ} → e ≡ StringLiteral first size → SaysTextual e true
  literal_textual {first} {size} is es n s x = says_yes (go (known is x))
    where
      go : {s : Ty} → Is es n (StringLiteral first size) s → Textual s
      go (is_string_literal low p q) = rules.is_string_literal

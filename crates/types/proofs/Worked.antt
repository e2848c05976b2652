-- The worked examples hold. Assumes nothing.
use Rattle.std.proofs.Common.{◌≡◌, ℕ, negsuc, refl, ap, arith}
use Rattle.types.specs.Values.{Value, Decimal, a_number, a_pair, the_null}
use Rattle.types.specs.Types.{Belongs, number, string, pair, list, in_number, in_number_literal, in_null, in_pair, null_in_list, pair_in_list}
use Rattle.types.specs.Examples.{ListsMeet, CloseNumbersApart, SpellingsMeet, ExamplesHold}
use Rattle.types.proofs.Inhabited.{one}
use Rattle.types.proofs.Meaning.{same_number}

list_is_no_string : {v : Value} → Belongs v (list number) → Belongs v string → ⊥
list_is_no_string null_in_list p = elim p [ ]
list_is_no_string (pair_in_list x y) p = elim p [ ]

not_with_string : {v : Value} → Belongs v (pair number string) → Belongs v (list number) → ⊥
not_with_string (in_pair p q) (pair_in_list r s) = list_is_no_string s q

lists_meet : ListsMeet
lists_meet = (
  (the_null, null_in_list, null_in_list),
  (a_pair (a_number one) the_null, pair_in_list in_number null_in_list, in_pair in_number in_null),
  λ m. not_with_string m.2 m.1,
)

abbrev first : Decimal
first = record { digits = 51203461; exponent = negsuc 0; is_canonical = refl }

abbrev second : Decimal
second = record { digits = 51203462; exponent = negsuc 0; is_canonical = refl }

abbrev half : Decimal
half = record { digits = 5; exponent = negsuc 0; is_canonical = refl }

close_numbers_apart : CloseNumbersApart
close_numbers_apart = (
  first,
  second,
  (0, 0, refl, refl),
  (0, 0, refl, refl),
  λ m. let e : ◌≡◌ {A = ℕ} 51203461 51203462 = ap (λ d. d.digits) (same_number m) in omega arith,
)

spellings_meet : SpellingsMeet
spellings_meet = (half, half, (0, 1, refl, refl), (0, 0, refl, refl), (a_number half, in_number_literal, in_number_literal))

pub examples_hold_lem : ExamplesHold
examples_hold_lem = (lists_meet, close_numbers_apart, spellings_meet)

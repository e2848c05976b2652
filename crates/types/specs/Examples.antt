-- Worked examples of types that meet and types that do not. Assumes nothing.
use Rattle.std.specs.Prelude.{◌≡◌, ℕ, ◌*◌, ◌^◌, ℤ, pos, negsuc, ◌+ℤ◌}
use Rattle.types.specs.Values.{Decimal}
use Rattle.types.specs.Types.{Meet, number, number_literal, string, null, pair, list}

-- m × 10^e is the number d
abbrev pub Written : ℕ → ℤ → Decimal → Type 0
Written m e d = (k l : ℕ) × (m * 10 ^ k ≡ d.digits * 10 ^ l) × (e +ℤ pos l ≡ d.exponent +ℤ pos k)

-- List<number> meets List<string> and Pair<number, null>, and not Pair<number, string>
abbrev pub ListsMeet : Type 0
ListsMeet = Meet (list number) (list string) × Meet (list number) (pair number null) × (Meet (list number) (pair number string) → ⊥)

-- 5120346.1 and 5120346.2 do not meet
abbrev pub CloseNumbersApart : Type 0
CloseNumbersApart = (c d : Decimal) × Written 51203461 (negsuc 0) c × Written 51203462 (negsuc 0) d × (Meet (number_literal c) (number_literal d) → ⊥)

-- 0.50 and 5e-1 meet
abbrev pub SpellingsMeet : Type 0
SpellingsMeet = (c d : Decimal) × Written 50 (negsuc 1) c × Written 5 (negsuc 0) d × Meet (number_literal c) (number_literal d)

abbrev pub ExamplesHold : Type 0
ExamplesHold = ListsMeet × CloseNumbersApart × SpellingsMeet

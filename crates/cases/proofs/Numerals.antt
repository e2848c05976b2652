-- Texts that write numbers, each shown by its parts. Assumes nothing.
use Rattle.std.proofs.Common.{◌≡◌, ℕ, ◌+◌, ◌*◌, ◌%◌, ◌^◌, ◌<◌, ◌≤◌, true, List, [], ◌∷◌, ◌++◌, length, drop, pos, negsuc, ◌+ℤ◌, codes, refl, inl, arith}
use Rattle.lexer.specs.Classes.{class}
use Rattle.lexer.specs.Numbers.{Digits, Fraction, whole, dot, Scale, none, minus, read, amount}
use Rattle.lexer.specs.declared.classes.Class.TheVariants.{Digit}
use Rattle.types.specs.Values.{Decimal, canonical}
use Rattle.building.specs.Literals.{Numeral}

-- whole digits, a fraction and an exponent that write the decimal
numeral : (is fs es : List ℕ) {up down : ℕ} → Digits is → Fraction fs → Scale es up down → (d : Decimal) (power : ℕ) →
    d.exponent +ℤ pos 300 ≡ pos power → power ≤ 590 → d.digits < 10 ^ 15 → 0 < d.digits % 10 →
    d.digits * 10 ^ (power + (length (drop 1 fs) + down)) ≡ read (is ++ drop 1 fs) * 10 ^ (300 + up) →
    Numeral (is ++ (fs ++ es)) d
numeral is fs es i f e d power exponent range short last value = record {
  as_read = record { digits = d.digits; power = power };
  stands = record { n = _; up = _; down = _; written = amount is fs es _ _ i f e; value = value; canonical = record { short = short; range = range; last = inl last } };
  digits_are = refl;
  exponent_is = exponent;
}

abbrev pub digit : (b : ℕ) → canonical (read (b ∷ [])) (pos 0) ≡ true → Decimal
digit b c = record { digits = read (b ∷ []); exponent = pos 0; is_canonical = c }

-- a text of one digit
pub digit_numeral : (b : ℕ) (c : canonical (read (b ∷ [])) (pos 0) ≡ true) → class b ≡ Digit → read (b ∷ []) < 10 ^ 15 → 0 < read (b ∷ []) % 10 → Numeral (b ∷ []) (digit b c)
digit_numeral b c is short last = numeral (b ∷ []) [] [] (omega arith, (is, tt)) whole none (digit b c) 300 refl (omega arith) short last refl

seven : Digits (codes "5120346")
seven = (omega arith, (refl, (refl, (refl, (refl, (refl, (refl, (refl, tt))))))))

abbrev pub lower : Decimal
lower = record { digits = 51203461; exponent = negsuc 0; is_canonical = refl }

abbrev pub upper : Decimal
upper = record { digits = 51203462; exponent = negsuc 0; is_canonical = refl }

abbrev pub half : Decimal
half = record { digits = 5; exponent = negsuc 0; is_canonical = refl }

pub lower_numeral : Numeral (codes "5120346.1") lower
lower_numeral = numeral (codes "5120346") (codes ".1") [] seven (dot (omega arith, (refl, tt))) none lower 299 refl (omega arith) (omega arith) (omega arith) refl

pub upper_numeral : Numeral (codes "5120346.2") upper
upper_numeral = numeral (codes "5120346") (codes ".2") [] seven (dot (omega arith, (refl, tt))) none upper 299 refl (omega arith) (omega arith) (omega arith) refl

pub long_half : Numeral (codes "0.50") half
long_half = numeral (codes "0") (codes ".50") [] (omega arith, (refl, tt)) (dot (omega arith, (refl, (refl, tt)))) none half 299 refl (omega arith) (omega arith) (omega arith) refl

pub short_half : Numeral (codes "5e-1") half
short_half = numeral (codes "5") [] (codes "e-1") (omega arith, (refl, tt)) whole (minus (omega arith, (refl, tt))) half 299 refl (omega arith) (omega arith) (omega arith) refl

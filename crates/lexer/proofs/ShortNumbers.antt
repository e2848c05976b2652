-- A number of at most four bytes is in range. Assumes nothing.
use Rattle.std.proofs.Common.{rules, Bool, Some, None, Option, Decides, sym, ◌∙◌, ◌≡◌, ℕ, zero, suc, ◌+◌, ◌-◌, ◌*◌, ◌/◌, ◌%◌, ◌^◌, ◌<◌, ◌≤◌, List, ◌++◌, map, length, drop, refl, ap, inl, inr, ⊎_elim, pow-suc, zero-mul, arith, length-append, length-drop}
use native.Mathlib.Nat.{pow-le-pow_right}
use Rattle.std.specs.List.{AllByRecursion}
use Rattle.std.proofs.lemmas.Int.Digits.{number_lt}
use Rattle.std.proofs.ByRecursion.{All-append, All-map, All-weaker}
use Rattle.std.proofs.lemmas.List.{length-map}
use Rattle.std.proofs.lemmas.Bool.{cases_lt, false≢true}
use Rattle.lexer.specs.Numbers.{DigitByte, read, Scale, amount, NumberText}
use Rattle.std.specs.Option.{is_some}
use Rattle.lexer.specs.Decimals.{Canonical, Values, ReadAs}
use Rattle.lexer.specs.Mantissas.{Stripped}
use Rattle.lexer.specs.Sizes.{InRange}
use Rattle.lexer.specs.declared.decimals.Decimal.{Decimal}
use Rattle.lexer.proofs.Powers.{ten_suc, grows, digit_range}
use Rattle.lexer.proofs.Tens.{value_is}
use Rattle.lexer.proofs.Amounts.{fraction_digits}

-- the zeros at a number's end
strip : (f n : ℕ) → 0 < n → n < 10 ^ f → (m : ℕ) × (k : ℕ) × (k < f) × (n ≡ m * 10 ^ k) × (0 < m % 10)
strip zero n p h = absurd (omega arith)
strip (suc f) n p h =
    ⊎_elim
    (λ l. (n, 0, omega arith, omega arith, l))
    (λ z.
    let r = strip f (n / 10) (omega arith) (omega (arith, pow-suc 10 f)) in
    (r.0, suc r.1, omega (arith, r.2), omega (arith, r.3, ten_suc r.0 r.1), r.4))
    (cases_lt 0 (n % 10))

-- at most fifteen digits, and a small exponent
valued : (n up down : ℕ) → n < 10 ^ 15 → up ≤ 200 → down ≤ 300 → (d : Decimal) × Canonical d × Values d n up down
valued zero up down h u w = (record { digits = 0; power = 300 }, record { short = omega arith; range = omega arith; last = inr (refl, refl) }, simp zero-mul)
valued (suc n) up down h u w =
    let r = strip 15 (suc n) (omega arith) h in
    let s : Stripped (suc n) r.0 r.1 = record { value = r.3; last = r.4; short = omega (arith, r.3, grows r.0 0 r.1 (omega arith)) } in (
      record { digits = r.0; power = r.1 + (300 + up) - down },
      record { short = s.short; range = omega (arith, r.2); last = inl r.4 },
      value_is (suc n) r.0 r.1 s (r.1 + (300 + up) - down) up down (omega arith),
    )

-- digits write less than a one and as many zeros
read_below : (ds : List ℕ) (n : ℕ) → AllByRecursion DigitByte ds → length ds ≤ n → read ds < 10 ^ n
read_below ds n h w =
    let under = All-map (λ x. x < 10) (λ b. b - 48) ds (All-weaker DigitByte (λ b. b - 48 < 10) (λ b e. omega (arith, digit_range b e)) ds h) in
    let p : zero < 10 = omega arith in
    omega (arith, number_lt 10 (map (λ b. b - 48) ds) under, ap (λ i. 10 ^ i) (length-map ds (λ b. b - 48)), pow-le-pow_right p w)

scale_below : (es : List ℕ) {up down : ℕ} → Scale es up down → length es ≤ 3 → (up < 10 ^ 2) × (down < 10 ^ 2)
scale_below es h w = search (rules, read_below)

pub short_number : (t : List ℕ) → length t ≤ 4 → NumberText t → InRange t
short_number _ w (n, up, down, amount is fs es u d a b s) =
    let long = length-append is (fs ++ es) in
    let small = scale_below es s (omega (arith, a.0, length-append fs es)) in
    let digits = length-append is (drop 1 fs) in
    let below = read_below (is ++ drop 1 fs) 15 (All-append DigitByte is (drop 1 fs) a.1 (fraction_digits fs b)) (omega (arith, length-append fs es, length-drop 1 fs)) in
    let v = valued (read (is ++ drop 1 fs)) u (length (drop 1 fs) + d) below (omega arith) (omega (arith, length-append fs es, length-drop 1 fs)) in
    (v.0, record { n = _; up = _; down = _; written = amount is fs es u d a b s; value = v.2; canonical = v.1 })

-- a number is in range where a decimal is read from it
pub in_range : (t : List ℕ) (d : Option Decimal) (r : Bool) → ReadAs t d → r ≡ is_some d → Decides r (InRange t)
in_range t (Some d) r h e = (λ _. (d, h), λ _. e)
in_range t None r h e = (λ f. absurd (false≢true (sym e ∙ f)), λ x. absurd (h x.0 x.1))

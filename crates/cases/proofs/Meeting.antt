-- Number literals that meet, and others that do not. Assumes nothing.
use Rattle.std.proofs.Common.{◌≡◌, ℕ, List, codes, sym, ap, ◌∙◌, subst, arith}
use Rattle.types.specs.Values.{Decimal, a_number}
use Rattle.types.specs.Types.{Meet, number_literal, in_number_literal}
use Rattle.types.proofs.Meaning.{same_number}
use Rattle.building.specs.Literals.{Numeral}
use Rattle.building.proofs.LiteralsMade.{literal_laws}
use Rattle.cases.specs.Tried.{SameNumber, OtherNumber, Numbers}
use Rattle.cases.proofs.Numerals.{lower, upper, half, lower_numeral, upper_numeral, long_half, short_half}

one_number : (text : List ℕ) (c d : Decimal) → Numeral text c → Numeral text d → c ≡ d
one_number = literal_laws.0

apart : OtherNumber (codes "5120346.1") (codes "5120346.2")
apart = (
  (lower, lower_numeral),
  (upper, upper_numeral),
  λ c d m n meet.
      let e : ◌≡◌ {A = ℕ} 51203461 51203462 = ap (λ x. x.digits) (sym (one_number _ c lower m lower_numeral) ∙ same_number meet ∙ one_number _ d upper n upper_numeral) in
      omega arith,
)

alike : SameNumber (codes "0.50") (codes "5e-1")
alike = (
  (half, long_half),
  (half, short_half),
  λ c d m n.
      let e : c ≡ d = one_number _ c half m long_half ∙ sym (one_number _ d half n short_half) in
      subst (λ x. Meet (number_literal c) (number_literal x)) e (a_number c, in_number_literal, in_number_literal),
)

pub numbers : Numbers
numbers = (apart, alike)

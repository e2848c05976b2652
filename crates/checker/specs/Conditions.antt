-- Conditions, and when they are met. Assumes nothing.
use Rattle.std.specs.Prelude.{◌≡◌, ℕ, List, [], ◌∷◌, Some, Option}
use Rattle.types.specs.Values.{Decimal, Text, Value, a_number, a_string}
use Rattle.types.specs.Types.{Ty, Belongs, Meet}
use Rattle.registers.specs.Meaning.{Binding}

pub data Condition : Type 0 where
  -- the type of the expression at the place meets the type that is asked for
  fits : (place : ℕ) (given asked : Ty) → Condition
  -- the types of a left side and of a right side at the place have values that can be compared
  compares : (place : ℕ) (left right : Ty) → Condition
  -- the name at the place is bound
  bound : (place : ℕ) → Option Binding → Condition

-- both are numbers, or both are strings
pub data Comparable : Value → Value → Type 0 where
  two_numbers : {c d : Decimal} → Comparable (a_number c) (a_number d)
  two_strings : {s t : Text} → Comparable (a_string s) (a_string t)

-- a value of each type, and the two can be compared
pub record Compare (s t : Ty) : Type 0 where
  pub one : Value
  pub other : Value
  pub of_one : Belongs one s
  pub of_other : Belongs other t
  pub can : Comparable one other

abbrev pub Met : Condition → Type 0
Met (fits p s t) = Meet s t
Met (compares p s t) = Compare s t
Met (bound p o) = (b : Binding) × (o ≡ Some b)

-- each condition is met
abbrev pub AllMet : List Condition → Type 0
AllMet [] = Unit {0}
AllMet (c ∷ cs) = Met c × AllMet cs

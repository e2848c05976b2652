-- The number and the string that a text writes, and the types of their literals. Assumes nothing.
use Rattle.std.specs.Prelude.{◌≡◌, ℕ, List, length, pos, ◌+ℤ◌, Some, None, Option}
use Rattle.lexer.specs.Strings.{Decodes}
use Rattle.lexer.specs.Decimals.{Stands}
use Rattle.lexer.specs.declared.decimals.Decimal.{Decimal as Read-decimal}
use Rattle.types.specs.declared.entries.TypeEntry.{TypeEntry}
use Rattle.types.specs.Values.{Decimal, Text}
use Rattle.types.specs.Types.{number_literal, string_literal}
use Rattle.types.specs.Table.{Is}
use Rattle.types.specs.declared.entries.Root.{Root}
use Rattle.building.specs.Made.{TypeOrNone}

-- the text is a number, and its value is the decimal
pub record Numeral (text : List ℕ) (d : Decimal) : Type 0 where
  pub as_read : Read-decimal
  pub stands : Stands text as_read
  pub digits_are : d.digits ≡ as_read.digits
  pub exponent_is : d.exponent +ℤ pos 300 ≡ pos as_read.power

-- the text is a string, and its code units are those of s
abbrev pub SpelledString : List ℕ → Text → Type 0
SpelledString text s = Decodes text s.units

-- the entry is the type of the number that the text writes
pub record NumberGiven (text : List ℕ) (e : TypeEntry) : Type 0 where
  pub number : Decimal
  pub numeral : Numeral text number
  pub holds : (es : List TypeEntry) (n : ℕ) → Is es n e (number_literal number)

-- the answer r: the type of the number that the text writes, or that it writes none
abbrev pub GivesNumber : List ℕ → Option TypeEntry → Type 0
GivesNumber text (Some e) = NumberGiven text e
GivesNumber text None = (d : Decimal) → Numeral text d → ⊥

-- the type of the string that the text writes
abbrev pub MakesString : List TypeEntry → List TypeEntry → ℕ → List ℕ → Option Root → Type 0
MakesString es fs used text r = (s : Text) → SpelledString text s → TypeOrNone es fs used (length s.units) (string_literal s) r

-- a text writes one number and one string at most; a text that stands for a decimal writes a number, and one that decodes
-- into code units writes a string of them
abbrev pub LiteralLaws : Type 0
LiteralLaws =
    ((text : List ℕ) (c d : Decimal) → Numeral text c → Numeral text d → c ≡ d)
    × ((text : List ℕ) (s t : Text) → SpelledString text s → SpelledString text t → s ≡ t)
    × ((text : List ℕ) (c : Read-decimal) → Stands text c → (d : Decimal) × Numeral text d)
    × ((text us : List ℕ) → Decodes text us → (s : Text) × SpelledString text s × (s.units ≡ us))

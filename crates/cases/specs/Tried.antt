-- Small sheets with their findings and types, and types that meet or do not. Assumes nothing.
use Rattle.std.specs.Prelude.{◌≡◌, ℕ, List, [], ◌∷◌, None, codes}
use Rattle.types.specs.Values.{Decimal}
use Rattle.types.specs.Types.{Ty, any, number, number_literal, boolean, Meet}
use Rattle.types.specs.Examples.{ListsMeet}
use Rattle.building.specs.Literals.{Numeral}
use Rattle.registers.specs.Meaning.{Meaning}
use Rattle.registers.specs.Library.{library}
use Rattle.parser.specs.Syntax.{Expr}
use Rattle.parser.specs.Reading.{Sizes, Short}
use Rattle.checker.specs.declared.finding.Kind.{Kind}
use Rattle.checker.specs.declared.finding.Kind.TheVariants.{Clash, UnknownName}
use Rattle.checker.specs.declared.finding.Finding.{Finding}
use Rattle.checker.specs.Rules.{Note, Typed, AllTyped, conditions}
use Rattle.checker.specs.Findings.{Findings}
use Rattle.checker.specs.Runs.{Readable}

-- the types of the expressions of a program, one for each statement
pub data OfTypes (sheet : List ℕ) (Γ : Meaning) : List Expr → List Ty → Type 0 where
  no_statement : OfTypes sheet Γ [] []
  statement : {e : Expr} {es : List Expr} {t : Ty} {ts : List Ty} {ns : List Note} → Typed sheet Γ e t ns → OfTypes sheet Γ es ts → OfTypes sheet Γ (e ∷ es) (t ∷ ts)

-- the sheet breaks no rule of reading, over tables of any sizes that are not short, and is one program; in the scope Γ its
-- statements have these types, and these are its findings; and it has no other program, types or findings
pub record Told (sheet : List ℕ) (Γ : Meaning) (ts : List Ty) (found : List Finding) : Type 0 where
  pub program : List Expr
  pub readable : (s : Sizes) → (Short s → ⊥) → Readable s sheet program
  pub types : OfTypes sheet Γ program ts
  pub notes : List Note
  pub typed : AllTyped sheet Γ program notes
  pub findings : Findings (conditions notes) found
  pub only_types : (us : List Ty) → OfTypes sheet Γ program us → us ≡ ts
  pub only_findings : (ns : List Note) (fs : List Finding) → AllTyped sheet Γ program ns → Findings (conditions ns) fs → fs ≡ found

-- one finding, by its place and its kind
abbrev pub at : ℕ → Kind → List Finding
at p k = record { kind = k; place = p } ∷ []

-- in every scope, so with the library too; `par` where no such name is bound, as in the library
abbrev pub Sheets : Type 0
Sheets =
    ((Γ : Meaning) → Told [] Γ [] [])
    × ((Γ : Meaning) → Told (codes "1 + \"a\";") Γ (number ∷ []) (at 4 Clash))
    × ((Γ : Meaning) → Told (codes "(true ? 1 : \"a\") + 2;") Γ (number ∷ []) [])
    × ((Γ : Meaning) → Told (codes "\"5\" < 3;") Γ (boolean ∷ []) (at 6 Clash))
    × ((Γ : Meaning) → Γ (codes "par") ≡ None → Told (codes "par;") Γ (any ∷ []) (at 0 UnknownName))
    × Told (codes "par;") library (any ∷ []) (at 0 UnknownName)

-- the two texts write numbers, and whatever numbers they write, their literals meet
abbrev pub SameNumber : List ℕ → List ℕ → Type 0
SameNumber s t =
    ((c : Decimal) × Numeral s c) × ((d : Decimal) × Numeral t d)
    × ((c d : Decimal) → Numeral s c → Numeral t d → Meet (number_literal c) (number_literal d))

-- the same, and their literals do not meet
abbrev pub OtherNumber : List ℕ → List ℕ → Type 0
OtherNumber s t =
    ((c : Decimal) × Numeral s c) × ((d : Decimal) × Numeral t d)
    × ((c d : Decimal) → Numeral s c → Numeral t d → Meet (number_literal c) (number_literal d) → ⊥)

abbrev pub Numbers : Type 0
Numbers = OtherNumber (codes "5120346.1") (codes "5120346.2") × SameNumber (codes "0.50") (codes "5e-1")

-- the sheets, the types, and the numbers; `ListsMeet` is of List<number> with List<string> and two types of pairs
abbrev pub SheetsToTry : Type 0
SheetsToTry = Sheets × ListsMeet × Numbers

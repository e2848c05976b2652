-- What holds of typings and findings. Assumes nothing.
use Rattle.std.specs.Prelude.{◌≡◌, ℕ, List, []}
use Rattle.std.specs.List.{AllByRecursion}
use Rattle.types.specs.Types.{Ty}
use Rattle.building.specs.Forms.{InForm}
use Rattle.registers.specs.Meaning.{Meaning, Sound}
use Rattle.parser.specs.Syntax.{Expr}
use Rattle.parser.specs.Reading.{Written}
use Rattle.checker.specs.declared.finding.Finding.{Finding}
use Rattle.checker.specs.Conditions.{Condition, AllMet}
use Rattle.checker.specs.Rules.{Note, Typed, AllTyped, types}
use Rattle.checker.specs.Findings.{Findings}

-- an expression has at most one type and one list of notes, and so has a program
abbrev pub OneTyping : Type 0
OneTyping =
    ((sheet : List ℕ) (Γ : Meaning) (e : Expr) (t u : Ty) (ms ns : List Note) → Typed sheet Γ e t ms → Typed sheet Γ e u ns → (t ≡ u) × (ms ≡ ns))
    × ((sheet : List ℕ) (Γ : Meaning) (es : List Expr) (ms ns : List Note) → AllTyped sheet Γ es ms → AllTyped sheet Γ es ns → ms ≡ ns)

-- in a sound scope the program of a sheet has a typing
abbrev pub TypingExists : Type 0
TypingExists = (sheet : List ℕ) (Γ : Meaning) (es : List Expr) → Sound Γ → Written sheet es → (ns : List Note) × AllTyped sheet Γ es ns

-- and the types of its expressions are all in form
abbrev pub TypesInForm : Type 0
TypesInForm = (sheet : List ℕ) (Γ : Meaning) (es : List Expr) (ns : List Note) → Sound Γ → AllTyped sheet Γ es ns → AllByRecursion InForm (types ns)

-- conditions have one list of findings, and it is empty just where each condition is met
abbrev pub FindingsTell : Type 0
FindingsTell =
    ((cs : List Condition) (fs gs : List Finding) → Findings cs fs → Findings cs gs → fs ≡ gs)
    × ((cs : List Condition) (fs : List Finding) → Findings cs fs → fs ≡ [] → AllMet cs)
    × ((cs : List Condition) (fs : List Finding) → Findings cs fs → AllMet cs → fs ≡ [])

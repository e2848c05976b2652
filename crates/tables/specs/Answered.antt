-- What comes of a check of a sheet, with the library as the first register. Assumes nothing.
use Rattle.std.specs.Prelude.{ℕ, ◌≤◌, List, length}
use Rattle.types.specs.declared.entries.TypeEntry.{TypeEntry}
use Rattle.registers.specs.Library.{library}
use Rattle.registers.specs.Meaning.{Meaning}
use Rattle.parser.specs.Syntax.{Expr}
use Rattle.parser.specs.Reading.{Sizes, least}
use Rattle.checker.specs.declared.finding.Finding.{Finding}
use Rattle.checker.specs.Rules.{Note}
use Rattle.checker.specs.Findings.{Judged}
use Rattle.checker.specs.Runs.{AnswersTo, Left}
use Rattle.tables.specs.declared.Outcome.{Outcome}

-- over tables of some sizes, the answer is the lawful one, and the findings list and the types are those that it leaves
pub record AnsweredOver (s : Sizes) (sheet : List ℕ) (o : Outcome) (listed : List Finding) (es : List TypeEntry) : Type 0 where
  pub lawful : AnswersTo s library sheet o.answer
  pub left : Left s library sheet listed es o.answer o.checked

-- the same over tables that are just long enough
abbrev pub Answered : List ℕ → Outcome → List Finding → List TypeEntry → Type 0
Answered = AnsweredOver least

-- n slots hold the findings of every program that is checked
abbrev pub HoldsAll : ℕ → Type 0
HoldsAll n = (sheet : List ℕ) (Γ : Meaning) (ss : List Expr) (notes : List Note) (found : List Finding) → Judged sheet Γ ss notes found → length found ≤ n

-- What comes of reading and checking a sheet. Assumes nothing.
use Rattle.std.specs.Prelude.{ℕ, List, Ok, Err, Result}
use Rattle.lexer.specs.declared.refusal.Refusal.{Refusal}
use Rattle.types.specs.declared.entries.TypeEntry.{TypeEntry}
use Rattle.registers.specs.Meaning.{Meaning}
use Rattle.parser.specs.Syntax.{Expr}
use Rattle.parser.specs.Reading.{Sizes}
use Rattle.checker.specs.declared.calls.Answer.{Answer}
use Rattle.checker.specs.declared.calls.Answer.TheVariants.{ReadRefused, CheckRefused, Checked as Counted}
use Rattle.checker.specs.declared.finding.Finding.{Finding}
use Rattle.checker.specs.declared.run.Refused.{Refused}
use Rattle.checker.specs.declared.run.Refused.TheVariants.{Read, Check}
use Rattle.checker.specs.declared.stage.Checked.{Checked}
use Rattle.checker.specs.Findings.{AllBlank}
use Rattle.checker.specs.Checks.{CheckedAs}
use Rattle.checker.specs.Runs.{AnswersTo, Readable}

-- the refusal, whichever step it came from
abbrev pub refusal_in : Refused → Refusal
refusal_in (Read e) = e
refusal_in (Check e) = e

-- a refusal, as a run answers it
abbrev pub refusing : Refused → Answer
refusing (Read e) = ReadRefused e
refusing (Check e) = CheckRefused e

-- The sheet was checked: it is a program, whose findings and types are left in the list and the table. Or it was refused, as
-- a run would answer, and the list is blank.
abbrev pub ReadsAndChecks : Sizes → Meaning → List ℕ → Result Checked Refused → List Finding → List TypeEntry → Type 0
ReadsAndChecks s Γ sheet (Ok c) listed es = (ss : List Expr) × Readable s sheet ss × CheckedAs sheet Γ ss c listed es
ReadsAndChecks s Γ sheet (Err e) listed es = AnswersTo s Γ sheet (refusing e) × AllBlank listed

-- what a run answers of either
abbrev pub saying : Result Checked Refused → Answer
saying (Ok c) = Counted c.count c.expressions
saying (Err e) = refusing e

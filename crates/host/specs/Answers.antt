-- What the host is told. Assumes nothing.
use Rattle.std.specs.Prelude.{◌≡◌, ℕ, ◌^◌, ◌<◌, ◌≤◌, List, ◌++◌, length, take}
use Rattle.std.specs.List.{AllByRecursion}
use Rattle.lexer.specs.Faults.{FirstFault}
use Rattle.lexer.specs.Refusals.{number_of}
use Rattle.lexer.specs.declared.refusal.Refusal.{Refusal}
use Rattle.registers.specs.Library.{library}
use Rattle.parser.specs.Syntax.{Expr}
use Rattle.parser.specs.Reading.{least, Fault}
use Rattle.checker.specs.declared.finding.Finding.{Finding}
use Rattle.checker.specs.declared.run.Refused.{Refused}
use Rattle.checker.specs.Rules.{Note, types}
use Rattle.checker.specs.Findings.{Judged}
use Rattle.checker.specs.Runs.{Readable, AnswersTo}
use Rattle.checker.specs.Outcomes.{refusal_in, refusing}
use Rattle.host.specs.Layout.{word, rows, replaced, fitting}

-- the program ss has these findings by the library, and so many expressions; four bytes hold each count and the place of each
-- finding
pub record Found (sheet : List ℕ) (ss : List Expr) (found : List Finding) (expressions : ℕ) : Type 0 where
  pub notes : List Note
  pub judged : Judged sheet library ss notes found
  pub numbered : expressions ≡ length (types notes)
  pub few_found : length found < 2 ^ 32
  pub few_expressions : expressions < 2 ^ 32
  pub near : AllByRecursion (λ f. f.place < 2 ^ 32) found

-- `out` as it was, as it is after a call that reads, and the answer, over tables that are just long enough; four bytes hold the
-- place of a refusal
pub data ReadAnswers (sheet out : List ℕ) : List ℕ → ℕ → Type 0 where
  no_room_to_read : length out < 8 → ReadAnswers sheet out out 1
  is_program : 8 ≤ length out → (ss : List Expr) → Readable least sheet ss → ReadAnswers sheet out out 0
  not_read : {e : Refusal} → 8 ≤ length out → FirstFault (Fault least sheet) e → e.place < 2 ^ 32 → ReadAnswers sheet out (replaced out 0 (word e.place)) (number_of e.reason)

-- the same of a call that reads and checks: the count of the findings, the count of the expressions, and the first findings,
-- as many as have room; or the refusal that a run answers
pub data CheckAnswers (sheet out : List ℕ) : List ℕ → ℕ → Type 0 where
  no_room_to_check : length out < 8 → CheckAnswers sheet out out 1
  is_checked : 8 ≤ length out → (ss : List Expr) (found : List Finding) (expressions : ℕ) → Readable least sheet ss → Found sheet ss found expressions →
      CheckAnswers sheet out (replaced out 0 (word (length found) ++ (word expressions ++ rows (take (fitting (length found) out) found)))) 0
  is_refused : 8 ≤ length out → (r : Refused) → AnswersTo least library sheet (refusing r) → (refusal_in r).place < 2 ^ 32 →
      CheckAnswers sheet out (replaced out 0 (word (refusal_in r).place)) (number_of (refusal_in r).reason)

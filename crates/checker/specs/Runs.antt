-- The law over whole runs: what each call answers. Assumes nothing.
use Rattle.std.specs.Prelude.{◌≡◌, ℕ, ◌+◌, ◌<◌, ◌≤◌, min, List, length, Some, None, Option, slice_index_or}
use Rattle.lexer.specs.Faults.{FirstFault}
use Rattle.lexer.specs.declared.reasons.Reason.{Reason}
use Rattle.lexer.specs.declared.reasons.Reason.TheVariants.{HeavySheet}
use Rattle.lexer.specs.declared.refusal.Refusal.{Refusal}
use Rattle.types.specs.declared.entries.TypeEntry.{TypeEntry}
use Rattle.registers.specs.Meaning.{Meaning}
use Rattle.parser.specs.Syntax.{Expr}
use Rattle.parser.specs.Reading.{Sizes, Fault, Written}
use Rattle.checker.specs.declared.calls.Call.{Call}
use Rattle.checker.specs.declared.calls.Call.TheVariants.{Check}
use Rattle.checker.specs.declared.calls.Answer.{Answer}
use Rattle.checker.specs.declared.calls.Answer.TheVariants.{Blank, ReadRefused, CheckRefused, Checked as Counted}
use Rattle.checker.specs.declared.finding.Finding.{Finding}
use Rattle.checker.specs.declared.stage.Checked.{Checked}
use Rattle.checker.specs.Rules.{Note, AllTyped, types}
use Rattle.checker.specs.Findings.{AllBlank, weigh, Judged}
use Rattle.checker.specs.Checks.{CheckedAs}

-- the sheet breaks no rule of reading, and is the program ss and no other
pub record Readable (s : Sizes) (sheet : List ℕ) (ss : List Expr) : Type 0 where
  pub faultless : (r : Reason) (p : ℕ) → Fault s sheet r p → ⊥
  pub written : Written sheet ss
  pub only : (other : List Expr) → Written sheet other → other ≡ ss

-- the program ss in the scope Γ has so many findings and so many expressions
pub record Law (sheet : List ℕ) (Γ : Meaning) (ss : List Expr) (count expressions : ℕ) : Type 0 where
  pub notes : List Note
  pub found : List Finding
  pub judged : Judged sheet Γ ss notes found
  pub counted : count ≡ length found
  pub numbered : expressions ≡ length (types notes)

-- what a check of a sheet answers, by the tables' sizes and the scope
pub data AnswersTo (s : Sizes) (Γ : Meaning) (sheet : List ℕ) : Answer → Type 0 where
  read_refused : {e : Refusal} → FirstFault (Fault s sheet) e → AnswersTo s Γ sheet (ReadRefused e)
  too_heavy : (ss : List Expr) → Readable s sheet ss → ((ns : List Note) → AllTyped sheet Γ ss ns → 8192 < weigh (types ns)) →
      AnswersTo s Γ sheet (CheckRefused (record { reason = HeavySheet; place = 0 }))
  checked : (ss : List Expr) {count expressions : ℕ} → Readable s sheet ss → Law sheet Γ ss count expressions → AnswersTo s Γ sheet (Counted count expressions)

-- the same of a call, by the meanings of the two registers; the second one is asked for what a sheet imports, and no sheet
-- imports anything yet
abbrev pub Answers : Sizes → Meaning → Meaning → Call → Answer → Type 0
Answers s Γ Δ (Check sheet) a = AnswersTo s Γ sheet.now a

-- the sheet that a call is about
abbrev pub sheet_of : Call → List ℕ
sheet_of (Check sheet) = sheet.now

-- What the last call left, by its answer: where its sheet was checked, the findings list and the type table are those of its
-- program; where it was refused, the list is blank.
pub data Left (s : Sizes) (Γ : Meaning) (sheet : List ℕ) (listed : List Finding) (es : List TypeEntry) : Answer → Option Checked → Type 0 where
  unread_left : {e : Refusal} → AllBlank listed → Left s Γ sheet listed es (ReadRefused e) None
  unchecked_left : {e : Refusal} → AllBlank listed → Left s Γ sheet listed es (CheckRefused e) None
  checked_left : {c : Checked} (ss : List Expr) → Readable s sheet ss → CheckedAs sheet Γ ss c listed es → Left s Γ sheet listed es (Counted c.count c.expressions) (Some c)

-- The first n calls answer lawfully; the places after theirs stay as they were; and what is left is the last one's, or, where
-- no call was made, the findings list as it was given.
pub record Lawful (s : Sizes) (Γ Δ : Meaning) (calls : List Call) (said told : List Answer) (n : ℕ) (given listed : List Finding) (es : List TypeEntry) (last : Option Checked) : Type 0 where
  pub law : (i : ℕ) (d : Call) → i < n → Answers s Γ Δ (slice_index_or calls i d) (slice_index_or told i Blank)
  pub rest : (i : ℕ) → n ≤ i → slice_index_or told i Blank ≡ slice_index_or said i Blank
  pub left : (i : ℕ) (d : Call) → i + 1 ≡ n → Left s Γ (sheet_of (slice_index_or calls i d)) listed es (slice_index_or told i Blank) last
  pub none : n ≡ 0 → (last ≡ None) × (listed ≡ given)

-- every call for which there is a place does
abbrev pub RunsLawfully : Sizes → Meaning → Meaning → List Call → List Answer → List Answer → List Finding → List Finding → List TypeEntry → Option Checked → Type 0
RunsLawfully s Γ Δ calls said told given listed es last = Lawful s Γ Δ calls said told (min (length calls) (length said)) given listed es last

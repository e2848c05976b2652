-- What is told of a sheet, from what reading and checking answer. Assumes nothing.
use Rattle.std.proofs.Common.{◌≡◌, ℕ, ◌-◌, ◌/◌, ◌<◌, ◌≤◌, min, List, ◌++◌, length, take, sym, ap, ◌∙◌, subst, arith}
use Rattle.std.proofs.lemmas.List.{ext_get_or, get_or-take, length-take-le}
use Rattle.lexer.specs.Faults.{FirstFault}
use Rattle.lexer.specs.Refusals.{number_of}
use Rattle.lexer.specs.declared.refusal.Refusal.{Refusal}
use Rattle.types.specs.declared.entries.TypeEntry.{TypeEntry}
use Rattle.registers.specs.Library.{library}
use Rattle.parser.specs.Syntax.{Expr}
use Rattle.parser.specs.Reading.{Sizes, least, Fault}
use Rattle.checker.specs.declared.finding.Finding.{Finding}
use Rattle.checker.specs.declared.stage.Checked.{Checked}
use Rattle.checker.specs.Findings.{blank, FirstOf}
use Rattle.checker.specs.declared.run.Refused.{Refused}
use Rattle.checker.specs.Checks.{CheckedAs}
use Rattle.checker.specs.Runs.{Readable, AnswersTo}
use Rattle.checker.specs.Outcomes.{refusal_in, refusing}
use Rattle.checker.proofs.Logging.{few_found as few}
use Rattle.checker.proofs.Notes.{few_by_load}
use Rattle.host.specs.Layout.{word, rows, replaced, fitting}
use Rattle.host.specs.Answers.{Found, ReadAnswers, is_program, not_read, CheckAnswers, is_checked, is_refused}
use Rattle.host.proofs.Places.{findings_near, first_near, refusal_near}

pub full : {a b c d : ℕ} → a ≡ 4096 → b ≡ 4096 → c ≡ 4096 → d ≡ 8192 → ◌≡◌ {A = Sizes} (record { of_tree = a; of_operators = b; of_frames = c; of_types = d }) least
full e f g h = cc

-- what the program of a checked sheet has
found_in : {s : Sizes} {sheet : List ℕ} {ss : List Expr} {c : Checked} {listed : List Finding} {es : List TypeEntry} → Readable s sheet ss → (d : CheckedAs sheet library ss c listed es) → Found sheet ss d.found c.expressions
found_in r d = record {
  notes = d.notes;
  judged = d.judged;
  numbered = d.recorded.expressions;
  few_found = omega (arith, few_by_load d.judged.typed, d.judged.load, few d.judged.findings);
  few_expressions = omega (arith, few_by_load d.judged.typed, d.judged.load, d.recorded.expressions);
  near = findings_near r d.judged.typed d.judged.findings;
}

-- the first n of a list that has the first of another are the first n of that one
front : (n : ℕ) (xs ys : List Finding) → FirstOf blank xs ys → n ≤ length xs → n ≤ length ys → take n xs ≡ take n ys
front n xs ys h p q =
    let a = length-take-le n xs p in
    let b = length-take-le n ys q in
    ext_get_or blank (take n xs) (take n ys) (a ∙ sym b)
    (λ i l. let i-low : i < n = omega arith in get_or-take n xs i blank i-low ∙ h i (omega arith) ∙ sym (get_or-take n ys i blank i-low))

module _ (sheet out : List ℕ) {s : Sizes} (full : s ≡ least) (room : 8 ≤ length out) (after : List ℕ) (number : ℕ) where
  pub tell_program : (ss : List Expr) → Readable s sheet ss → ReadAnswers sheet out out 0
  tell_program ss r = is_program room ss (subst (λ z. Readable z sheet ss) full r)

  pub tell_unread : (e : Refusal) → FirstFault (Fault s sheet) e → after ≡ replaced out 0 (word e.place) → number ≡ number_of e.reason → ReadAnswers sheet out after number
  tell_unread e f p q =
      subst (λ a. ReadAnswers sheet out a number) (sym p) (subst (ReadAnswers sheet out (replaced out 0 (word e.place))) (sym q) (not_read room (subst (λ z. FirstFault (Fault z sheet) e) full f) (first_near f)))

  -- a sheet that could not be read, or could not be checked
  pub tell_not_checked : (r : Refused) (e : Refusal) → AnswersTo s library sheet (refusing r) → e ≡ refusal_in r → after ≡ replaced out 0 (word e.place) → number ≡ number_of e.reason → CheckAnswers sheet out after number
  tell_not_checked r e a is p q =
      subst (λ x. CheckAnswers sheet out x number) (sym (p ∙ ap (λ x. replaced out 0 (word x.place)) is))
      (subst (CheckAnswers sheet out (replaced out 0 (word (refusal_in r).place))) (sym (q ∙ ap (λ x. number_of x.reason) is)) (is_refused room r (subst (λ z. AnswersTo z library sheet (refusing r)) full a) (refusal_near r a)))

  pub tell_checked : (c : Checked) (listed : List Finding) (es : List TypeEntry) → length listed ≡ 4096 → (ss : List Expr) × Readable s sheet ss × CheckedAs sheet library ss c listed es
      → after ≡ replaced out 0 (word c.count ++ (word c.expressions ++ rows (take (min (min c.count (length listed)) ((length out - 8) / 8)) listed))) → number ≡ 0 → CheckAnswers sheet out after number
  tell_checked c listed es long k p q =
      let d : CheckedAs sheet library k.0 c listed es = k.2 in
      let found = d.found in
      let n = fitting (length found) out in
      let few : n ≤ length found = omega arith in
      let fit : n ≤ length listed = omega arith in
      let written : after ≡ replaced out 0 (word (length found) ++ (word c.expressions ++ rows (take n found))) =
      p
      ∙ ap (λ m. replaced out 0 (word c.count ++ (word c.expressions ++ rows (take (min (min c.count m) ((length out - 8) / 8)) listed)))) long
      ∙ ap (λ m. replaced out 0 (word m ++ (word c.expressions ++ rows (take (fitting m out) listed)))) d.recorded.count
      ∙ ap (λ l. replaced out 0 (word (length found) ++ (word c.expressions ++ rows l))) (front n listed found d.recorded.list fit few) in
      subst (λ a. CheckAnswers sheet out a number) (sym written)
      (subst (CheckAnswers sheet out (replaced out 0 (word (length found) ++ (word c.expressions ++ rows (take n found))))) (sym q)
      (is_checked room k.0 found c.expressions (subst (λ z. Readable z sheet k.0) full k.1) (found_in k.1 d)))

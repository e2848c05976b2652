-- One call, and one call more. Assumes nothing.
use Rattle.std.proofs.Common.{◌≡◌, ℕ, ◌+◌, ◌<◌, ◌≤◌, ◌≢◌, List, length, get_or, set, take, Ok, Err, Option, Result, sym, ap, ◌∙◌, subst, ⊎_elim, arith}
use Rattle.std.specs.Result.{result_ok, MatchResult, IsErrAnd}
use Rattle.std.proofs.lemmas.Result.{err_from_is_err_and}
use Rattle.std.proofs.lemmas.List.{get_or-take, get_or_default, get_or-set_same, get_or-set_other}
use Rattle.std.proofs.lemmas.Bool.{cases_lt}
use Rattle.lexer.specs.declared.refusal.Refusal.{Refusal}
use Rattle.types.specs.declared.entries.TypeEntry.{TypeEntry}
use Rattle.registers.specs.Meaning.{Meaning}
use Rattle.parser.specs.declared.reading.Read.{Read}
use Rattle.parser.specs.declared.tree.TreeEntry.{TreeEntry}
use Rattle.parser.specs.Syntax.{Expr}
use Rattle.parser.specs.Lending.{Lent, sizes_of}
use Rattle.parser.specs.declared.tables.Tables.{Tables}
use Rattle.parser.specs.Reading as reading
use Rattle.parser.specs.Reading.{Sizes, Short, Reads}
use Rattle.checker.specs.declared.calls.Call.{Call}
use Rattle.checker.specs.declared.calls.Call.TheVariants.{Check as CheckCall}
use Rattle.checker.specs.declared.calls.Answer.{Answer}
use Rattle.checker.specs.declared.calls.Answer.TheVariants.{Blank, CheckRefused}
use Rattle.checker.specs.declared.finding.Finding.{Finding}
use Rattle.checker.specs.declared.run.Refused.{Refused}
use Rattle.checker.specs.declared.run.Refused.TheVariants.{Read as Unread, Check}
use Rattle.checker.specs.declared.stage.Checked.{Checked}
use Rattle.checker.specs.Checks as checks
use Rattle.checker.specs.Checks.{CheckedAs, Refuses, Checks}
use Rattle.checker.specs.Runs.{Readable, Law, AnswersTo, read_refused, too_heavy, checked, Answers, sheet_of, Left, unread_left, unchecked_left, checked_left, Lawful}
use Rattle.checker.specs.Outcomes.{ReadsAndChecks, refusing, saying}
use Rattle.checker.proofs.Orderly.{last_earlier}

-- tables that are given back have their sizes
pub same_sizes : {n m : ℕ} {t u : Tables} → n ≡ m → Lent t u → sizes_of n u ≡ sizes_of m t
same_sizes {n} {m} {t} {u} e l =
    ap (λ x. record { of_tree = x; of_operators = length u.operators.now; of_frames = length u.frames.now; of_types = length u.types.now }) e
    ∙ (ap (λ x. record { of_tree = m; of_operators = x; of_frames = length u.frames.now; of_types = length u.types.now }) l.operators.1
    ∙ (ap (λ x. record { of_tree = m; of_operators = length t.operators.now; of_frames = x; of_types = length u.types.now }) l.frames.1
    ∙ ap (λ x. record { of_tree = m; of_operators = length t.operators.now; of_frames = length t.frames.now; of_types = x }) l.types.1))

-- tables that are given back, and then again
pub lent_twice : {t u v : Tables} → Lent t u → Lent u v → Lent t v
lent_twice a b = record {
  operators = (b.operators.0 ∙ a.operators.0, b.operators.1 ∙ a.operators.1);
  frames = (b.frames.0 ∙ a.frames.0, b.frames.1 ∙ a.frames.1);
  types = (b.types.0 ∙ a.types.0, b.types.1 ∙ a.types.1);
}

pub performs_as : {s s' : Sizes} (Γ : Meaning) (sheet : List ℕ) (r : Result Checked Refused) (listed : List Finding) (es : List TypeEntry) → s ≡ s' → ReadsAndChecks s Γ sheet r listed es → ReadsAndChecks s' Γ sheet r listed es
performs_as Γ sheet r listed es e p = subst (λ s. ReadsAndChecks s Γ sheet r listed es) e p

module _ {s : Sizes} {sheet : List ℕ} {tree : List TreeEntry} {read : Read} (h : Reads s sheet tree (Ok read)) where
  pub readable : Readable s sheet h.1.0
  readable = record { faultless = h.0; written = h.1.1.written; only = h.1.1.only }

  -- a check of what was read is refused for its load alone
  refused_heavy : {Γ : Meaning} {e : Refusal} (s' : Sizes) → s' ≡ s → Refuses s' sheet tree read Γ e → AnswersTo s Γ sheet (CheckRefused e)
  refused_heavy s' same (checks.short_table x) = absurd (h.0 _ _ (reading.short_table (subst Short same x)))
  refused_heavy s' same (checks.damaged x y) = absurd (y (h.1.1.proper, last_earlier _ h.1.1.listed))
  refused_heavy s' same (checks.too_heavy x y z) = too_heavy h.1.0 readable (λ ns typed. z h.1.0 ns h.1.1 typed)

  -- what the check of what was read comes to, its refusal said as a call's
  pub performs_check : (Γ : Meaning) (s' : Sizes) (listed : List Finding) (es : List TypeEntry) (Gives : Refusal × Read → Refused → Type 0) (r : Result Checked (Refusal × Read)) (m : Result Checked Refused)
      → s' ≡ s → Checks s' sheet tree read Γ r listed es → MatchResult r (λ c. m ≡ Ok c) (λ e. IsErrAnd m (Gives e)) → ((e : Refusal × Read) (d : Refused) → Gives e d → d ≡ Check e.0) → ReadsAndChecks s Γ sheet m listed es
  performs_check Γ s' listed es Gives (Ok c) m same k t says = subst (λ x. ReadsAndChecks s Γ sheet x listed es) (sym t) (h.1.0, readable, k.2 h.1.0 h.1.1)
  performs_check Γ s' listed es Gives (Err e) m same k t says =
      let d = err_from_is_err_and m t in subst (λ x. ReadsAndChecks s Γ sheet x listed es) (sym (d.1 ∙ ap Err (says e d.0 d.2))) (refused_heavy s' same k.0, k.2)

-- what a reading came to, its refusal said as a call's
pub was_read : (s : Sizes) (sheet : List ℕ) (tree : List TreeEntry) (read : Read) (Gives : Refusal → Refused → Type 0) (r : Result Read Refusal) (m : Result Read Refused)
    → Reads s sheet tree r → MatchResult r (λ x. m ≡ Ok x) (λ e. IsErrAnd m (Gives e)) → m ≡ Ok read → Reads s sheet tree (Ok read)
was_read s sheet tree read Gives (Ok x) m h t is = subst (λ y. Reads s sheet tree (Ok y)) (cc) h
was_read s sheet tree read Gives (Err e) m h t is = absurd (subst (λ x. IsErrAnd x (Gives e)) is t)

pub not_read : (s : Sizes) (sheet : List ℕ) (tree : List TreeEntry) (Γ : Meaning) (Gives : Refusal → Refused → Type 0) (r : Result Read Refusal) (m : Result Read Refused) (d : Refused)
    → Reads s sheet tree r → MatchResult r (λ x. m ≡ Ok x) (λ e. IsErrAnd m (Gives e)) → ((e : Refusal) (d : Refused) → Gives e d → d ≡ Unread e) → m ≡ Err d → AnswersTo s Γ sheet (refusing d)
not_read s sheet tree Γ Gives (Ok x) m d h t says is = absurd (cc)
not_read s sheet tree Γ Gives (Err e) m d h t says is =
    let k : IsErrAnd {T = Read} (Err d) (Gives e) = subst (λ x. IsErrAnd x (Gives e)) is t in subst (λ y. AnswersTo s Γ sheet (refusing y)) (sym (says e d k)) (read_refused h)

law_of : {sheet : List ℕ} {Γ : Meaning} {ss : List Expr} {c : Checked} {listed : List Finding} {es : List TypeEntry} → CheckedAs sheet Γ ss c listed es → Law sheet Γ ss c.count c.expressions
law_of k = record { notes = k.notes; found = k.found; judged = k.judged; counted = k.recorded.count; numbered = k.recorded.expressions }

answers : (s : Sizes) (Γ : Meaning) (sheet : List ℕ) (r : Result Checked Refused) (listed : List Finding) (es : List TypeEntry) → ReadsAndChecks s Γ sheet r listed es → AnswersTo s Γ sheet (saying r)
answers s Γ sheet (Ok c) listed es p = checked p.0 p.1 (law_of p.2)
answers s Γ sheet (Err a) listed es p = p.0

answers_call : (s : Sizes) (Γ Δ : Meaning) (c : Call) (r : Result Checked Refused) (listed : List Finding) (es : List TypeEntry) → ReadsAndChecks s Γ (sheet_of c) r listed es → Answers s Γ Δ c (saying r)
answers_call s Γ Δ (CheckCall sheet) r listed es p = answers s Γ sheet.now r listed es p

-- what is left of a call
leaves : (s : Sizes) (Γ : Meaning) (sheet : List ℕ) (r : Result Checked Refused) (listed : List Finding) (es : List TypeEntry) → ReadsAndChecks s Γ sheet r listed es → Left s Γ sheet listed es (saying r) (result_ok r)
leaves s Γ sheet (Ok c) listed es p = checked_left p.0 p.1 p.2
leaves s Γ sheet (Err (Unread e)) listed es p = unread_left p.1
leaves s Γ sheet (Err (Check e)) listed es p = unchecked_left p.1

pub lawful_more : (s : Sizes) (Γ Δ : Meaning) (calls : List Call) (said told : List Answer) (n m : ℕ) (given : List Finding) {listed : List Finding} {es : List TypeEntry} {last : Option Checked} (d : Call) (r : Result Checked Refused) (a : Answer) (listed' : List Finding) (es' : List TypeEntry) (last' : Option Checked)
    → Lawful s Γ Δ calls said told n given listed es last → n < m → m ≤ length calls → m ≤ length told → ReadsAndChecks s Γ (sheet_of (get_or (take m calls) n d)) r listed' es' → a ≡ saying r → last' ≡ result_ok r
    → Lawful s Γ Δ calls said (set told n a) (n + 1) given listed' es' last'
lawful_more s Γ Δ calls said told n m given d r a listed' es' last' h here one within q is ok = record {
  law = λ i e l. ⊎_elim
      (λ q. let ne : i ≢ n = omega arith in subst (Answers s Γ Δ (get_or calls i e)) (sym (get_or-set_other told n i a Blank ne)) (h.law i e q))
      (λ q. at_last i e (omega arith) (λ c x. Answers s Γ Δ c x) (answers_call s Γ Δ (get_or calls n d) r listed' es' p))
      (cases_lt i n);
  rest = λ i l. let ne : i ≢ n = omega arith in get_or-set_other told n i a Blank ne ∙ h.rest i (omega arith);
  left = λ i e q. at_last i e (omega arith) (λ c x. Left s Γ (sheet_of c) listed' es' x last') (subst (Left s Γ (sheet_of (get_or calls n d)) listed' es' (saying r)) (sym ok) (leaves s Γ (sheet_of (get_or calls n d)) r listed' es' p));
  none = λ z. absurd (omega arith);
}
  where
    -- what holds of the call and of what is said of it holds of those at its index
    at_last : (i : ℕ) (e : Call) → n ≡ i → (P : Call → Answer → Type 0) → P (get_or calls n d) (saying r) → P (get_or calls i e) (get_or (set told n a) i Blank)
    at_last i e at P x =
        subst (λ k. P (get_or calls k e) (get_or (set told n a) k Blank)) at
        (subst (P (get_or calls n e)) (sym (get_or-set_same told n a Blank (omega arith) ∙ is)) (subst (λ c. P c (saying r)) (sym (get_or_default calls n e d (omega arith))) x))

    p : ReadsAndChecks s Γ (sheet_of (get_or calls n d)) r listed' es'
    p = subst (λ x. ReadsAndChecks s Γ (sheet_of x) r listed' es') (get_or-take m calls n d here) q

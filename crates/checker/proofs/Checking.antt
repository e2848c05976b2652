-- From a walk to what a check answers. Assumes nothing.
use Rattle.std.proofs.Common.{◌≡◌, ℕ, ◌≤◌, true, false, List, length, Ok, Err, Result, sym, refl, ap, ◌∙◌, subst, ⊎_elim}
use Rattle.std.specs.Result.{is_err, MatchResult, IsErrAnd}
use Rattle.std.proofs.lemmas.Result.{err_from_is_err_and}
use Rattle.std.proofs.lemmas.Bool.{false≢true, cases_lt}
use Rattle.types.specs.declared.entries.TypeEntry.{TypeEntry}
use Rattle.registers.specs.Meaning.{Meaning, Sound}
use Rattle.lexer.specs.declared.reasons.Reason.TheVariants.{HeavySheet}
use Rattle.lexer.specs.declared.refusal.Refusal.{Refusal}
use Rattle.parser.specs.declared.reading.Read.{Read}
use Rattle.parser.specs.declared.tree.TreeEntry.{TreeEntry}
use Rattle.parser.specs.Syntax.{Expr, sizes}
use Rattle.parser.specs.Table.{last_of, Listed}
use Rattle.parser.specs.Reading.{Written, Sizes, Short, short_operators, short_frames, short_types}
use Rattle.checker.specs.declared.finding.Finding.{Finding}
use Rattle.checker.specs.declared.stage.Checked.{Checked}
use Rattle.checker.specs.Conditions.{AllMet}
use Rattle.checker.specs.Rules.{Note, AllTyped, conditions, types}
use Rattle.checker.specs.declared.store.TooHeavy.{TooHeavy}
use Rattle.checker.specs.Findings.{Findings, AllBlank, weigh, Judged}
use Rattle.checker.specs.Checks.{CheckedAs, TreeInOrder, too_heavy, Checks}
use Rattle.checker.specs.Walks.{WalkedAs, WalkedOrHeavy}
use Rattle.checker.proofs.Typings.{one_typing_of_all}
use Rattle.checker.proofs.Typable.{typing_exists_law}
use Rattle.checker.proofs.Unmet.{all_met_if_none, none_if_all_met}

-- tables that are not short are long enough
pub enough : (s : Sizes) → (Short s → ⊥) → (4096 ≤ s.of_operators) × (4096 ≤ s.of_frames) × (8192 ≤ s.of_types)
enough s h = (
  ⊎_elim (λ x. absurd (h (short_operators x))) (λ x. x) (cases_lt s.of_operators 4096),
  ⊎_elim (λ x. absurd (h (short_frames x))) (λ x. x) (cases_lt s.of_frames 4096),
  ⊎_elim (λ x. absurd (h (short_types x))) (λ x. x) (cases_lt s.of_types 8192),
)

-- a typing of light load and its findings are the program's
judged : {sheet : List ℕ} {Γ : Meaning} {ss : List Expr} {ns : List Note} {fs : List Finding} → AllTyped sheet Γ ss ns → weigh (types ns) ≤ 8192 → Findings (conditions ns) fs → Judged sheet Γ ss ns fs
judged {ns = ns} t light f = record {
  typed = t;
  alone = λ ms h. one_typing_of_all h t;
  load = light;
  findings = f;
  derived = λ none. record { notes = ns; typed = t; all_met = all_met_if_none f none };
  clean = λ d. none_if_all_met f (subst (λ ms. AllMet (conditions ms)) (one_typing_of_all d.typed t) d.all_met);
  same_types = λ d. ap types (one_typing_of_all d.typed t);
}

-- what a walk left is what the program is checked as
pub checked_as : (sheet : List ℕ) (Γ : Meaning) (ss : List Expr) (c : Checked) (listed : List Finding) (es : List TypeEntry) → Sound Γ → Written sheet ss
    → ((ns : List Note) → AllTyped sheet Γ ss ns → WalkedAs ns c listed es) → CheckedAs sheet Γ ss c listed es
checked_as sheet Γ ss c listed es sound written walk =
    let t = typing_exists_law sheet Γ ss sound written in
    let w = walk t.0 t.1 in
    record { notes = t.0; found = w.found; judged = judged t.1 w.load w.findings; recorded = w.recorded }

-- what a check of such a table answers, by what its walk over the program came to, and by how a load that is too high is told
module _ (s : Sizes) (sheet : List ℕ) (tree : List TreeEntry) (read : Read) (Γ : Meaning) (r : Result Checked TooHeavy) (m : Result Checked (Refusal × Read)) (listed : List Finding) (es : List TypeEntry)
    (Gives : TooHeavy → Refusal × Read → Type 0) (told : MatchResult r (λ c. m ≡ Ok c) (λ e. IsErrAnd m (Gives e))) (long : Short s → ⊥) (ordered : TreeInOrder (length sheet) tree read)
    (sound : Sound Γ) (walk : (ss : List Expr) (ns : List Note) → Listed tree (last_of read.used) ss → sizes ss ≤ 4096 → AllTyped sheet Γ ss ns → WalkedOrHeavy ns r listed es) where
  pub checks_heavy : is_err r ≡ true → (blanked : List Finding) → AllBlank blanked → ((e : TooHeavy) (d : Refusal × Read) → Gives e d → d ≡ (record { reason = HeavySheet; place = 0 }, read)) → Checks s sheet tree read Γ m blanked es
  checks_heavy heavy blanked blank says = go r m told walk heavy
    where
      go : (r : Result Checked TooHeavy) (m : Result Checked (Refusal × Read)) → MatchResult r (λ c. m ≡ Ok c) (λ e. IsErrAnd m (Gives e))
          → ((ss : List Expr) (ns : List Note) → Listed tree (last_of read.used) ss → sizes ss ≤ 4096 → AllTyped sheet Γ ss ns → WalkedOrHeavy ns r listed es) → is_err r ≡ true → Checks s sheet tree read Γ m blanked es
      go (Ok c) m t w h = absurd (false≢true h)
      go (Err e) m t w h =
          let d = err_from_is_err_and m t in
          subst (λ x. Checks s sheet tree read Γ x blanked es) (sym (d.1 ∙ ap Err (says e d.0 d.2)))
          (too_heavy long ordered (λ ss ns rep typed. w ss ns rep.listed rep.small typed), refl, blank)

  pub checks_walked : is_err r ≡ false → Checks s sheet tree read Γ m listed es
  checks_walked light = go r m told walk light
    where
      go : (r : Result Checked TooHeavy) (m : Result Checked (Refusal × Read)) → MatchResult r (λ c. m ≡ Ok c) (λ e. IsErrAnd m (Gives e))
          → ((ss : List Expr) (ns : List Note) → Listed tree (last_of read.used) ss → sizes ss ≤ 4096 → AllTyped sheet Γ ss ns → WalkedOrHeavy ns r listed es) → is_err r ≡ false → Checks s sheet tree read Γ m listed es
      go (Err e) m t w h = absurd (false≢true (sym h))
      go (Ok c) m t w h =
          subst (λ x. Checks s sheet tree read Γ x listed es) (sym t)
          (long, ordered, λ ss rep. checked_as sheet Γ ss c listed es sound rep.written (λ ns typed. w ss ns rep.listed rep.small typed))

-- Which fault of a sheet is told. Assumes nothing.
use Rattle.std.proofs.Common.{◌≡◌, ℕ, ◌<◌, ◌≤◌, ◌⊎◌, List, Ok, Err, Result, sym, refl, ap, ◌∙◌, subst, inl, inr, arith, lit≤}
use Rattle.std.specs.Result.{IsErrAnd}
use Rattle.std.proofs.lemmas.Result.{err_from_is_err_and}
use Rattle.lexer.specs.Refusals.{turn}
use Rattle.lexer.specs.Faults.{FirstFault}
use Rattle.lexer.specs.Reading.{finished}
use Rattle.lexer.specs.Scanning.{TokenFault, too_long, not_lexed, line_broken, too_many, Clean}
use Rattle.lexer.specs.declared.reasons.Reason.{Reason}
use Rattle.lexer.specs.declared.reasons.Reason.TheVariants.{ShortTable, NoProgram}
use Rattle.lexer.specs.declared.refusal.Refusal.{Refusal}
use Rattle.lexer.proofs.Unique.{lexes_once}
use Rattle.lexer.proofs.Verdicts.{stopped_turn}
use Rattle.parser.specs.declared.tree.TreeEntry.{TreeEntry}
use Rattle.parser.specs.declared.reading.Read.{Read}
use Rattle.parser.specs.Syntax.{Expr}
use Rattle.parser.specs.Grammar.{Program}
use Rattle.parser.specs.Reading.{tokens, Written, NotProgram, Sizes, Short, Fault, short_table, in_tokens, not_program, Reads}
use Rattle.parser.specs.Parsing.{Builds, Parses, token_refused, tokens_clean}

-- in which turns the tokens are looked at
token_turn : {sheet : List ℕ} {r : Reason} {p : ℕ} → TokenFault sheet r p → (1 < turn r) × (turn r < 7)
token_turn (too_long h) = (lit≤ tt, lit≤ tt)
token_turn (not_lexed l) = let e = stopped_turn l in (omega arith, omega arith)
token_turn (line_broken l b) = (lit≤ tt, lit≤ tt)
token_turn (too_many l m) = (lit≤ tt, lit≤ tt)

-- `?` tells a fault of the tokens
pub token_told : {sheet other : List ℕ} {tree : List TreeEntry} {e : Refusal} (r : Result Read Refusal) → IsErrAnd r (λ y. y ≡ e) → other ≡ sheet → FirstFault (TokenFault other) e → Parses sheet tree r
token_told {sheet} {tree = tree} {e} r by same f =
    let p = err_from_is_err_and r by in
    subst (Parses sheet tree) (sym (p.1 ∙ ap Err p.2)) (token_refused (subst (λ l. FirstFault (TokenFault l) e) same f))

module _ (s : Sizes) (sheet : List ℕ) where
  pub short_first : Short s → FirstFault (Fault s sheet) (record { reason = ShortTable; place = 0 })
  short_first h = record { is_fault = short_table h; no_earlier = earlier; no_lower = λ r p f e. inr (omega arith) }
    where
      earlier : (r : Reason) (p : ℕ) → Fault s sheet r p → 1 ≤ turn r
      earlier _ _ (short_table h) = lit≤ tt
      earlier _ _ (in_tokens f) = omega (arith, token_turn f)
      earlier _ _ (not_program f) = lit≤ tt

  module _ (long : Short s → ⊥) where
    token_first : (e : Refusal) → FirstFault (TokenFault sheet) e → FirstFault (Fault s sheet) e
    token_first e h = record { is_fault = in_tokens h.is_fault; no_earlier = earlier; no_lower = lower }
      where
        earlier : (r : Reason) (p : ℕ) → Fault s sheet r p → turn e.reason ≤ turn r
        earlier _ _ (short_table f) = absurd (long f)
        earlier r p (in_tokens f) = h.no_earlier r p f
        earlier _ _ (not_program f) = omega (arith, token_turn h.is_fault)

        lower : (r : Reason) (p : ℕ) → Fault s sheet r p → turn r ≡ turn e.reason → (r ≡ NoProgram) ⊎ (e.place ≤ p)
        lower _ _ (short_table f) q = absurd (long f)
        lower r p (in_tokens f) q = h.no_lower r p f q
        lower _ _ (not_program f) q = inl refl

    module _ (n : ℕ) (clean : Clean sheet n) where
      program_first : (p : ℕ) → NotProgram sheet p → FirstFault (Fault s sheet) (record { reason = NoProgram; place = p })
      program_first p h = record { is_fault = not_program h; no_earlier = earlier; no_lower = lower }
        where
          earlier : (r : Reason) (p : ℕ) → Fault s sheet r p → 7 ≤ turn r
          earlier _ _ (short_table f) = absurd (long f)
          earlier r p (in_tokens f) = absurd (clean.faultless r p f)
          earlier _ _ (not_program f) = lit≤ tt

          lower : (r : Reason) (q : ℕ) → Fault s sheet r q → turn r ≡ 7 → (r ≡ NoProgram) ⊎ (p ≤ q)
          lower _ _ (short_table f) e = absurd (long f)
          lower r q (in_tokens f) e = absurd (clean.faultless r q f)
          lower _ _ (not_program f) e = inl refl

      pub faultless : {ss : List Expr} → Written sheet ss → (r : Reason) (p : ℕ) → Fault s sheet r p → ⊥
      faultless w _ _ (short_table f) = long f
      faultless w r p (in_tokens f) = clean.faultless r p f
      faultless {ss} w _ _ (not_program f) = f.none ss (subst (λ ts. Program (tokens sheet ts) ss) (lexes_once sheet 0 _ _ finished finished w.lexes f.lexes).0 w.program)

      built : (tree : List TreeEntry) (r : Result Read Refusal) → Builds sheet tree r → Reads s sheet tree r
      built tree (Ok read) h = (faultless h.1.written, h)
      built tree (Err e) h = told e.reason e.place h.0 h.1
        where
          told : (r : Reason) (p : ℕ) → r ≡ NoProgram → NotProgram sheet p → FirstFault (Fault s sheet) (record { reason = r; place = p })
          told r p is f = subst (λ q. FirstFault (Fault s sheet) (record { reason = q; place = p })) (sym is) (program_first p f)

    pub answered : (tree : List TreeEntry) (r : Result Read Refusal) → Parses sheet tree r → Reads s sheet tree r
    answered tree _ (token_refused f) = token_first _ f
    answered tree r (tokens_clean {n} c b) = built n c tree r b

-- what `read` needs, for each way in which it ends
pub ruleset told_first = (short_first, answered)

-- One step of reading. Assumes nothing.
use Rattle.std.proofs.lemmas.Grind.{common_steps}
use Rattle.std.proofs.lemmas.Bool.{false≢true}
use Rattle.std.proofs.Common.{rules, ◌≡◌, ℕ, ◌+◌, ◌-◌, ◌<◌, ◌≤◌, List, length, take, drop, Some, None, Ok, Err, Option, Result, true, sym, refl, subst, arith, length-drop}
use Rattle.std.specs.Option.{ok_or, is_some}
use Rattle.lexer.specs.Gaps.{Gap}
use Rattle.lexer.specs.Sizes.{Small}
use Rattle.lexer.specs.Founds.{FoundAt}
use Rattle.lexer.specs.Reading.{no_token, too_large, Why, Given, Stopped, Finished, Reads}
use Rattle.lexer.specs.declared.reasons.Reason.TheVariants.{NoToken, LargeToken}
use Rattle.lexer.specs.declared.refusal.Refusal.{Refusal}
use Rattle.lexer.specs.declared.tokens.Found.{Found}
use Rattle.lexer.specs.declared.read.Token.{Token}
use Rattle.lexer.proofs.Firsts.{token_some}

-- what follows the gap in what is left
pub past_gap : (sheet : List ℕ) (at g : ℕ) (l : List ℕ) → l ≡ drop at sheet → take (length l - g) (drop g l) ≡ drop (at + g) sheet
past_gap sheet at g l e = grind (arith, common_steps)

-- l and r are what is left of the sheet, before and after the gap
module _ (sheet : List ℕ) (at g : ℕ) (l r : List ℕ) (before : l ≡ drop at sheet) (after : r ≡ drop (at + g) sheet) (gap : Gap l g) (within : g ≤ length l) where
  pub stops : (e : Refusal) → e.place ≡ at + g → Why r e.reason → Stopped sheet at e
  stops e p w = grind arith

  -- a refusal where no token was found, and where a token is too large
  pub no_found : (o : Option Found) (e : Refusal) → FoundAt r o → o ≡ None → (length r ≡ 0 → ⊥) → e.reason ≡ NoToken → e.place ≡ at + g → Stopped sheet at e
  no_found o e f is some w p = stops e p (subst (Why r) (sym w) (no_token (omega (arith, some)) (subst (FoundAt r) is f)))

  pub large_found : (o : Option Found) (t : Found) (e : Refusal) → FoundAt r o → o ≡ Some t → (Small t.kind (take t.len r) → ⊥) → e.reason ≡ LargeToken → e.place ≡ at + g → Stopped sheet at e
  large_found o t e f is large w p = stops e p (subst (Why r) (sym w) (too_large (subst (FoundAt r) is f) large))

-- what a step gave

pub onward : (sheet : List ℕ) (at : ℕ) (t : Token) (next : ℕ) → Given sheet at t next → (at < next) × (next ≤ length sheet)
onward sheet at t next g = search (rules, token_some, length-drop)

-- the same, where the reader's sheet is known to be the sheet
module _ {s sheet : List ℕ} (same : s ≡ sheet) where
  pub given : {at next : ℕ} (t : Token) (o : Option Token) → o ≡ Some t → Reads s at (Ok o) next → Given sheet at t next
  given t o e g = grind arith

  pub given_some : {at next : ℕ} (o : Option Token) → is_some o ≡ true → Reads s at (Ok o) next → (t : Token) × Given sheet at t next
  given_some None e g = absurd (false≢true e)
  given_some (Some t) e g = (t, given t _ refl g)

  pub finished_at : {at : ℕ} (next : ℕ) (o : Option Token) → o ≡ None → Reads s at (Ok o) next → Finished sheet at
  finished_at next o e g = grind arith

  pub stopped_at : {at : ℕ} {e : Refusal} → Stopped s at e → Stopped sheet at e
  stopped_at {at} {e} g = subst (λ l. Stopped l at e) same g

-- the error that stands for none
pub error_of : {T E : Type 0} (o : Option T) {e f : E} → o ≡ None → ◌≡◌ {A = Result T E} (Err f) (ok_or o e) → f ≡ e
error_of o is h = grind arith

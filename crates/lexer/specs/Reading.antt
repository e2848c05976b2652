-- One step of reading, and the tokens of a whole sheet. Assumes nothing.
use Rattle.std.specs.Prelude.{◌≡◌, ℕ, ◌+◌, ◌<◌, ◌≤◌, List, [], ◌∷◌, length, take, drop, Some, None, Ok, Err, Option, Result}
use Rattle.lexer.specs.Gaps.{Gap}
use Rattle.lexer.specs.Tokens.{TokenAt}
use Rattle.lexer.specs.Founds.{HasNoToken}
use Rattle.lexer.specs.Sizes.{Small}
use Rattle.lexer.specs.declared.kinds.Kind.{Kind}
use Rattle.lexer.specs.declared.reasons.Reason.{Reason}
use Rattle.lexer.specs.declared.reasons.Reason.TheVariants.{NoToken, LargeToken}
use Rattle.lexer.specs.declared.refusal.Refusal.{Refusal}
use Rattle.lexer.specs.declared.read.Token.{Token}

-- why what is left is refused
pub data Why (bs : List ℕ) : Reason → Type 0 where
  no_token : 0 < length bs → HasNoToken bs → Why bs NoToken
  too_large : {k : Kind} {n : ℕ} → TokenAt bs k n → (Small k (take n bs) → ⊥) → Why bs LargeToken

-- how reading ends
pub data Ending : Type 0 where
  finished : Ending
  stopped : Reason → ℕ → Ending

-- the tokens of a sheet from a place on, each by its kind, place and length, and how they end
pub data Lexes (sheet : List ℕ) : ℕ → List (Kind × ℕ × ℕ) → Ending → Type 0 where
  done : {at : ℕ} (g : ℕ) → Gap (drop at sheet) g → length sheet ≤ at + g → Lexes sheet at [] finished
  refused : {at : ℕ} (g : ℕ) {f : Reason} → Gap (drop at sheet) g → Why (drop (at + g) sheet) f → Lexes sheet at [] (stopped f (at + g))
  token : {at : ℕ} (g : ℕ) {k : Kind} (n : ℕ) {ts : List (Kind × ℕ × ℕ)} {end : Ending} →
      Gap (drop at sheet) g → TokenAt (drop (at + g) sheet) k n → Small k (take n (drop (at + g) sheet)) → Lexes sheet (at + g + n) ts end →
      Lexes sheet at ((k, at + g, n) ∷ ts) end

-- a token t stands after the gap at a place, and the next place follows it
pub record Given (sheet : List ℕ) (at : ℕ) (t : Token) (next : ℕ) : Type 0 where
  pub gap : ℕ
  pub past : Gap (drop at sheet) gap
  pub place : t.at ≡ at + gap
  pub token : TokenAt (drop (at + gap) sheet) t.kind (length t.text.now)
  pub small : Small t.kind t.text.now
  pub text : t.text.now ≡ take (length t.text.now) (drop (at + gap) sheet)
  pub on : next ≡ at + gap + length t.text.now

pub record Stopped (sheet : List ℕ) (at : ℕ) (e : Refusal) : Type 0 where
  pub gap : ℕ
  pub past : Gap (drop at sheet) gap
  pub place : e.place ≡ at + gap
  pub why : Why (drop (at + gap) sheet) e.reason

pub record Finished (sheet : List ℕ) (at : ℕ) : Type 0 where
  pub gap : ℕ
  pub past : Gap (drop at sheet) gap
  pub all : length sheet ≤ at + gap

-- what a step at a place answers, and where it leaves off
abbrev pub Reads : List ℕ → ℕ → Result (Option Token) Refusal → ℕ → Type 0
Reads sheet at (Ok None) next = Finished sheet at × (next ≡ at)
Reads sheet at (Ok (Some t)) next = Given sheet at t next
Reads sheet at (Err e) next = Stopped sheet at e × (next ≡ at)

-- a sheet has one list of tokens, and ends in one way
abbrev pub OneReading : Type 0
OneReading = (sheet : List ℕ) (at : ℕ) (ts us : List (Kind × ℕ × ℕ)) (e f : Ending) → Lexes sheet at ts e → Lexes sheet at us f → (ts ≡ us) × (e ≡ f)

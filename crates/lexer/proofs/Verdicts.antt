-- Which fault of a sheet's tokens is the first. Assumes nothing.
use Rattle.std.proofs.Common.{◌≡◌, ℕ, ◌<◌, ◌≤◌, ◌⊎◌, List, length, sym, refl, subst, inr, arith, lit≤}
use Rattle.lexer.specs.Refusals.{turn}
use Rattle.lexer.specs.Faults.{FirstFault}
use Rattle.lexer.specs.Reading.{Lexes, refused, token, finished, stopped, no_token, too_large}
use Rattle.lexer.specs.Scanning.{Tok, nth, BrokenLine, TokenFault, too_long, not_lexed, line_broken, too_many, Clean}
use Rattle.lexer.specs.declared.reasons.Reason.{Reason}
use Rattle.lexer.specs.declared.reasons.Reason.TheVariants.{LongSheet, LineFeed, ManyTokens, NoProgram}
use Rattle.lexer.specs.declared.refusal.Refusal.{Refusal}
use Rattle.lexer.proofs.Unique.{lexes_once}

-- in which turn a token is refused
pub stopped_turn : {sheet : List ℕ} {at p : ℕ} {ts : List Tok} {r : Reason} → Lexes sheet at ts (stopped r p) → turn r ≡ 3
stopped_turn (refused g p (no_token h n)) = refl
stopped_turn (refused g p (too_large t l)) = refl
stopped_turn (token g n p t s l) = stopped_turn l

module _ (sheet : List ℕ) where
  pub long_first : 16384 < length sheet → FirstFault (TokenFault sheet) (record { reason = LongSheet; place = 16384 })
  long_first h = record { is_fault = too_long h; no_earlier = λ r p f. grind (arith, stopped_turn); no_lower = λ r p f e. grind (arith, stopped_turn) }

module _ (sheet : List ℕ) (short : length sheet ≤ 16384) where
  pub stopped_first : (ts : List Tok) (e : Refusal) → Lexes sheet 0 ts (stopped e.reason e.place) → FirstFault (TokenFault sheet) e
  stopped_first ts e l = record { is_fault = not_lexed l; no_earlier = λ r p f. grind (arith, stopped_turn); no_lower = λ r p f x. grind (arith, stopped_turn, lexes_once) }

  module _ (ts : List Tok) (lexes : Lexes sheet 0 ts finished) where
    not_stopped : {us : List Tok} {r : Reason} {p : ℕ} → Lexes sheet 0 us (stopped r p) → ⊥
    not_stopped l = let same = (lexes_once sheet 0 _ _ _ _ lexes l).1 in let z : ◌≡◌ {A = ℕ} 0 1 = cc in omega arith

    moved : {us : List Tok} {p : ℕ} → Lexes sheet 0 us finished → BrokenLine sheet us p → BrokenLine sheet ts p
    moved {p = p} l b = subst (λ us. BrokenLine sheet us p) (sym (lexes_once sheet 0 _ _ _ _ lexes l).0) b

    pub line_first : (p : ℕ) → BrokenLine sheet ts p → ((q : ℕ) → BrokenLine sheet ts q → p ≤ q) → FirstFault (TokenFault sheet) (record { reason = LineFeed; place = p })
    line_first p b least = record { is_fault = line_broken lexes b; no_earlier = λ r q f. grind (arith, not_stopped); no_lower = lower }
      where
        lower : (r : Reason) (q : ℕ) → TokenFault sheet r q → turn r ≡ 5 → (r ≡ NoProgram) ⊎ (p ≤ q)
        lower _ _ (too_long h) x = absurd (omega arith)
        lower _ _ (not_lexed m) x = absurd (not_stopped m)
        lower _ q (line_broken m c) x = inr (least q (moved m c))
        lower _ _ (too_many m n) x = absurd (omega arith)

    module _ (unbroken : (q : ℕ) → BrokenLine sheet ts q → ⊥) where
      pub many_first : (p : ℕ) → 4096 < length ts → (nth ts 4096).1 ≡ p → FirstFault (TokenFault sheet) (record { reason = ManyTokens; place = p })
      many_first p many here = record { is_fault = subst (TokenFault sheet ManyTokens) here (too_many lexes many); no_earlier = earlier; no_lower = λ r q f x. grind (arith, not_stopped, lexes_once) }
        where
          earlier : (r : Reason) (q : ℕ) → TokenFault sheet r q → 6 ≤ turn r
          earlier _ _ (too_long h) = absurd (omega arith)
          earlier _ _ (not_lexed m) = absurd (not_stopped m)
          earlier _ _ (line_broken m c) = absurd (unbroken _ (moved m c))
          earlier _ _ (too_many m n) = lit≤ tt

      pub clean : (n : ℕ) → length ts ≡ n → n ≤ 4096 → Clean sheet n
      clean n count few = record { tokens = ts; lexes = lexes; count = count; few = few; short = short; faultless = none }
        where
          none : (r : Reason) (q : ℕ) → TokenFault sheet r q → ⊥
          none _ _ (too_long h) = omega arith
          none _ _ (not_lexed m) = not_stopped m
          none _ _ (line_broken m c) = unbroken _ (moved m c)
          none _ _ (too_many {ts = us} m n) = let same = (lexes_once sheet 0 _ _ _ _ lexes m).0 in let long : length us ≡ length ts = cc in omega arith

-- The rules on the tokens of a whole sheet. Assumes nothing.
use Rattle.std.specs.Prelude.{◌≡◌, ℕ, ◌+◌, ◌<◌, ◌≤◌, ◌⊎◌, List, ◌∷◌, length, take, drop, Ok, Err, codes, Result, slice_index, slice_index_or}
use Rattle.lexer.specs.Faults.{FirstFault}
use Rattle.lexer.specs.Reading.{Lexes, finished, stopped}
use Rattle.lexer.specs.declared.kinds.Kind.{Kind}
use Rattle.lexer.specs.declared.kinds.Kind.TheVariants.{Name}
use Rattle.lexer.specs.declared.reasons.Reason.{Reason}
use Rattle.lexer.specs.declared.reasons.Reason.TheVariants.{LongSheet, LineFeed, ManyTokens}
use Rattle.lexer.specs.declared.refusal.Refusal.{Refusal}

-- a token by its kind, place and length
abbrev pub Tok : Type 0
Tok = Kind × ℕ × ℕ

abbrev pub text : List ℕ → Tok → List ℕ
text sheet t = take t.2 (drop t.1 sheet)

-- the token of this number, from 0
abbrev pub nth : List Tok → ℕ → Tok
nth ts i = slice_index_or ts i (Name, 0, 0)

-- u stands right after t among the tokens
pub data NextTo : List Tok → Tok → Tok → Type 0 where
  next_here : {t u : Tok} {ts : List Tok} → NextTo (t ∷ u ∷ ts) t u
  next_later : {s t u : Tok} {ts : List Tok} → NextTo ts t u → NextTo (s ∷ ts) t u

-- no line feed may stand between t and u
abbrev pub OnOneLine : List ℕ → Tok → Tok → Type 0
OnOneLine sheet t u = (text sheet t ≡ codes "return") ⊎ (text sheet u ≡ codes "=>")

-- a line feed stands from one place on and before another
abbrev pub FeedBetween : List ℕ → ℕ → ℕ → Type 0
FeedBetween sheet from to = (i : ℕ) × (from ≤ i) × (i < to) × (slice_index sheet i ≡ 10)

-- a line feed stands between two tokens where none may, and the second one is at p
pub data BrokenLine (sheet : List ℕ) (ts : List Tok) (p : ℕ) : Type 0 where
  broken_line : (t u : Tok) → NextTo ts t u → OnOneLine sheet t u → FeedBetween sheet (t.1 + t.2) u.1 → p ≡ u.1 → BrokenLine sheet ts p

-- a rule on the tokens is broken, and where: at most 16,384 bytes, tokens that there are and that are not too large, no line
-- feed after `return` or before `=>`, at most 4,096 tokens
pub data TokenFault (sheet : List ℕ) : Reason → ℕ → Type 0 where
  too_long : 16384 < length sheet → TokenFault sheet LongSheet 16384
  not_lexed : {ts : List Tok} {r : Reason} {p : ℕ} → Lexes sheet 0 ts (stopped r p) → TokenFault sheet r p
  line_broken : {ts : List Tok} {p : ℕ} → Lexes sheet 0 ts finished → BrokenLine sheet ts p → TokenFault sheet LineFeed p
  too_many : {ts : List Tok} → Lexes sheet 0 ts finished → 4096 < length ts → TokenFault sheet ManyTokens (nth ts 4096).1

-- no rule is broken, and there are n tokens
pub record Clean (sheet : List ℕ) (n : ℕ) : Type 0 where
  pub tokens : List Tok
  pub lexes : Lexes sheet 0 tokens finished
  pub count : length tokens ≡ n
  pub few : n ≤ 4096
  pub short : length sheet ≤ 16384
  pub faultless : (r : Reason) (p : ℕ) → TokenFault sheet r p → ⊥

abbrev pub Scans : List ℕ → Result ℕ Refusal → Type 0
Scans sheet (Ok n) = Clean sheet n
Scans sheet (Err e) = FirstFault (TokenFault sheet) e

-- No public contract cites it, but `Counted` of Tallies goes by it. What a tally holds of the tokens so far. Assumes nothing.
use Rattle.std.specs.Prelude.{◌≡◌, ℕ, ◌+◌, ◌<◌, ◌≤◌, ◌⊎◌, List, ◌∷◌, length, Some, None, codes, Option, IfSome, MatchOption}
use Rattle.lexer.specs.Reading.{Lexes, Ending}
use Rattle.lexer.specs.Scanning.{Tok, text, nth, BrokenLine, FeedBetween}
use Rattle.lexer.specs.declared.read.Token.{Token}
use Rattle.lexer.specs.declared.scan.Tally.{Tally}

abbrev pub tok_of : Token → Tok
tok_of t = (t.kind, t.at, length t.text.now)

-- the last token, if there is one, and then us
abbrev pub joined : Option Token → List Tok → List Tok
joined None us = us
joined (Some t) us = tok_of t ∷ us

-- the last token, if there is one, ends at n
abbrev pub EndsAt : ℕ → Option Token → Type 0
EndsAt n last = IfSome last (λ t. t.at + length t.text.now ≡ n)

-- the place of the 4,097th of the tokens, where n counts so many
abbrev pub OverAt : List Tok → ℕ → Option ℕ → Type 0
OverAt ts n None = n ≤ 4096
OverAt ts n (Some p) = (4096 < n) × ((nth ts 4096).1 ≡ p)

-- a broken line stands at p or before it
abbrev pub Seen : Tally → ℕ → Type 0
Seen a p = (q : ℕ) × (a.line ≡ Some q) × (q ≤ p)

-- the tokens us after those that are counted make the sheet's
pub record Whole (sheet : List ℕ) (a : Tally) (us : List Tok) (end : Ending) : Type 0 where
  pub tokens : List Tok
  pub lexes : Lexes sheet 0 tokens end
  pub long : length tokens ≡ a.count + length us
  pub same : (j : ℕ) → nth tokens (a.count + j) ≡ nth us j
  pub over : OverAt tokens a.count a.over
  pub lines : (p : ℕ) → BrokenLine sheet tokens p → Seen a p ⊎ BrokenLine sheet (joined a.last us) p
  pub seen : (p : ℕ) → a.line ≡ Some p → BrokenLine sheet tokens p
  pub left : (p : ℕ) → BrokenLine sheet (joined a.last us) p → BrokenLine sheet tokens p

-- the tally is that of the sheet's tokens before a place
pub record Tallied (sheet : List ℕ) (at : ℕ) (a : Tally) : Type 0 where
  pub few : a.count ≤ at
  pub ends : EndsAt at a.last
  pub worded : IfSome a.last (λ t. text sheet (tok_of t) ≡ t.text.now)
  pub early : (p : ℕ) → a.line ≡ Some p → p < at
  pub rest : (us : List Tok) (end : Ending) → Lexes sheet at us end → Whole sheet a us end

-- the last token ends at a place, and the token t breaks the line that it is on
abbrev pub Breaks : Option Token → List ℕ → ℕ → Token → Type 0
Breaks last sheet at t = MatchOption last ⊥ (λ s. ((s.text.now ≡ codes "return") ⊎ (t.text.now ≡ codes "=>")) × FeedBetween sheet at t.at)

-- What a scanner answers: how many tokens it gave, and the first fault of a sheet's tokens. Assumes nothing.
use Rattle.std.specs.Prelude.{◌≡◌, ℕ, ◌+◌, ◌≤◌, List, length, Some, None, Ok, Err, Option, Result}
use Rattle.lexer.specs.Faults.{FirstFault}
use Rattle.lexer.specs.Reading.{Finished}
use Rattle.lexer.specs.Scanning.{TokenFault}
use Rattle.lexer.specs.Counting.{Tallied}
use Rattle.lexer.specs.declared.read.Token.{Token}
use Rattle.lexer.specs.declared.refusal.Refusal.{Refusal}
use Rattle.lexer.specs.declared.scan.Scanner.{Scanner}

-- how many tokens a scanner gave
abbrev pub given : Scanner → ℕ
given s = s.tally.count

-- a scanner whose sheet is not too long, and which has counted the tokens before its place, and those alone
pub record Counted (s : Scanner) : Type 0 where
  pub short : length s.reader.sheet.now ≤ 16384
  pub tallied : Tallied s.reader.sheet.now s.reader.at s.tally

-- what a start answers: a scanner before the first token, or the first fault
abbrev pub Starts : List ℕ → Result Scanner Refusal → Type 0
Starts sheet (Ok s) = (s.reader.sheet.now ≡ sheet) × (s.reader.at ≡ 0) × (given s ≡ 0) × Counted s
Starts sheet (Err e) = FirstFault (TokenFault sheet) e

-- what a step leaves of a scanner: one token more is counted, or none is left, or the first fault is told
abbrev pub Counts : Scanner → Result (Option Token) Refusal → Scanner → Type 0
Counts s (Ok (Some t)) after = Counted after × (given after ≡ given s + 1)
Counts s (Ok None) after = Counted after × Finished after.reader.sheet.now after.reader.at
Counts s (Err e) after = FirstFault (TokenFault s.reader.sheet.now) e

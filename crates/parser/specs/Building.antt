-- What the builder's methods make of its tables, in the terms of Holds. No public contract cites it. Assumes nothing.
use Rattle.std.specs.Prelude.{◌≡◌, ℕ, ◌+◌, ◌<◌, ◌≤◌, List, [], length, Some, None, Option, Result, MatchOption, slice_set}
use Rattle.lexer.specs.Reading.{Lexes, finished}
use Rattle.lexer.specs.Scanning.{Tok}
use Rattle.lexer.specs.declared.refusal.Refusal.{Refusal}
use Rattle.stack.specs.Items.{held, room}
use Rattle.parser.specs.declared.symbols.Token.{Token}
use Rattle.parser.specs.declared.symbols.Follow.{Follow}
use Rattle.parser.specs.declared.tree.TreeEntry.{TreeEntry}
use Rattle.parser.specs.declared.builder.Builder.{Builder}
use Rattle.parser.specs.declared.builder.Position.{Position}
use Rattle.parser.specs.declared.builder.Position.TheVariants.{Want}
use Rattle.parser.specs.declared.reading.Read.{Read}
use Rattle.parser.specs.Syntax.{Expr, sizes}
use Rattle.parser.specs.Grammar.{follow, left, level}
use Rattle.parser.specs.Machine.{Part, State, want, after, wants, Dead}
use Rattle.parser.specs.Holds.{Operand, Progress, Within, spent, Before, Ended, Reduced, Lower, Holds, Next, Sofar}
use Rattle.parser.specs.Reading.{tokens}
use Rattle.parser.specs.Parsing.{Builds}

-- no entry is in use
pub record IsEmpty (b : Builder) : Type 0 where
  pub parts : held b.parts ≡ []
  pub used : b.used ≡ 0
  pub last : b.last ≡ None

-- there is room for one entry more in each table
pub record HasRoom (b : Builder) : Type 0 where
  pub in_tree : b.used + length (held b.parts) < length b.tree.now
  pub in_parts : b.used + length (held b.parts) < room b.parts

-- the entry is written above those in use, at an index
pub record Adds (entry : TreeEntry) (old new : Builder) (at : ℕ) : Type 0 where
  pub lent : new.tree.ghost_name ≡ old.tree.ghost_name
  pub tree : new.tree.now ≡ slice_set old.tree.now old.used entry
  pub parts : new.parts ≡ old.parts
  pub used : new.used ≡ old.used + 1
  pub last : new.last ≡ old.last
  pub index : at ≡ old.used

-- the tables are the ones that they were, with at most n entries more in use
pub record Grown (n : ℕ) (old new : Builder) : Type 0 where
  pub lent : new.tree.ghost_name ≡ old.tree.ghost_name
  pub long : length new.tree.now ≡ length old.tree.now
  pub space : room new.parts ≡ room old.parts
  pub few : new.used + length (held new.parts) ≤ old.used + length (held old.parts) + n

abbrev pub operand : Builder → ℕ → Operand
operand b at = record { at = at; used = b.used }

abbrev pub progress : Builder → Position → Progress
progress b q = record { used = b.used; last = b.last; position = q }

-- the statements ss and the open parts ps are held, in just the entries in use, and an operand is to come
abbrev pub WantsOperand : ℕ → Builder → List Expr → List Part → Type 0
WantsOperand sheet b ss ps = Before sheet b.tree.now (held b.parts) b.used b.last ss ps × (b.used ≡ sizes ss + spent ps)

-- the same, and the operand e has come, which stands at an index and binds as tightly as k
abbrev pub HasOperand : ℕ → Builder → ℕ → ℕ → List Expr → List Part → Expr → Type 0
HasOperand sheet b at k ss ps e = Ended sheet b.tree.now (held b.parts) (operand b at) b.last k ss ps e

-- the configuration is held
abbrev pub Stands : ℕ → Builder → Position → State → List Expr → List Part → Type 0
Stands sheet b q s ss ps = Holds sheet b.tree.now (held b.parts) (progress b q) s ss ps

-- and so is the one that t leads to
abbrev pub Turns : ℕ → Builder → Position → State → List Expr → List Part → Token → Type 0
Turns sheet b q s ss ps t = Next sheet b.tree.now (held b.parts) (progress b q) s ss ps t

-- either that, or nothing that begins with t completes the configuration
abbrev pub TurnsOrDies : ℕ → Builder → Option Position → State → List Expr → List Part → Token → Type 0
TurnsOrDies sheet b r s ss ps t = MatchOption r (Dead s ss ps t) (λ q. Turns sheet b q s ss ps t)

-- what t comes to where an operand is wanted
abbrev pub TakesOperand : Builder → Token → Builder → Option Position → Type 0
TakesOperand old t new r =
    (sheet : ℕ) (ss : List Expr) (ps : List Part) → Within sheet t → WantsOperand sheet old ss ps → TurnsOrDies sheet new r want ss ps t

-- what t comes to after the operand at an index, which binds as tightly as k
abbrev pub TakesAfter : Builder → ℕ → ℕ → Token → Builder → Option Position → Type 0
TakesAfter old at k t new r =
    (sheet : ℕ) (ss : List Expr) (ps : List Part) (e : Expr) → HasOperand sheet old at k ss ps e
    → TurnsOrDies sheet new r (after k e) ss ps t

-- what t comes to where it goes on as f from the operand at an index
abbrev pub GoesOn : Builder → ℕ → Follow → Builder → Type 0
GoesOn old at f new =
    (sheet : ℕ) (ss : List Expr) (ps : List Part) (k : ℕ) (e : Expr) (t : Token) → follow t.symbol ≡ Some f → wants ps ≤ level f
    → left f ≤ k → HasOperand sheet old at k ss ps e → Turns sheet new Want (after k e) ss ps t

-- what t comes to in any configuration
abbrev pub Takes : Builder → Position → Token → Builder → Option Position → Type 0
Takes old q t new r =
    (sheet : ℕ) (s : State) (ss : List Expr) (ps : List Part) → Within sheet t → Stands sheet old q s ss ps
    → TurnsOrDies sheet new r s ss ps t

-- what is built where all tokens of a sheet of this length are taken
abbrev pub Finishes : Builder → Position → ℕ → Result Read Refusal → Type 0
Finishes b q end r =
    (sheet : List ℕ) (ls : List Tok) → end ≡ length sheet → Lexes sheet 0 ls finished → length ls ≤ 4096 → b.used ≤ length ls
    → Sofar (length sheet) (tokens sheet ls) b.tree.now (held b.parts) (progress b q) → Builds sheet b.tree.now r

-- nothing is completed, for no part on top ends with an operand that binds as tightly as least
pub record Lowest (least : ℕ) (old new : Builder) : Type 0 where
  pub same : new ≡ old
  pub lower : Lower least (held old.parts)

-- open parts that end with the operand at an index, and await one that binds as tightly as least, are completed, and what
-- they make with it stands at another
pub record Completes (old : Builder) (at least : ℕ) (new : Builder) (at' : ℕ) : Type 0 where
  pub grown : Grown 0 old new
  pub last : new.last ≡ old.last
  pub reduced : Reduced old.tree.now (held old.parts) (operand old at) least new.tree.now (held new.parts) (operand new at')

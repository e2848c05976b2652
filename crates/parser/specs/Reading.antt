-- What `read` answers. Assumes nothing.
use Rattle.std.specs.Prelude.{◌≡◌, ℕ, ◌<◌, ◌≤◌, List, [], ◌∷◌, ◌++◌, map, length, Ok, Err, Result}
use Rattle.lexer.specs.Faults.{FirstFault}
use Rattle.lexer.specs.Reading.{Lexes, finished}
use Rattle.lexer.specs.Scanning.{Tok, text, TokenFault}
use Rattle.lexer.specs.declared.reasons.Reason.{Reason}
use Rattle.lexer.specs.declared.reasons.Reason.TheVariants.{ShortTable, NoProgram}
use Rattle.lexer.specs.declared.refusal.Refusal.{Refusal}
use Rattle.parser.specs.declared.symbols.Token.{Token}
use Rattle.parser.specs.declared.tree.TreeEntry.{TreeEntry}
use Rattle.parser.specs.declared.reading.Read.{Read}
use Rattle.parser.specs.Symbols.{symbol_of}
use Rattle.parser.specs.Syntax.{Expr, sizes}
use Rattle.parser.specs.Grammar.{Program, Begins}
use Rattle.parser.specs.Table.{last_of, Listed, AllProper}

-- a token of a sheet, as the grammar has it
abbrev pub token_of : List ℕ → Tok → Token
token_of sheet t = record { symbol = symbol_of t.0 (text sheet t); place = t.1; len = t.2 }

abbrev pub tokens : List ℕ → List Tok → List Token
tokens sheet = map (token_of sheet)

-- the sheet has tokens, and they are the program ss
pub record Written (sheet : List ℕ) (ss : List Expr) : Type 0 where
  pub lexed : List Tok
  pub lexes : Lexes sheet 0 lexed finished
  pub program : Program (tokens sheet lexed) ss

-- The sheet is the program ss and no other, and the first entries of the table, as many as are used, are that program, the
-- last of them its last statement. As many entries are in use as the program has expressions and statements.
pub record Represents (sheet : List ℕ) (tree : List TreeEntry) (read : Read) (ss : List Expr) : Type 0 where
  pub written : Written sheet ss
  pub only : (other : List Expr) → Written sheet other → other ≡ ss
  pub listed : Listed tree (last_of read.used) ss
  pub exact : read.used ≡ sizes ss
  pub proper : AllProper (length sheet) tree read.used
  pub small : sizes ss ≤ 4096

-- an honest place for what is no program: a token such that no program begins with the tokens up to and with it, or the
-- sheet's end, where some program begins with all of them
pub data BreaksOff (sheet : List ℕ) (ts : List Token) : ℕ → Type 0 where
  at_token : (before : List Token) (t : Token) (rest : List Token) → ts ≡ before ++ (t ∷ rest) → (Begins (before ++ (t ∷ [])) → ⊥) → BreaksOff sheet ts t.place
  at_end : Begins ts → BreaksOff sheet ts (length sheet)

-- the tokens are no program
pub record NotProgram (sheet : List ℕ) (p : ℕ) : Type 0 where
  pub lexed : List Tok
  pub lexes : Lexes sheet 0 lexed finished
  pub none : (ss : List Expr) → Program (tokens sheet lexed) ss → ⊥
  pub place : BreaksOff sheet (tokens sheet lexed) p

-- how long the tables are that a call lends
pub record Sizes : Type 0 where
  pub of_tree : ℕ
  pub of_operators : ℕ
  pub of_frames : ℕ
  pub of_types : ℕ

-- how long each has to be at least
abbrev pub least : Sizes
least = record { of_tree = 4096; of_operators = 4096; of_frames = 4096; of_types = 8192 }

-- one of them is shorter
pub data Short (s : Sizes) : Type 0 where
  short_tree : s.of_tree < least.of_tree → Short s
  short_operators : s.of_operators < least.of_operators → Short s
  short_frames : s.of_frames < least.of_frames → Short s
  short_types : s.of_types < least.of_types → Short s

-- a rule of reading is broken, and where
pub data Fault (s : Sizes) (sheet : List ℕ) : Reason → ℕ → Type 0 where
  short_table : Short s → Fault s sheet ShortTable 0
  in_tokens : {r : Reason} {p : ℕ} → TokenFault sheet r p → Fault s sheet r p
  not_program : {p : ℕ} → NotProgram sheet p → Fault s sheet NoProgram p

-- the sheet breaks no rule, and the table holds its program; or it is the first broken rule that is told
abbrev pub Reads : Sizes → List ℕ → List TreeEntry → Result Read Refusal → Type 0
Reads s sheet tree (Ok read) = ((r : Reason) (p : ℕ) → Fault s sheet r p → ⊥) × ((ss : List Expr) × Represents sheet tree read ss)
Reads s sheet tree (Err e) = FirstFault (Fault s sheet) e

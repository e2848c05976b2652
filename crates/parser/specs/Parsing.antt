-- What `parse` answers. No public contract cites it. Assumes nothing.
use Rattle.std.specs.Prelude.{◌≡◌, ℕ, List, Ok, Err, Result}
use Rattle.lexer.specs.Faults.{FirstFault}
use Rattle.lexer.specs.Scanning.{TokenFault, Clean}
use Rattle.lexer.specs.declared.reasons.Reason.TheVariants.{NoProgram}
use Rattle.lexer.specs.declared.refusal.Refusal.{Refusal}
use Rattle.parser.specs.declared.tree.TreeEntry.{TreeEntry}
use Rattle.parser.specs.declared.reading.Read.{Read}
use Rattle.parser.specs.Syntax.{Expr}
use Rattle.parser.specs.Reading.{Represents, NotProgram}

-- of a sheet whose tokens break no rule
abbrev pub Builds : List ℕ → List TreeEntry → Result Read Refusal → Type 0
Builds sheet tree (Ok read) = (ss : List Expr) × Represents sheet tree read ss
Builds sheet tree (Err e) = (e.reason ≡ NoProgram) × NotProgram sheet e.place

-- of any sheet
pub data Parses (sheet : List ℕ) (tree : List TreeEntry) : Result Read Refusal → Type 0 where
  token_refused : {e : Refusal} → FirstFault (TokenFault sheet) e → Parses sheet tree (Err e)
  tokens_clean : {n : ℕ} {r : Result Read Refusal} → Clean sheet n → Builds sheet tree r → Parses sheet tree r

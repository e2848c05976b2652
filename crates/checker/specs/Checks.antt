-- What `check` answers. Assumes nothing.
use Rattle.std.specs.Prelude.{◌≡◌, ℕ, ◌+◌, ◌<◌, ◌≤◌, List, length, Ok, Err, Result}
use Rattle.lexer.specs.declared.reasons.Reason.TheVariants.{ShortTable, HeavySheet, Damaged}
use Rattle.lexer.specs.declared.refusal.Refusal.{Refusal}
use Rattle.types.specs.declared.entries.TypeEntry.{TypeEntry}
use Rattle.registers.specs.Meaning.{Meaning}
use Rattle.parser.specs.declared.reading.Read.{Read}
use Rattle.parser.specs.declared.tree.TreeEntry.{TreeEntry}
use Rattle.parser.specs.Syntax.{Expr}
use Rattle.parser.specs.Table.{last_of, AllProper, Earlier}
use Rattle.parser.specs.Reading.{Represents, Sizes, Short}
use Rattle.checker.specs.declared.finding.Finding.{Finding}
use Rattle.checker.specs.declared.stage.Checked.{Checked}
use Rattle.checker.specs.Rules.{Note, AllTyped, types}
use Rattle.checker.specs.Findings.{blank, FirstOf, AllBlank, weigh, Judged}
use Rattle.checker.specs.Orders.{IsInOrder, TypesHeld}

-- c counts the findings and the expressions; the list has the first findings, the table the types of the expressions by their
-- numbers, with all their parts among the entries in use, which are no more than the load counts
pub record Recorded (notes : List Note) (found : List Finding) (c : Checked) (listed : List Finding) (es : List TypeEntry) : Type 0 where
  pub count : c.count ≡ length found
  pub list : FirstOf blank listed found
  pub expressions : c.expressions ≡ length (types notes)
  pub light : c.used + c.expressions ≤ weigh (types notes)
  pub types_held : TypesHeld es c.used (types notes)
  pub in_order : IsInOrder es c.used c.expressions

-- the typing and the findings of the program ss in the scope Γ are recorded
pub record CheckedAs (sheet : List ℕ) (Γ : Meaning) (ss : List Expr) (c : Checked) (listed : List Finding) (es : List TypeEntry) : Type 0 where
  pub notes : List Note
  pub found : List Finding
  pub judged : Judged sheet Γ ss notes found
  pub recorded : Recorded notes found c listed es

-- the entries of the tree in use are in order, and the last of them, if there is one, is a statement
abbrev pub TreeInOrder : ℕ → List TreeEntry → Read → Type 0
TreeInOrder sheet tree read = AllProper sheet tree read.used × Earlier tree read.used (last_of read.used)

-- why a check is refused: a table under its size; else an entry in use that is not in order, or a last one that is no
-- statement; else a load over 8,192
pub data Refuses (s : Sizes) (sheet : List ℕ) (tree : List TreeEntry) (read : Read) (Γ : Meaning) : Refusal → Type 0 where
  short_table : Short s → Refuses s sheet tree read Γ (record { reason = ShortTable; place = 0 })
  damaged : (Short s → ⊥) → (TreeInOrder (length sheet) tree read → ⊥) → Refuses s sheet tree read Γ (record { reason = Damaged; place = 0 })
  too_heavy : (Short s → ⊥) → TreeInOrder (length sheet) tree read →
      ((ss : List Expr) (ns : List Note) → Represents sheet tree read ss → AllTyped sheet Γ ss ns → 8192 < weigh (types ns)) →
      Refuses s sheet tree read Γ (record { reason = HeavySheet; place = 0 })

-- The answer. Where the sheet and the tree are not as the reading left them and no entry is out of order, it is free.
abbrev pub Checks : Sizes → List ℕ → List TreeEntry → Read → Meaning → Result Checked (Refusal × Read) → List Finding → List TypeEntry → Type 0
Checks s sheet tree read Γ (Ok c) listed es =
    (Short s → ⊥) × TreeInOrder (length sheet) tree read × ((ss : List Expr) → Represents sheet tree read ss → CheckedAs sheet Γ ss c listed es)
Checks s sheet tree read Γ (Err e) listed es = Refuses s sheet tree read Γ e.0 × (e.1 ≡ read) × AllBlank listed

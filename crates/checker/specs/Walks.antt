-- What a walk over the whole tree answers. No public contract cites it. Assumes nothing.
use Rattle.std.specs.Prelude.{ℕ, ◌<◌, ◌≤◌, List, Ok, Err, Option, Result}
use Rattle.types.specs.declared.entries.TypeEntry.{TypeEntry}
use Rattle.registers.specs.Meaning.{Meaning, Sound}
use Rattle.parser.specs.declared.tree.TreeEntry.{TreeEntry}
use Rattle.parser.specs.Syntax.{Expr, sizes}
use Rattle.parser.specs.Table.{Listed}
use Rattle.checker.specs.declared.finding.Finding.{Finding}
use Rattle.checker.specs.declared.stage.Checked.{Checked}
use Rattle.checker.specs.declared.store.TooHeavy.{TooHeavy}
use Rattle.checker.specs.Rules.{Note, AllTyped, conditions, types}
use Rattle.checker.specs.Findings.{Findings, AllBlank, weigh}
use Rattle.checker.specs.Checks.{Recorded}

-- the notes ns and their findings are recorded
pub record WalkedAs (ns : List Note) (c : Checked) (listed : List Finding) (es : List TypeEntry) : Type 0 where
  pub load : weigh (types ns) ≤ 8192
  pub found : List Finding
  pub findings : Findings (conditions ns) found
  pub recorded : Recorded ns found c listed es

-- they are, or their load is too high
abbrev pub WalkedOrHeavy : List Note → Result Checked TooHeavy → List Finding → List TypeEntry → Type 0
WalkedOrHeavy ns (Ok c) listed es = WalkedAs ns c listed es
WalkedOrHeavy ns (Err e) listed es = 8192 < weigh (types ns)

abbrev pub Walks : List ℕ → Meaning → List TreeEntry → Option ℕ → ℕ → ℕ → ℕ → List Finding → Result Checked TooHeavy → List Finding → List TypeEntry → Type 0
Walks sheet Γ tree last operators frames types given r listed es =
    (ss : List Expr) (ns : List Note) → Listed tree last ss → sizes ss ≤ 4096 → AllTyped sheet Γ ss ns → Sound Γ → 4096 ≤ operators → 4096 ≤ frames → 8192 ≤ types → AllBlank given
    → WalkedOrHeavy ns r listed es

-- How the tables of a check stand for what it owes. No public contract cites it. Assumes nothing.
use Rattle.std.specs.Prelude.{◌≡◌, ℕ, suc, ◌+◌, ◌<◌, ◌≤◌, List, [], ◌∷◌, ◌++◌, reverse, length, Ok, Err, Result}
use Rattle.stack.specs.declared.Stack.{Stack}
use Rattle.stack.specs.Items.{held, room}
use Rattle.types.specs.declared.entries.TypeEntry.{TypeEntry}
use Rattle.types.specs.Types.{Ty}
use Rattle.types.specs.Table.{Is}
use Rattle.types.specs.declared.entries.Root.{Root}
use Rattle.building.specs.Forms.{InForm}
use Rattle.registers.specs.Meaning.{Meaning, Sound}
use Rattle.parser.specs.declared.symbols.Leaf.{Leaf}
use Rattle.parser.specs.declared.tree.TreeEntry.{TreeEntry}
use Rattle.parser.specs.declared.tree.OperatorEntry.{OperatorEntry}
use Rattle.parser.specs.declared.tree.OperatorEntry.TheVariants.{Operand}
use Rattle.parser.specs.declared.tree.TreeEntry.TheVariants as entry
use Rattle.parser.specs.declared.tree.WalkFrame.{WalkFrame}
use Rattle.parser.specs.declared.tree.WalkFrame.TheVariants.{Expression}
use Rattle.parser.specs.Table.{tree_at}
use Rattle.checker.specs.declared.finding.Finding.{Finding}
use Rattle.checker.specs.declared.first.First.{First}
use Rattle.checker.specs.declared.store.Store.{Store}
use Rattle.checker.specs.declared.store.TooHeavy.{TooHeavy}
use Rattle.checker.specs.declared.walk.Walk.{Walk}
use Rattle.checker.specs.declared.walk.Operand.{Operand as Popped}
use Rattle.checker.specs.Conditions.{Condition}
use Rattle.checker.specs.Rules.{Note, has, conditions, types}
use Rattle.checker.specs.Findings.{Findings, blank, weigh}
use Rattle.checker.specs.Keeping.{Keeps}
use Rattle.checker.specs.Stores.{entries, Tabled, InHand}
use Rattle.checker.specs.Owing.{Opd, Going}

-- v is the operand that was on top
abbrev pub Takes : List OperatorEntry → Popped → List OperatorEntry → Type 0
Takes gs v hs = (p : ℕ) (e : TypeEntry) (us : List OperatorEntry) → gs ≡ Operand p e ∷ us → (v.place ≡ p) × (v.entry ≡ e) × (hs ≡ us)

-- the entries are the operands, whose types stand in the table
pub data Operands (es : List TypeEntry) (used : ℕ) : List OperatorEntry → List Opd → Type 0 where
  no_operands : Operands es used [] []
  one_operand : {p : ℕ} {e : TypeEntry} {t : Ty} {gs : List OperatorEntry} {vs : List Opd} → Is es used e t → InForm t → Operands es used gs vs → Operands es used (Operand p e ∷ gs) ((p, t) ∷ vs)

-- the stacks, the findings and the types
pub record State : Type 0 where
  pub frames : Stack WalkFrame
  pub operators : Stack OperatorEntry
  pub findings : First Finding
  pub store : Store

abbrev pub state : Walk → First Finding → Store → State
state w f s = record { frames = w.frames; operators = w.operators; findings = f; store = s }

-- what was lent is the same
abbrev pub SameLoans : State → State → Type 0
SameLoans w v = (v.findings.slots.ghost_name ≡ w.findings.slots.ghost_name) × (v.store.entries.ghost_name ≡ w.store.entries.ghost_name)

-- the findings of the conditions are kept
pub record Tells (f : First Finding) (cs : List Condition) : Type 0 where
  pub found : List Finding
  pub findings : Findings cs found
  pub kept : Keeps blank f found

-- the conditions were asked
abbrev pub Asks : First Finding → List Condition → First Finding → Type 0
Asks f cs g = (bs : List Condition) → length (bs ++ cs) ≤ 16384 → Tells f bs → Tells g (bs ++ cs)

pub record Rooms (w : State) : Type 0 where
  pub frames : 4096 ≤ room w.frames
  pub operators : 4096 ≤ room w.operators

module _ (sheet : List ℕ) (Γ : Meaning) (table : List TreeEntry) (whole : List Note) (left : ℕ) where
  -- with the frames fs, the check comes to note whole in at most left steps
  pub record Goes (fs : List WalkFrame) (w : State) : Type 0 where
    pub notes : List Note
    pub operands : List Opd
    pub tells : Tells w.findings (conditions notes)
    pub tabled : Tabled w.store (types notes)
    pub holds : Operands (entries w.store) w.store.used (held w.operators) operands
    pub rooms : Rooms w
    pub goes : Going sheet Γ table whole left fs operands notes

  -- the same once the expression at p, which has just ended, is kept with its type u
  pub record Ending (fs : List WalkFrame) (w : State) (p : ℕ) (u : Ty) : Type 0 where
    pub notes : List Note
    pub operands : List Opd
    pub tells : Tells w.findings (conditions notes)
    pub tabled : Tabled w.store (types notes)
    pub holds : Operands (entries w.store) w.store.used (held w.operators) operands
    pub rooms : Rooms w
    pub formed : InForm u
    pub goes : Going sheet Γ table whole left fs ((p, u) ∷ operands) (notes ++ has u ∷ [])

  -- the walk goes on with the frames that wait, or the load of what is noted is too high
  abbrev pub Stands : State → Result (Unit {0}) TooHeavy → Type 0
  Stands w (Ok _) = Goes (held w.frames) w
  Stands w (Err e) = 8192 < weigh (types whole)

-- the expression at p has ended with the type in hand, where that is what is owed
pub record Ends (w : Walk) (s : Store) (p : ℕ) (m : Root) (v : Walk) (t : Store) (r : Result (Unit {0}) TooHeavy) : Type 0 where
  pub lent : t.entries.ghost_name ≡ s.entries.ghost_name
  pub ends : (sheet : List ℕ) (Γ : Meaning) (table : List TreeEntry) (whole : List Note) (left : ℕ) (f : First Finding) (u : Ty) →
      Ending sheet Γ table whole left (held w.frames) (state w f s) p u → InHand s u m → Stands sheet Γ table whole left (state v f t) r

-- the frame f has been seen to
pub record Onward (sheet : List ℕ) (Γ : Meaning) (table : List TreeEntry) (f : WalkFrame) (w v : State) (r : Result (Unit {0}) TooHeavy) : Type 0 where
  pub lent : SameLoans w v
  pub onward : (whole : List Note) (left : ℕ) → Sound Γ → Goes sheet Γ table whole (suc left) (f ∷ held w.frames) w → Stands sheet Γ table whole left v r

-- the frames xs were put on top, one after the other
pub record Pushed (w : Walk) (xs : List WalkFrame) (v : Walk) : Type 0 where
  pub frames : length (held w.frames) + length xs ≤ room w.frames → held v.frames ≡ reverse xs ++ held w.frames
  pub space : room v.frames ≡ room w.frames
  pub rest : v ≡ record w { frames = v.frames }

-- the same of a frame that goes by no table
abbrev pub OnwardAny : WalkFrame → State → State → Result (Unit {0}) TooHeavy → Type 0
OnwardAny f w v r = (sheet : List ℕ) (Γ : Meaning) (table : List TreeEntry) → Onward sheet Γ table f w v r

-- the token l at p has been visited, where the tree has it as the expression at an index
abbrev pub VisitsToken : List ℕ → Meaning → Leaf → ℕ → ℕ → State → State → Result (Unit {0}) TooHeavy → Type 0
VisitsToken sheet Γ l p n w v r = (table : List TreeEntry) (i : ℕ) → tree_at table i ≡ entry.Leaf l p n → Onward sheet Γ table (Expression i) w v r

-- an expression has been visited by what its entry x is, where that is no token's
abbrev pub WaitsForParts : TreeEntry → Walk → Walk → Type 0
WaitsForParts x w v =
    (sheet : List ℕ) (Γ : Meaning) (table : List TreeEntry) (i : ℕ) (f : First Finding) (s : Store) → tree_at table i ≡ x
    → ((l : Leaf) (p n : ℕ) → x ≡ entry.Leaf l p n → ⊥) → Onward sheet Γ table (Expression i) (state w f s) (state v f s) (Ok tt)

-- all is noted, or its load is too high
abbrev pub Told : List Note → State → Result (Unit {0}) TooHeavy → Type 0
Told whole w (Ok _) = Tells w.findings (conditions whole) × Tabled w.store (types whole)
Told whole w (Err e) = 8192 < weigh (types whole)

-- from frames that owe them in at most 8,192 steps, the notes come to be told
pub record Runs (sheet : List ℕ) (Γ : Meaning) (table : List TreeEntry) (w v : State) (r : Result (Unit {0}) TooHeavy) : Type 0 where
  pub lent : SameLoans w v
  pub runs : (whole : List Note) → Sound Γ → Goes sheet Γ table whole 8192 (held w.frames) w → Told whole v r

-- Findings, derivations and load. Assumes nothing.
use Rattle.std.specs.Prelude.{◌≡◌, ℕ, ◌+◌, ◌<◌, ◌≤◌, List, [], ◌∷◌, length, slice_index_or}
use Rattle.types.specs.Types.{Ty}
use Rattle.building.specs.Weights.{weight}
use Rattle.registers.specs.Meaning.{Meaning}
use Rattle.parser.specs.Syntax.{Expr}
use Rattle.checker.specs.declared.finding.Kind.{Kind}
use Rattle.checker.specs.declared.finding.Kind.TheVariants.{Blank, Clash, UnknownName}
use Rattle.checker.specs.declared.finding.Finding.{Finding}
use Rattle.checker.specs.Conditions.{Condition, fits, compares, bound, Met, AllMet}
use Rattle.checker.specs.Rules.{Note, AllTyped, conditions, types}

-- the number of each kind of finding
abbrev pub number_of : Kind → ℕ
number_of Blank = 0
number_of Clash = 1
number_of UnknownName = 2

-- the finding that tells of a condition
abbrev pub finding : Condition → Finding
finding (fits p s t) = record { kind = Clash; place = p }
finding (compares p s t) = record { kind = Clash; place = p }
finding (bound p o) = record { kind = UnknownName; place = p }

abbrev pub blank : Finding
blank = record { kind = Blank; place = 0 }

-- one for each unmet condition, in their order
pub data Findings : List Condition → List Finding → Type 0 where
  none : Findings [] []
  met : {c : Condition} {cs : List Condition} {fs : List Finding} → Met c → Findings cs fs → Findings (c ∷ cs) fs
  unmet : {c : Condition} {cs : List Condition} {fs : List Finding} → (Met c → ⊥) → Findings cs fs → Findings (c ∷ cs) (finding c ∷ fs)

-- the slots hold the first of the list, and d in the rest
abbrev pub FirstOf : {T : Type 0} → T → List T → List T → Type 0
FirstOf d slots xs = (k : ℕ) → k < length slots → slice_index_or slots k d ≡ slice_index_or xs k d

-- every slot is blank
abbrev pub AllBlank : List Finding → Type 0
AllBlank slots = FirstOf blank slots []

-- a typing of the whole program with every condition met
pub record Derivation (sheet : List ℕ) (Γ : Meaning) (es : List Expr) : Type 0 where
  pub notes : List Note
  pub typed : AllTyped sheet Γ es notes
  pub all_met : AllMet (conditions notes)

-- the weights of the types together
abbrev pub weigh : List Ty → ℕ
weigh [] = 0
weigh (t ∷ ts) = weight t + weigh ts

-- The program ss in the scope Γ has one typing, these notes, whose load is no more than 8,192, and these findings. There is
-- none exactly where there is a derivation, and the types of every derivation are those of the notes.
pub record Judged (sheet : List ℕ) (Γ : Meaning) (ss : List Expr) (notes : List Note) (found : List Finding) : Type 0 where
  pub typed : AllTyped sheet Γ ss notes
  pub alone : (ns : List Note) → AllTyped sheet Γ ss ns → ns ≡ notes
  pub load : weigh (types notes) ≤ 8192
  pub findings : Findings (conditions notes) found
  pub derived : found ≡ [] → Derivation sheet Γ ss
  pub clean : Derivation sheet Γ ss → found ≡ []
  pub same_types : (d : Derivation sheet Γ ss) → types d.notes ≡ types notes

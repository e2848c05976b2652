-- What the functions that ask conditions say. No public contract cites it. Assumes nothing.
use Rattle.std.specs.Prelude.{◌≡◌, ℕ, ◌≤◌, Bool, List, [], ◌∷◌, length, Decides, Option}
use Rattle.types.specs.declared.entries.TypeEntry.{TypeEntry}
use Rattle.types.specs.Types.{Ty}
use Rattle.registers.specs.declared.told.Told.{Told}
use Rattle.registers.specs.Meaning.{Binding, Meaning}
use Rattle.registers.specs.Telling.{Tells}
use Rattle.types.specs.Table.{Is}
use Rattle.parser.specs.declared.symbols.Prefix.{Prefix}
use Rattle.checker.specs.declared.finding.Kind.{Kind}
use Rattle.checker.specs.declared.finding.Finding.{Finding}
use Rattle.checker.specs.declared.first.First.{First}
use Rattle.checker.specs.declared.rules.Rule.{Rule}
use Rattle.checker.specs.declared.store.Store.{Store}
use Rattle.checker.specs.declared.walk.Operand.{Operand}
use Rattle.checker.specs.Conditions.{Condition, fits, compares, bound, Met}
use Rattle.checker.specs.Rules.{PrefixRule, number_or_string}
use Rattle.checker.specs.Findings.{finding}
use Rattle.checker.specs.Forms.{Form}
use Rattle.checker.specs.Stores.{entries}
use Rattle.checker.specs.Standing.{Asks}

-- one condition, whose finding has the kind and the place, and of which met says whether it is met
abbrev pub AsksThat : First Finding → Bool → Kind → ℕ → First Finding → Type 0
AsksThat f met kind place g = (c : Condition) → Decides met (Met c) → finding c ≡ record { kind = kind; place = place } → Asks f (c ∷ []) g

-- the operand v against a type without parts
abbrev pub AsksFits : First Finding → Store → Operand → TypeEntry → First Finding → Type 0
AsksFits f s v asked g =
    s.used ≤ length (entries s) → (t u : Ty) → Is (entries s) s.used v.entry t → Is (entries s) 0 asked u → Asks f (fits v.place t u ∷ []) g

-- what an operator before its operand asks
abbrev pub AsksPrefix : First Finding → Store → Prefix → Operand → First Finding → Type 0
AsksPrefix f s op v g =
    s.used ≤ length (entries s) → (t u : Ty) (cs : List Condition) → Is (entries s) s.used v.entry t → PrefixRule v.place t op u cs → Asks f cs g

-- what the rule of an operator between its operands asks
abbrev pub AsksInfix : First Finding → Store → Rule → Operand → Operand → First Finding → Type 0
AsksInfix f s r a b g =
    s.used ≤ length (entries s) → (t u v : Ty) (cs : List Condition) → Is (entries s) s.used a.entry t → Is (entries s) s.used b.entry u
    → Form r a.place t b.place u v cs → Asks f cs g

-- the operand v against `number | string`
abbrev pub AsksEither : First Finding → Store → Operand → First Finding → Type 0
AsksEither f s v g = s.used ≤ length (entries s) → (t : Ty) → Is (entries s) s.used v.entry t → Asks f (fits v.place t number_or_string ∷ []) g

-- whether the operands a and b can be compared
abbrev pub AsksCompare : First Finding → Store → Operand → Operand → First Finding → Type 0
AsksCompare f s a b g =
    s.used ≤ length (entries s) → (t u : Ty) → Is (entries s) s.used a.entry t → Is (entries s) s.used b.entry u → Asks f (compares b.place t u ∷ []) g

-- whether the name at a place is bound, by what a register told
abbrev pub AsksBound : First Finding → ℕ → Option Told → First Finding → Type 0
AsksBound f place found g = (o : Option Binding) (room : List TypeEntry) → Tells o found room → Asks f (bound place o ∷ []) g

-- the same by what the register stands for
abbrev pub AsksName : First Finding → Meaning → ℕ → List ℕ → First Finding → Type 0
AsksName f Γ place name g = Asks f (bound place (Γ name) ∷ []) g

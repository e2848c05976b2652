-- What the functions that make the types of expressions say. No public contract cites it. Assumes nothing.
use Rattle.std.specs.Prelude.{◌≡◌, ℕ, List, length, Ok, Option, Result, ◌≢◌}
use Rattle.types.specs.declared.entries.TypeEntry.{TypeEntry}
use Rattle.types.specs.Values.{Decimal, Text}
use Rattle.types.specs.Types.{Ty, number_literal, string_literal, true_literal, false_literal, null}
use Rattle.types.specs.Table.{Is}
use Rattle.types.specs.declared.entries.Root.{Root}
use Rattle.building.specs.Forms.{InForm}
use Rattle.building.specs.Literals.{Numeral, SpelledString}
use Rattle.registers.specs.declared.told.Told.{Told}
use Rattle.registers.specs.Meaning.{Binding, Meaning}
use Rattle.registers.specs.Telling.{Tells}
use Rattle.parser.specs.declared.symbols.Leaf.{Leaf}
use Rattle.parser.specs.declared.symbols.Leaf.TheVariants.{Number, Text as AText, Name, True, False, Null}
use Rattle.parser.specs.declared.symbols.Prefix.{Prefix}
use Rattle.checker.specs.declared.rules.Rule.{Rule}
use Rattle.checker.specs.declared.store.Store.{Store}
use Rattle.checker.specs.declared.store.TooHeavy.{TooHeavy}
use Rattle.checker.specs.Conditions.{Condition}
use Rattle.checker.specs.Rules.{part, type_of, LeafRule, PrefixRule}
use Rattle.checker.specs.Forms.{Form}
use Rattle.checker.specs.Stores.{entries, Tabled, Ready}

abbrev pub MakesPrefix : Store → Prefix → Root → Type 0
MakesPrefix s op m = (ts : List Ty) (q : ℕ) (t u : Ty) (cs : List Condition) → Tabled s ts → PrefixRule q t op u cs → Ready s s u (Ok m)

abbrev pub MakesInfix : Store → Rule → TypeEntry → Store → Result Root TooHeavy → Type 0
MakesInfix s rule b r m =
    (ts : List Ty) (p q : ℕ) (t u v : Ty) (cs : List Condition) → Tabled s ts → Is (entries s) s.used b u → InForm u → Form rule p t q u v cs → Ready s r v m

abbrev pub MakesLiteral : Store → Leaf → List ℕ → Store → Result Root TooHeavy → Type 0
MakesLiteral s leaf text r m =
    (ts : List Ty) (sheet : List ℕ) (Γ : Meaning) (p n : ℕ) (t : Ty) (cs : List Condition) → Tabled s ts → text ≡ part sheet p n → (leaf ≢ Name)
    → LeafRule sheet Γ p n leaf t cs → Ready s r t m

abbrev pub MakesTold : Store → Option Told → List TypeEntry → Store → Result Root TooHeavy → Type 0
MakesTold s found room r m = (ts : List Ty) (o : Option Binding) → Tabled s ts → length room ≡ 128 → Tells o found room → Ready s r (type_of o) m

-- the same of a name, by what the register stands for
abbrev pub MakesName : Store → Meaning → List ℕ → Store → Result Root TooHeavy → Type 0
MakesName s Γ name r m = (ts : List Ty) → Tabled s ts → Ready s r (type_of (Γ name)) m

abbrev pub MakesNumber : Store → List ℕ → Result Root TooHeavy → Type 0
MakesNumber s text m = (ts : List Ty) (d : Decimal) → Tabled s ts → Numeral text d → Ready s s (number_literal d) m

-- the type of a token that is no name, by its text
abbrev pub LiteralForm : Leaf → List ℕ → Ty → Type 0
LiteralForm Number text t = (d : Decimal) × Numeral text d × (t ≡ number_literal d)
LiteralForm AText text t = (s : Text) × SpelledString text s × (t ≡ string_literal s)
LiteralForm Name text t = Unit {0}
LiteralForm True text t = t ≡ true_literal
LiteralForm False text t = t ≡ false_literal
LiteralForm Null text t = t ≡ null

-- No public contract cites it. What the check asks of entries of a tree table and of a type table. Assumes nothing.
use Rattle.std.specs.Prelude.{◌≡◌, ℕ, ◌≤◌, Bool, List, length, Option, Decides}
use Rattle.types.specs.declared.entries.TypeEntry.{TypeEntry}
use Rattle.types.specs.Types.{Ty, Meet}
use Rattle.types.specs.Table.{Is}
use Rattle.parser.specs.declared.tree.TreeEntry.{TreeEntry}
use Rattle.parser.specs.declared.tree.TreeEntry.TheVariants.{Statement}
use Rattle.checker.specs.Conditions.{Compare}
use Rattle.checker.specs.Rules.{number_or_string, Numeric, Textual}

-- the entry is a statement's
abbrev pub StatementEntry : TreeEntry → Type 0
StatementEntry e = (j : Option ℕ) × (k : ℕ) × (e ≡ Statement j k)

-- r says whether the type e, with its parts below n, has a number or a string among its values
abbrev pub SaysNumberOrString : List TypeEntry → ℕ → TypeEntry → Bool → Type 0
SaysNumberOrString es n e r = n ≤ length es → (s : Ty) → Is es n e s → Decides r (Meet s number_or_string)

-- r says whether the types a, with its parts below n, and b, with its parts below m, both meet the type e, which has no parts
abbrev pub SaysBothMeet : List TypeEntry → ℕ → TypeEntry → ℕ → TypeEntry → TypeEntry → Bool → Type 0
SaysBothMeet es n a m b e r = n ≤ length es → m ≤ length es → (s t u : Ty) → Is es n a s → Is es m b t → Is es 0 e u → Decides r (Meet s u × Meet t u)

-- r says whether the types a, with its parts below n, and b, with its parts below m, have values that can be compared
abbrev pub SaysCompare : List TypeEntry → ℕ → TypeEntry → ℕ → TypeEntry → Bool → Type 0
SaysCompare es n a m b r = n ≤ length es → m ≤ length es → (s t : Ty) → Is es n a s → Is es m b t → Decides r (Compare s t)

-- r says whether the type of the entry e is `number` or a number literal
abbrev pub SaysNumeric : TypeEntry → Bool → Type 0
SaysNumeric e r = (es : List TypeEntry) (n : ℕ) (s : Ty) → Is es n e s → Decides r (Numeric s)

-- r says whether the type of the entry e is `string` or a string literal
abbrev pub SaysTextual : TypeEntry → Bool → Type 0
SaysTextual e r = (es : List TypeEntry) (n : ℕ) (s : Ty) → Is es n e s → Decides r (Textual s)

-- The kinds of types, and what two kinds alone say of two types. Assumes nothing.
use Rattle.std.specs.Prelude.{◌≡◌, ℕ, Bool, false, cond, ◌&&◌, ◌||◌, List as Listing, [], ◌∷◌, get_or, Some, None, Option, ◌==◌, slice_index_or}
use Rattle.types.specs.declared.entries.TypeEntry.{TypeEntry}
use Rattle.types.specs.declared.entries.TypeEntry.TheVariants as entry
use Rattle.types.specs.declared.kinds.Kind.{Kind}
use Rattle.types.specs.declared.kinds.Kind.TheVariants.{Number, NumberLiteral, String, StringLiteral, Boolean, True, False, Undefined, Null, Function, Pair, List}
use Rattle.types.specs.declared.kinds.Row.{Row}
use Rattle.types.specs.declared.kinds.Verdict.{Verdict}
use Rattle.types.specs.declared.kinds.Verdict.TheVariants.{Meet, Never, ByParts}
use Rattle.types.specs.Values.{Decimal, Text, Value, a_number, a_string, the_true, the_false, the_undefined, the_null, a_function, a_pair}
use Rattle.types.specs.Types as types
use Rattle.types.specs.Types.{Ty, Types, number, number_literal, string, string_literal, boolean, true_literal, false_literal, undefined, null, function, pair, list}

infix 50 ◌isKind◌
-- the kind of a type; `any` and a union have none
pub data OfKind : Ty → Kind → Type 0 where
  number_kind : OfKind number Number
  number_literal_kind : {d : Decimal} → OfKind (number_literal d) NumberLiteral
  string_kind : OfKind string String
  string_literal_kind : {s : Text} → OfKind (string_literal s) StringLiteral
  boolean_kind : OfKind boolean Boolean
  true_kind : OfKind true_literal True
  false_kind : OfKind false_literal False
  undefined_kind : OfKind undefined Undefined
  null_kind : OfKind null Null
  function_kind : {ps : Types} {r : Ty} → OfKind (function ps r) Function
  pair_kind : {a b : Ty} → OfKind (pair a b) Pair
  list_kind : {t : Ty} → OfKind (list t) List

-- the same of an entry
abbrev pub entry_kind : TypeEntry → Option Kind
entry_kind entry.Unused = None
entry_kind entry.Any = None
entry_kind entry.Number = Some Number
entry_kind (entry.NumberLiteral digits exponent) = Some NumberLiteral
entry_kind entry.String = Some String
entry_kind (entry.StringLiteral first size) = Some StringLiteral
entry_kind (entry.CodeUnit u) = None
entry_kind entry.Boolean = Some Boolean
entry_kind entry.True = Some True
entry_kind entry.False = Some False
entry_kind entry.Undefined = Some Undefined
entry_kind entry.Null = Some Null
entry_kind (entry.Function first size) = Some Function
entry_kind (entry.Pair head tail) = Some Pair
entry_kind (entry.List element) = Some List
entry_kind (entry.Union first size) = None

abbrev pub rank : Kind → ℕ
rank Number = 0
rank NumberLiteral = 1
rank String = 2
rank StringLiteral = 3
rank Boolean = 4
rank True = 5
rank False = 6
rank Undefined = 7
rank Null = 8
rank Function = 9
rank Pair = 10
rank List = 11

abbrev pub ◌isKind◌ : Kind → Kind → Bool
◌isKind◌ a b = rank a == rank b

-- the classes of values
pub data Class : Type 0 where
  numbers strings trues falses undefineds nulls functions pairs : Class

abbrev pub class_of : Value → Class
class_of (a_number d) = numbers
class_of (a_string s) = strings
class_of the_true = trues
class_of the_false = falses
class_of the_undefined = undefineds
class_of the_null = nulls
class_of (a_function n) = functions
class_of (a_pair v w) = pairs

-- the kinds whose types have every value of a class
abbrev pub whole : Class → Kind → Bool
whole numbers k = k isKind Number
whole strings k = k isKind String
whole trues k = k isKind Boolean || k isKind True
whole falses k = k isKind Boolean || k isKind False
whole undefineds k = k isKind Undefined
whole nulls k = k isKind Null || k isKind List
whole functions k = false
whole pairs k = false

-- the kinds whose types have some values of a class, and which ones depends on the type
abbrev pub part : Class → Kind → Bool
part numbers k = k isKind NumberLiteral
part strings k = k isKind StringLiteral
part trues k = false
part falses k = false
part undefineds k = false
part nulls k = false
part functions k = k isKind Function
part pairs k = k isKind Pair || k isKind List

abbrev pub classes : Listing Class
classes = numbers ∷ strings ∷ trues ∷ falses ∷ undefineds ∷ nulls ∷ functions ∷ pairs ∷ []

abbrev pub some : (Class → Bool) → Listing Class → Bool
some f [] = false
some f (c ∷ cs) = f c || some f cs

abbrev pub has : Class → Kind → Bool
has c k = whole c k || part c k

-- in some class, one kind has every value and the other has some
abbrev pub sure : Kind → Kind → Bool
sure a b = some (λ c. (whole c a && has c b) || (has c a && whole c b)) classes

-- in some class, both have some values
abbrev pub unsure : Kind → Kind → Bool
unsure a b = some (λ c. part c a && part c b) classes

abbrev pub verdict : Kind → Kind → Verdict
verdict a b = cond (sure a b) Meet (cond (unsure a b) ByParts Never)

-- what a verdict on two kinds says of the types of these kinds
abbrev pub Says : Kind → Kind → Verdict → Type 0
Says a b Meet = (s t : Ty) → OfKind s a → OfKind t b → types.Meet s t
Says a b Never = (s t : Ty) → OfKind s a → OfKind t b → types.Meet s t → ⊥
Says a b ByParts =
    ((s t : Ty) × OfKind s a × OfKind t b × types.Meet s t)
    × ((s t : Ty) × OfKind s a × OfKind t b × (types.Meet s t → ⊥))

-- the cell in row m and column n of a table
abbrev pub cell_at : Listing Row → ℕ → ℕ → Verdict
cell_at rows m n = slice_index_or (get_or rows m (record { cells = [] })).cells n Meet

-- a table, its rows and columns in rank order, that has the verdict for each two kinds
unfoldable pub Right : Listing Row → Type 0
Right rows = (a b : Kind) → cell_at rows (rank a) (rank b) ≡ verdict a b

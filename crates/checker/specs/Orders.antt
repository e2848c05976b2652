-- Which entries of a type table are in order, and what `type_of` answers. Assumes nothing.
use Rattle.std.specs.Prelude.{◌≡◌, ℕ, suc, ◌+◌, ◌-◌, ◌<◌, ◌≤◌, List, length, Ok, Err, Result, slice_index_or}
use Rattle.lexer.specs.declared.reasons.Reason.TheVariants.{ShortTable, Damaged, NoExpression}
use Rattle.lexer.specs.declared.refusal.Refusal.{Refusal}
use Rattle.types.specs.declared.entries.TypeEntry.{TypeEntry}
use Rattle.types.specs.declared.entries.TypeEntry.TheVariants.{Unused, Any, Number, NumberLiteral, String, StringLiteral, CodeUnit, Boolean, True, False, Undefined, Null, Function, Pair, List as ListOf, Union}
use Rattle.types.specs.Types.{Ty, any}
use Rattle.types.specs.Table.{Is, entry_at, Holds}
use Rattle.checker.specs.declared.stage.Checked.{Checked}

-- a code unit
abbrev pub OfUnit : TypeEntry → Type 0
OfUnit e = (u : ℕ) × (e ≡ CodeUnit u)

-- a type: neither blank nor a code unit
pub record OfType (e : TypeEntry) : Type 0 where
  pub no_blank : e ≡ Unused → ⊥
  pub no_unit : OfUnit e → ⊥

-- size entries from first on are all such
abbrev pub Every : (TypeEntry → Type 0) → List TypeEntry → ℕ → ℕ → Type 0
Every P es first size = (k : ℕ) → k < size → P (entry_at es (first + k))

-- the entry is of a known kind, and its parts stand below i, and are of the kinds that can stand there
abbrev pub Orderly : List TypeEntry → ℕ → TypeEntry → Type 0
Orderly es i Unused = ⊥
Orderly es i Any = Unit {0}
Orderly es i Number = Unit {0}
Orderly es i (NumberLiteral digits exponent) = Unit {0}
Orderly es i String = Unit {0}
Orderly es i (StringLiteral first size) = (first + size ≤ i) × Every OfUnit es first size
Orderly es i (CodeUnit u) = Unit {0}
Orderly es i Boolean = Unit {0}
Orderly es i True = Unit {0}
Orderly es i False = Unit {0}
Orderly es i Undefined = Unit {0}
Orderly es i Null = Unit {0}
Orderly es i (Function first size) = (first + size < i) × Every OfType es first (suc size)
Orderly es i (Pair head tail) = (head < i) × (tail < i) × OfType (entry_at es head) × OfType (entry_at es tail)
Orderly es i (ListOf element) = (element < i) × OfType (entry_at es element)
Orderly es i (Union first size) = (first + size ≤ i) × Every OfType es first size

-- the first entries, which are parts of types, are in order
abbrev pub PartsInOrder : List TypeEntry → ℕ → Type 0
PartsInOrder es used = (i : ℕ) → i < used → Orderly es i (entry_at es i)

-- so are those of the expressions' types, whose parts are among the first entries, and each of these is a type
abbrev pub HeadsInOrder : List TypeEntry → ℕ → ℕ → Type 0
HeadsInOrder es used expressions = (k : ℕ) → k < expressions → Orderly es used (entry_at es (8191 - k)) × OfType (entry_at es (8191 - k))

-- the entries in use are in order
abbrev pub IsInOrder : List TypeEntry → ℕ → ℕ → Type 0
IsInOrder es used expressions = PartsInOrder es used × HeadsInOrder es used expressions

-- the table holds the types, that of number k at entry 8191 − k, and their parts are among the first entries, those in use
abbrev pub TypesHeld : List TypeEntry → ℕ → List Ty → Type 0
TypesHeld es used ts = (k : ℕ) → k < length ts → Is es used (entry_at es (8191 - k)) (slice_index_or ts k any)

-- why the type of an expression is not told: a table under its size; else no expression of this number; else an entry in
-- use that is not in order
pub data NotTold (es : List TypeEntry) (c : Checked) (number : ℕ) : Refusal → Type 0 where
  short_table : length es < 8192 → NotTold es c number (record { reason = ShortTable; place = 0 })
  no_expression : 8192 ≤ length es → c.expressions ≤ number → NotTold es c number (record { reason = NoExpression; place = 0 })
  damaged : 8192 ≤ length es → number < c.expressions → (IsInOrder es c.used c.expressions → ⊥) → NotTold es c number (record { reason = Damaged; place = 0 })

-- the entry of an expression's type
pub record ToldAt (es : List TypeEntry) (c : Checked) (number i : ℕ) : Type 0 where
  pub size : 8192 ≤ length es
  pub is_one : number < c.expressions
  pub in_order : IsInOrder es c.used c.expressions
  pub at : i ≡ 8191 - number
  -- in the table as the check left it, it holds that type
  pub holds : (ts : List Ty) → c.expressions ≡ length ts → c.used + c.expressions ≤ 8192 → TypesHeld es c.used ts → Holds es i (slice_index_or ts number any)

abbrev pub TypeTold : List TypeEntry → Checked → ℕ → Result ℕ Refusal → Type 0
TypeTold es c number (Ok i) = ToldAt es c number i
TypeTold es c number (Err e) = NotTold es c number e

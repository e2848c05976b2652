-- Which type an entry of the type table holds. Assumes nothing.
use Rattle.std.specs.Prelude.{◌≡◌, ℕ, suc, ◌+◌, ◌<◌, ◌≤◌, Bool, List, length, ℤ, Decides, slice_index, slice_index_or}
use Rattle.types.specs.declared.entries.TypeEntry.{TypeEntry}
use Rattle.types.specs.declared.entries.TypeEntry.TheVariants.{Unused, Any, Number, NumberLiteral, String, StringLiteral, CodeUnit, Boolean, True, False, Undefined, Null, Function, Pair, List as ListOf, Union}
use Rattle.types.specs.Values.{Decimal, Text}
use Rattle.types.specs.Types.{Ty, any, number, number_literal, string, string_literal, boolean, true_literal, false_literal, undefined, null, function, pair, list, union, Types, no_types, ◌and◌, Meet}

-- the entry at an index; past the end there is no type
abbrev pub entry_at : List TypeEntry → ℕ → TypeEntry
entry_at es i = slice_index_or es i Unused

-- the code units us stand in the table from an index on
abbrev pub UnitsAt : List TypeEntry → ℕ → List ℕ → Type 0
UnitsAt es first us = (k : ℕ) → k < length us → entry_at es (first + k) ≡ CodeUnit (slice_index us k)

mutual
  -- the entry e, whose parts stand in es below the index n, holds the type t
  pub data Is (es : List TypeEntry) : ℕ → TypeEntry → Ty → Type 0 where
    is_any : {n : ℕ} → Is es n Any any
    is_number : {n : ℕ} → Is es n Number number
    is_number_literal : {n digits : ℕ} {exponent : ℤ} {d : Decimal} → d.digits ≡ digits → d.exponent ≡ exponent → Is es n (NumberLiteral digits exponent) (number_literal d)
    is_string : {n : ℕ} → Is es n String string
    is_string_literal : {n first size : ℕ} {s : Text} → first + size ≤ n → length s.units ≡ size → UnitsAt es first s.units → Is es n (StringLiteral first size) (string_literal s)
    is_boolean : {n : ℕ} → Is es n Boolean boolean
    is_true : {n : ℕ} → Is es n True true_literal
    is_false : {n : ℕ} → Is es n False false_literal
    is_undefined : {n : ℕ} → Is es n Undefined undefined
    is_null : {n : ℕ} → Is es n Null null
    is_function : {n first size : ℕ} {ps : Types} {r : Ty} → first + size < n → Run es first size ps → Is es (first + size) (entry_at es (first + size)) r → Is es n (Function first size) (function ps r)
    is_pair : {n head tail : ℕ} {a b : Ty} → head < n → tail < n → Is es head (entry_at es head) a → Is es tail (entry_at es tail) b → Is es n (Pair head tail) (pair a b)
    is_list : {n element : ℕ} {t : Ty} → element < n → Is es element (entry_at es element) t → Is es n (ListOf element) (list t)
    is_union : {n first size : ℕ} {t : Ty} {ts : Types} → first + size ≤ n → Run es first size (t and ts) → Is es n (Union first size) (union t ts)

  -- the entries from first on, size of them, hold the types of a list
  pub data Run (es : List TypeEntry) : ℕ → ℕ → Types → Type 0 where
    run_end : {first : ℕ} → Run es first 0 no_types
    run_more : {first size : ℕ} {t : Ty} {ts : Types} → Is es first (entry_at es first) t → Run es (suc first) size ts → Run es first (suc size) (t and ts)

-- entry i of the table holds the type t
abbrev pub Holds : List TypeEntry → ℕ → Ty → Type 0
Holds es i t = Is es i (entry_at es i) t

-- an entry, whose parts stand below an index, holds at most one type
abbrev pub OneType : Type 0
OneType = (es : List TypeEntry) (n : ℕ) (e : TypeEntry) (s t : Ty) → Is es n e s → Is es n e t → s ≡ t

-- what an entry, whose parts stand below an index, holds rests on no entry from there on
abbrev pub LowerOnly : Type 0
LowerOnly = (es fs : List TypeEntry) (n : ℕ) (e : TypeEntry) (t : Ty) → ((k : ℕ) → k < n → entry_at es k ≡ entry_at fs k) → Is es n e t → Is fs n e t

-- r says whether the types a, with its parts below n, and b, with its parts below m, meet
abbrev pub SaysMeet : List TypeEntry → ℕ → TypeEntry → ℕ → TypeEntry → Bool → Type 0
SaysMeet es n a m b r = n ≤ length es → m ≤ length es → (s t : Ty) → Is es n a s → Is es m b t → Decides r (Meet s t)

-- r says whether two runs of code units within the table are the same
abbrev pub SaysSame : List TypeEntry → ℕ → ℕ → ℕ → Bool → Type 0
SaysSame es first other size r =
    (us vs : List ℕ) → length us ≡ size → length vs ≡ size → first + size ≤ length es → other + size ≤ length es → UnitsAt es first us → UnitsAt es other vs → Decides r (us ≡ vs)

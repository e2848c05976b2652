-- No public contract cites it. What the rows of the library's table stand for. Assumes nothing.
use Rattle.std.specs.Prelude.{◌≡◌, ℕ, suc, true, cond, nat_eq, nat_lt, List, [], ◌∷◌, length, map, Option}
use Rattle.std.specs.List.{AllByRecursion}
use Rattle.std.specs.Option.{option_map}
use Rattle.std.specs.Borrow.{Bor}
use Rattle.types.specs.declared.entries.TypeEntry.{TypeEntry}
use Rattle.types.specs.Types.{Ty, Types, any, number, string, boolean, undefined, function, no_types, ◌and◌}
use Rattle.registers.specs.declared.standing.Basic.{Basic}
use Rattle.registers.specs.declared.standing.Standing.{Standing}
use Rattle.registers.specs.Meaning.{Binding, typed, scheme, Line}

abbrev pub basic_type : Basic → Ty
basic_type Basic.Any = any
basic_type Basic.Number = number
basic_type Basic.String = string
basic_type Basic.Boolean = boolean
basic_type Basic.Undefined = undefined

abbrev pub basic_types : List Basic → Types
basic_types [] = no_types
basic_types (t ∷ ts) = basic_type t and basic_types ts

abbrev pub basic_entry : Basic → TypeEntry
basic_entry Basic.Any = TypeEntry.Any
basic_entry Basic.Number = TypeEntry.Number
basic_entry Basic.String = TypeEntry.String
basic_entry Basic.Boolean = TypeEntry.Boolean
basic_entry Basic.Undefined = TypeEntry.Undefined

abbrev pub binding_of : Standing → Binding
binding_of (Standing.Scheme s) = scheme s
binding_of (Standing.Plain t) = typed (basic_type t)
binding_of (Standing.Function ps r) = typed (function (basic_types ps.now) (basic_type r))

abbrev pub stands : Option Standing → Option Binding
stands = option_map binding_of

abbrev pub TableEntry : Type 0
TableEntry = Bor (List ℕ) × Standing

abbrev pub table_line : TableEntry → Line
table_line r = (r.0.now, binding_of r.1)

abbrev pub table_lines : List TableEntry → List Line
table_lines = map table_line

abbrev pub TableRow : Type 0
TableRow = Bor (List TableEntry)

-- the lines whose names have n bytes
abbrev pub of_length : ℕ → List Line → List Line
of_length n [] = []
of_length n (l ∷ ls) = cond (nat_eq (length l.0) n) (l ∷ of_length n ls) (of_length n ls)

-- the rows of a table have the lines of their lengths, from k bytes on, and no name is longer
abbrev pub Placed : List Line → ℕ → List TableRow → Type 0
Placed ls k [] = AllByRecursion (λ l. nat_lt (length l.0) k ≡ true) ls
Placed ls k (r ∷ rs) = (table_lines r.now ≡ of_length k ls) × Placed ls (suc k) rs

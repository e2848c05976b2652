-- Types in form. Assumes nothing.
use Rattle.std.specs.Prelude.{◌≤◌}
use Rattle.types.specs.Values.{Decimal, Text}
use Rattle.types.specs.Types.{Ty, Types, any, number, number_literal, string, string_literal, boolean, true_literal, false_literal, undefined, null, function, pair, list, union, no_types, ◌and◌, count}
use Rattle.building.specs.Unions.{UnionOf}

mutual
  -- every union in the type is the union of its own members, and every function type has at most eight parameters
  pub data InForm : Ty → Type 0 where
    form_any : InForm any
    form_number : InForm number
    form_number_literal : {d : Decimal} → InForm (number_literal d)
    form_string : InForm string
    form_string_literal : {s : Text} → InForm (string_literal s)
    form_boolean : InForm boolean
    form_true : InForm true_literal
    form_false : InForm false_literal
    form_undefined : InForm undefined
    form_null : InForm null
    form_function : {ps : Types} {r : Ty} → count ps ≤ 8 → AllInForm ps → InForm r → InForm (function ps r)
    form_pair : {a b : Ty} → InForm a → InForm b → InForm (pair a b)
    form_list : {t : Ty} → InForm t → InForm (list t)
    form_union : {t : Ty} {ts : Types} → AllInForm (t and ts) → UnionOf (t and ts) (union t ts) → InForm (union t ts)

  -- the same of each type of a list
  pub data AllInForm : Types → Type 0 where
    form_none : AllInForm no_types
    form_more : {t : Ty} {ts : Types} → InForm t → AllInForm ts → AllInForm (t and ts)

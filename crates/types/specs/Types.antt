-- The types, which values belong to each, and when two types meet. Assumes nothing.
use Rattle.std.specs.Prelude.{◌≡◌, ℕ, suc}
use Rattle.types.specs.Values.{Decimal, Text, Value, a_number, a_string, the_true, the_false, the_undefined, the_null, a_function, a_pair}

infixr 40 ◌and◌
mutual
  pub data Ty : Type 0 where
    any : Ty
    number : Ty
    number_literal : Decimal → Ty
    string : Ty
    string_literal : Text → Ty
    boolean : Ty
    true_literal : Ty
    false_literal : Ty
    undefined : Ty
    null : Ty
    function : Types → Ty → Ty  -- the parameters and the result
    pair : Ty → Ty → Ty
    list : Ty → Ty
    union : Ty → Types → Ty  -- the first member and the others

  pub data Types : Type 0 where
    no_types : Types
    ◌and◌ : Ty → Types → Types

abbrev pub count : Types → ℕ
count no_types = 0
count (t and ts) = suc (count ts)

mutual
  pub data Belongs : Value → Ty → Type 0 where
    in_any : {v : Value} → Belongs v any
    in_number : {d : Decimal} → Belongs (a_number d) number
    in_number_literal : {d : Decimal} → Belongs (a_number d) (number_literal d)
    in_string : {s : Text} → Belongs (a_string s) string
    in_string_literal : {s : Text} → Belongs (a_string s) (string_literal s)
    true_in_boolean : Belongs the_true boolean
    false_in_boolean : Belongs the_false boolean
    in_true : Belongs the_true true_literal
    in_false : Belongs the_false false_literal
    in_undefined : Belongs the_undefined undefined
    in_null : Belongs the_null null
    in_function : {n : ℕ} {ps : Types} {r : Ty} → count ps ≡ n → Belongs (a_function n) (function ps r)
    in_pair : {v w : Value} {a b : Ty} → Belongs v a → Belongs w b → Belongs (a_pair v w) (pair a b)
    null_in_list : {t : Ty} → Belongs the_null (list t)
    pair_in_list : {v w : Value} {t : Ty} → Belongs v t → Belongs w (list t) → Belongs (a_pair v w) (list t)
    in_union : {v : Value} {t : Ty} {ts : Types} → BelongsToSome v (t and ts) → Belongs v (union t ts)

  -- the value belongs to a type of the list
  pub data BelongsToSome : Value → Types → Type 0 where
    to_first : {v : Value} {t : Ty} {ts : Types} → Belongs v t → BelongsToSome v (t and ts)
    to_other : {v : Value} {t : Ty} {ts : Types} → BelongsToSome v ts → BelongsToSome v (t and ts)

-- some value belongs to both
abbrev pub Meet : Ty → Ty → Type 0
Meet s t = (v : Value) × Belongs v s × Belongs v t

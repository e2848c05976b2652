-- Every type has a value. Assumes nothing.
use Rattle.std.proofs.Common.{[], ◌∷◌, pos, refl}
use Rattle.types.specs.Values.{Value, Decimal, Text, a_number, a_string, the_true, the_false, the_undefined, the_null, a_function, a_pair}
use Rattle.types.specs.Types.{Ty, any, number, number_literal, string, string_literal, boolean, true_literal, false_literal, undefined, null, function, pair, list, union, count, Belongs, in_any, in_number, in_number_literal, in_string, in_string_literal, true_in_boolean, in_true, in_false, in_undefined, in_null, in_function, in_pair, null_in_list, in_union, to_first}

unfoldable pub one : Decimal
one = record { digits = 1; exponent = pos 0; is_canonical = refl }

unfoldable pub two : Decimal
two = record { digits = 2; exponent = pos 0; is_canonical = refl }

unfoldable pub empty : Text
empty = record { units = []; fit = refl }

unfoldable pub single : Text
single = record { units = 0 ∷ []; fit = refl }

pub inhabited : (t : Ty) → (v : Value) × Belongs v t
inhabited any = (the_null, in_any)
inhabited number = (a_number one, in_number)
inhabited (number_literal d) = (a_number d, in_number_literal)
inhabited string = (a_string empty, in_string)
inhabited (string_literal s) = (a_string s, in_string_literal)
inhabited boolean = (the_true, true_in_boolean)
inhabited true_literal = (the_true, in_true)
inhabited false_literal = (the_false, in_false)
inhabited undefined = (the_undefined, in_undefined)
inhabited null = (the_null, in_null)
inhabited (function ps r) = (a_function (count ps), in_function refl)
inhabited (pair a b) =
    let x = inhabited a in
    let y = inhabited b in
    (a_pair x.0 y.0, in_pair x.1 y.1)
inhabited (list t) = (the_null, null_in_list)
inhabited (union t ts) =
    let x = inhabited t in
    (x.0, in_union (to_first x.1))

-- The names of the library, and what each is bound to. Assumes nothing.
use Rattle.std.specs.Prelude.{List, [], ◌∷◌, codes}
use Rattle.types.specs.Types.{any, number, string, boolean, undefined, function, no_types, ◌and◌}
use Rattle.registers.specs.declared.told.Scheme.TheVariants.{Pair, Head, Tail, List as ListOf}
use Rattle.registers.specs.Meaning.{typed, scheme, Meaning, look_up, Row, lines_of}

abbrev pub library_rows : List Row
library_rows = (
  typed any,
  codes "display" ∷ codes "error" ∷ codes "math_max" ∷ codes "math_min" ∷ codes "draw_data" ∷
      codes "equal" ∷ codes "length" ∷ codes "map" ∷ codes "build_list" ∷ codes "for_each" ∷
      codes "list_to_string" ∷ codes "reverse" ∷ codes "append" ∷ codes "member" ∷ codes "remove" ∷
      codes "remove_all" ∷ codes "filter" ∷ codes "enum_list" ∷ codes "list_ref" ∷ codes "accumulate" ∷ [],
)
    ∷ (
      typed number,
      codes "Infinity" ∷ codes "NaN" ∷ codes "math_LOG2E" ∷ codes "math_LOG10E" ∷ codes "math_PI" ∷
          codes "math_SQRT1_2" ∷ codes "math_SQRT2" ∷ [],
    )
    ∷ (typed undefined, codes "undefined" ∷ [])
    ∷ (
      typed (function (any and no_types) boolean),
      codes "is_boolean" ∷ codes "is_function" ∷ codes "is_number" ∷ codes "is_string" ∷
          codes "is_undefined" ∷ codes "is_pair" ∷ codes "is_null" ∷ codes "is_list" ∷ [],
    )
    ∷ (
      typed (function (number and no_types) number),
      codes "math_abs" ∷ codes "math_acos" ∷ codes "math_acosh" ∷ codes "math_asin" ∷ codes "math_asinh" ∷
          codes "math_atan" ∷ codes "math_atanh" ∷ codes "math_cbrt" ∷ codes "math_ceil" ∷ codes "math_clz32" ∷
          codes "math_cos" ∷ codes "math_cosh" ∷ codes "math_exp" ∷ codes "math_expm1" ∷ codes "math_floor" ∷
          codes "math_fround" ∷ codes "math_LN2" ∷ codes "math_LN10" ∷ codes "math_log" ∷ codes "math_log1p" ∷
          codes "math_log2" ∷ codes "math_log10" ∷ codes "math_round" ∷ codes "math_sign" ∷ codes "math_sin" ∷
          codes "math_sinh" ∷ codes "math_sqrt" ∷ codes "math_tan" ∷ codes "math_tanh" ∷ codes "math_trunc" ∷ [],
    )
    ∷ (typed (function (number and number and no_types) number), codes "math_atan2" ∷ codes "math_imul" ∷ codes "math_pow" ∷ [])
    ∷ (typed (function (any and no_types) number), codes "math_hypot" ∷ [])
    ∷ (typed (function no_types number), codes "math_random" ∷ codes "get_time" ∷ [])
    ∷ (typed (function (string and number and no_types) number), codes "parse_int" ∷ [])
    ∷ (typed (function (string and no_types) string), codes "prompt" ∷ [])
    ∷ (typed (function (any and no_types) string), codes "stringify" ∷ [])
    ∷ (scheme Pair, codes "pair" ∷ [])
    ∷ (scheme Head, codes "head" ∷ [])
    ∷ (scheme Tail, codes "tail" ∷ [])
    ∷ (scheme ListOf, codes "list" ∷ [])
    ∷ []

abbrev pub library : Meaning
library = look_up (lines_of library_rows)

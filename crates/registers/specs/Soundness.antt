-- No public contract cites it. The empty register and the library have only bindings that a register may have. Assumes nothing.
use Rattle.std.specs.Prelude.{◌≡◌, ℕ, Bool, true, false, cond, T, List, [], ◌∷◌, ◌++◌, map, Some, Option, nat_le}
use Rattle.std.proofs.Common.{subst, arith, lit≤}
use Rattle.std.specs.Str.{bytes_eq}
use Rattle.types.specs.Types.{Ty, function, no_types, ◌and◌}
use Rattle.building.specs.Weights.{weight}
use Rattle.building.specs.Forms.{InForm, form_any, form_number, form_string, form_boolean, form_undefined, form_function, form_none, form_more}
use Rattle.registers.specs.declared.told.Scheme.{Scheme}
use Rattle.registers.specs.declared.told.Scheme.TheVariants.{Pair, Head, Tail, List as ListOf}
use Rattle.registers.specs.Meaning.{Name, Binding, typed, scheme, Line, look_up, Row, lines_of, Fit, Sound, nothing}
use Rattle.registers.specs.Library.{library_rows, library}

pub nothing_sound : Sound nothing
nothing_sound n b e = let z : ◌≡◌ {A = ℕ} 0 1 = cc in absurd (omega arith)

either : (t : Bool) (x b : Binding) (o : Option Binding) → Fit x → (o ≡ Some b → Fit b) → cond t (Some x) o ≡ Some b → Fit b
either true x b o f g e = let same : x ≡ b = cc in subst Fit same f
either false x b o f g e = g e

-- one row more
row_sound : (x : Binding) → Fit x → (ns : List Name) (ls : List Line) → Sound (look_up ls) → Sound (look_up (map (λ n. (n, x)) ns ++ ls))
row_sound x f [] ls h n b e = h n b e
row_sound x f (m ∷ ns) ls h n b e = either (bytes_eq m n) x b _ f (row_sound x f ns ls h n b) e

infixr 30 ◌also◌
data AllFit : List Row → Type 0 where
  no_more : AllFit []
  ◌also◌ : {r : Row} {rs : List Row} → Fit r.0 → AllFit rs → AllFit (r ∷ rs)

rows_sound : (rs : List Row) → AllFit rs → Sound (look_up (lines_of rs))
rows_sound [] no_more = nothing_sound
rows_sound (r ∷ rs) (f also h) = row_sound r.0 f r.1 (lines_of rs) (rows_sound rs h)

type_fits : {t : Ty} → InForm t → T (nat_le (weight t) 128) → Fit (typed t)
type_fits f w = record { light = lit≤ w; formed = f }

scheme_fits : (s : Scheme) → Fit (scheme s)
scheme_fits s = record { light = omega arith; formed = tt }

nullary : {r : Ty} → InForm r → InForm (function no_types r)
nullary = form_function (lit≤ tt) form_none

unary : {a r : Ty} → InForm a → InForm r → InForm (function (a and no_types) r)
unary f = form_function (lit≤ tt) (form_more f form_none)

binary : {a b r : Ty} → InForm a → InForm b → InForm r → InForm (function (a and b and no_types) r)
binary f g = form_function (lit≤ tt) (form_more f (form_more g form_none))

pub library_sound : Sound library
library_sound =
    rows_sound library_rows
    (
    type_fits form_any tt also
    type_fits form_number tt also
    type_fits form_undefined tt also
    type_fits (unary form_any form_boolean) tt also
    type_fits (unary form_number form_number) tt also
    type_fits (binary form_number form_number form_number) tt also
    type_fits (unary form_any form_number) tt also
    type_fits (nullary form_number) tt also
    type_fits (binary form_string form_number form_number) tt also
    type_fits (unary form_string form_string) tt also
    type_fits (unary form_any form_string) tt also
    scheme_fits Pair also
    scheme_fits Head also
    scheme_fits Tail also
    scheme_fits ListOf also
    no_more)

-- Function types of types without parts, written from the first entry on. Assumes nothing.
use Rattle.std.proofs.Common.{◌≡◌, ℕ, suc, ◌+◌, ◌<◌, ◌≤◌, List, [], ◌∷◌, length, get_or, sym, subst, refl, ap, ◌∙◌, set, add-zero, zero-add, below_more, arith}
use Rattle.std.proofs.lemmas.List.{get_or-set_same, get_or-set_other, get_or_default}
use Rattle.types.specs.declared.entries.Root.{Root}
use Rattle.types.specs.declared.entries.TypeEntry.{TypeEntry}
use Rattle.types.specs.declared.entries.TypeEntry.TheVariants.{Unused, Function}
use Rattle.types.specs.Types.{function}
use Rattle.types.specs.Table.{entry_at, Holds, Is, is_any, is_number, is_string, is_boolean, is_undefined, is_function, Run, run_end, run_more}
use Rattle.building.specs.Weights.{weights}
use Rattle.building.specs.Made.{a_type}
use Rattle.building.proofs.Closed.{some_weight}
use Rattle.building.proofs.Filled.{filled_none, filled_more, run_filled}
use Rattle.registers.specs.declared.standing.Basic.{Basic}
use Rattle.registers.specs.Standings.{basic_type, basic_types, basic_entry}
use Rattle.registers.specs.Meaning.{typed, Fit}
use Rattle.registers.specs.Telling.{MadeIn}

basic_is : (es : List TypeEntry) (n : ℕ) (t : Basic) → Is es n (basic_entry t) (basic_type t)
basic_is es n Basic.Any = is_any
basic_is es n Basic.Number = is_number
basic_is es n Basic.String = is_string
basic_is es n Basic.Boolean = is_boolean
basic_is es n Basic.Undefined = is_undefined

-- the entry was made of the type
entry_is : (es : List TypeEntry) (n : ℕ) (t : Basic) (e : TypeEntry) → e ≡ basic_entry t → Is es n e (basic_type t)
entry_is es n t e h = subst (λ y. Is es n y (basic_type t)) (sym h) (basic_is es n t)

pub plain_made : (es : List TypeEntry) (t : Basic) (m : Root) → m ≡ record { entry = basic_entry t; used = 0 } → MadeIn es (basic_type t) m
plain_made es t m h =
    subst (MadeIn es (basic_type t)) (sym h)
    (record { holds = basic_is es 0 t; within = omega arith; light = some_weight (basic_type t); filled = filled_none es 0 })

-- the first n entries were made of the first n parameters
abbrev pub ParametersAt : List TypeEntry → List Basic → ℕ → Type 0
ParametersAt es ps n = (k : ℕ) → k < n → (d : Basic) → entry_at es k ≡ basic_entry (get_or ps k d)

pub parameters_more : (es : List TypeEntry) (ps : List Basic) (i : ℕ) (e : TypeEntry) → ParametersAt es ps i → e ≡ basic_entry (get_or ps i Basic.Any) → i < length ps → i < length es → ParametersAt (set es i e) ps (i + 1)
parameters_more es ps i e h is low room =
    below_more (λ k. (d : Basic) → entry_at (set es i e) k ≡ basic_entry (get_or ps k d)) i
    (λ k l d. get_or-set_other es i k e Unused (omega arith) ∙ h k l d)
    (λ d. get_or-set_same es i e Unused room ∙ is ∙ ap basic_entry (get_or_default ps i Basic.Any d low))

-- entries that were made of types are a run of them
run_of : (es : List TypeEntry) (first : ℕ) (ts : List Basic) → ((k : ℕ) → k < length ts → (d : Basic) → entry_at es (first + k) ≡ basic_entry (get_or ts k d)) → Run es first (length ts) (basic_types ts)
run_of es first [] h = run_end
run_of es first (t ∷ ts) h =
    run_more (entry_is es first t _ (ap (entry_at es) (sym (add-zero first)) ∙ h 0 (omega arith) t))
    (run_of es (suc first) ts (λ k l d. ap (entry_at es) (omega arith) ∙ h (suc k) (omega arith) d))

weigh_all : (ts : List Basic) → length ts ≤ weights (basic_types ts)
weigh_all [] = omega arith
weigh_all (t ∷ ts) = omega (arith, weigh_all ts, some_weight (basic_type t))

-- the parameters stand first, and then the result
pub function_made : (es : List TypeEntry) (ps : List Basic) (r : Basic) → ParametersAt es ps (length ps) → entry_at es (length ps) ≡ basic_entry r → length ps < 128 →
    MadeIn es (function (basic_types ps) (basic_type r)) (record { entry = Function 0 (length ps); used = length ps + 1 })
function_made es ps r h last room =
    let n = length ps in
    let run : Run es 0 n (basic_types ps) = run_of es 0 ps (λ k l d. ap (entry_at es) (zero-add k) ∙ h k l d) in
    let result : Holds es n (basic_type r) = entry_is es n r _ last in
    record {
      holds = is_function (omega arith) run (subst (λ k. Holds es k (basic_type r)) (sym (zero-add n)) result);
      within = omega arith;
      light = omega (arith, weigh_all ps, some_weight (basic_type r));
      filled = filled_more 0 n refl (λ j le lt. run_filled run j le (omega arith)) (a_type result);
    }

pub few_parameters : (ps : List Basic) (r : Basic) → Fit (typed (function (basic_types ps) (basic_type r))) → length ps < 128
few_parameters ps r h = omega (arith, h.light, weigh_all ps, some_weight (basic_type r))

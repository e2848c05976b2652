-- An entry holds at most one type. Assumes nothing.
use Rattle.std.proofs.Common.{◌≡◌, ℕ, List, sym, refl, ap, ◌∙◌, ap₂}
use Rattle.types.specs.declared.entries.TypeEntry.{TypeEntry}
use Rattle.types.specs.Types.{Ty, Types, number_literal, string_literal, function, pair, list, union, ◌and◌}
use Rattle.types.specs.Table.{Is, is_any, is_number, is_number_literal, is_string, is_string_literal, is_boolean, is_true, is_false, is_undefined, is_null, is_function, is_pair, is_list, is_union, Run, run_end, run_more, OneType}
use Rattle.types.proofs.Parts.{same_decimal, same_text, units_agree}

-- the first member and the others of a list that has some
first_one : {t u : Ty} {ts us : Types} → (t and ts) ≡ (u and us) → union t ts ≡ union u us
first_one p = cc

mutual
  pub is_one : {es : List TypeEntry} {n : ℕ} {e : TypeEntry} {s t : Ty} → Is es n e s → Is es n e t → s ≡ t
  is_one is_any is_any = refl
  is_one is_number is_number = refl
  is_one (is_number_literal {d = x} p q) (is_number_literal {d = y} u v) = ap number_literal (same_decimal x y (p ∙ sym u) (q ∙ sym v))
  is_one is_string is_string = refl
  is_one {es} (is_string_literal {first} {s = x} low p u) (is_string_literal {s = y} low' q v) = ap string_literal (same_text x y (units_agree es first _ _ (p ∙ sym q) u v))
  is_one is_boolean is_boolean = refl
  is_one is_true is_true = refl
  is_one is_false is_false = refl
  is_one is_undefined is_undefined = refl
  is_one is_null is_null = refl
  is_one (is_function low r x) (is_function low' r' y) = ap₂ function (run_one r r') (is_one x y)
  is_one (is_pair low low' x y) (is_pair low'' low''' z w) = ap₂ pair (is_one x z) (is_one y w)
  is_one (is_list low x) (is_list low' y) = ap list (is_one x y)
  is_one (is_union low r) (is_union low' r') = first_one (run_one r r')

  pub run_one : {es : List TypeEntry} {first size : ℕ} {ts us : Types} → Run es first size ts → Run es first size us → ts ≡ us
  run_one run_end run_end = refl
  run_one (run_more x r) (run_more y r') = ap₂ ◌and◌ (is_one x y) (run_one r r')

pub one_type : OneType
one_type es n e s t = is_one

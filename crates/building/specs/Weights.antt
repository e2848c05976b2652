-- The weight of a type. Assumes nothing.
use Rattle.std.specs.Prelude.{ℕ, ◌+◌, length}
use Rattle.types.specs.Types.{Ty, Types, any, number, number_literal, string, string_literal, boolean, true_literal, false_literal, undefined, null, function, pair, list, union, no_types, ◌and◌}

abbrev mutual
  pub weight : Ty → ℕ
  weight any = 1
  weight number = 1
  weight (number_literal d) = 1
  weight string = 1
  weight (string_literal s) = 1 + length s.units
  weight boolean = 1
  weight true_literal = 1
  weight false_literal = 1
  weight undefined = 1
  weight null = 1
  weight (function ps r) = 1 + (weights ps + weight r)
  weight (pair a b) = 1 + (weight a + weight b)
  weight (list t) = 1 + weight t
  weight (union t ts) = 1 + (weight t + weights ts)

  pub weights : Types → ℕ
  weights no_types = 0
  weights (t and ts) = weight t + weights ts

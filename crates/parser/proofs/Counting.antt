-- How many entries a program takes, as it grows. Assumes nothing.
use Rattle.std.proofs.Common.{◌≡◌, suc, ◌+◌, List, [], ◌∷◌, ◌++◌, arith}
use Rattle.parser.specs.Syntax.{Expr, size, sizes}
use Rattle.parser.specs.Machine.{Right, right_infix, right_prefix, otherwise, built, Part, right}
use Rattle.parser.specs.Holds.{spent}

-- a statement takes one entry more than its expression
pub sizes_more : (b : List Expr) (e : Expr) → sizes (b ++ e ∷ []) ≡ sizes b + suc (size e)
sizes_more [] e = omega arith
sizes_more (a ∷ b) e = omega (arith, sizes_more b e)

-- and an expression one more than its parts
pub built_size : (r : Right) (ps : List Part) (e : Expr) → spent ps + size (built r e) ≡ suc (spent (right r ∷ ps) + size e)
built_size (right_infix op a) ps e = omega arith
built_size (right_prefix op p) ps e = omega arith
built_size (otherwise a b) ps e = omega arith

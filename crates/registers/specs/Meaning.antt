-- What a register means: its names, and what each is bound to. Assumes nothing.
use Rattle.std.specs.Prelude.{◌≡◌, ℕ, ◌≤◌, cond, List, [], ◌∷◌, ◌++◌, map, Some, None, Option}
use Rattle.std.specs.Str.{bytes_eq}
use Rattle.types.specs.Types.{Ty}
use Rattle.building.specs.Forms.{InForm}
use Rattle.building.specs.Weights.{weight}
use Rattle.registers.specs.declared.told.Scheme.{Scheme}

abbrev pub Name : Type 0
Name = List ℕ

-- what a name is bound to
pub data Binding : Type 0 where
  typed : Ty → Binding
  scheme : Scheme → Binding

-- a partial function from names to bindings
abbrev pub Meaning : Type 0
Meaning = Name → Option Binding

-- no name is bound
abbrev pub nothing : Meaning
nothing n = None

-- a name with its binding
abbrev pub Line : Type 0
Line = Name × Binding

-- the binding of the first line that has the name
abbrev pub look_up : List Line → Meaning
look_up [] n = None
look_up (l ∷ ls) n = cond (bytes_eq l.0 n) (Some l.1) (look_up ls n)

-- a binding with all the names that have it
abbrev pub Row : Type 0
Row = Binding × List Name

abbrev pub lines_of : List Row → List Line
lines_of [] = []
lines_of (r ∷ rs) = map (λ n. (n, r.0)) r.1 ++ lines_of rs

abbrev pub weight_of : Binding → ℕ
weight_of (typed t) = weight t
weight_of (scheme s) = 1

-- a type that is bound is in form
abbrev pub Formed : Binding → Type 0
Formed (typed t) = InForm t
Formed (scheme s) = Unit {0}

-- a binding that a register may have
pub record Fit (b : Binding) : Type 0 where
  pub light : weight_of b ≤ 128
  pub formed : Formed b

-- every binding is one that a register may have
abbrev pub Sound : Meaning → Type 0
Sound f = (n : Name) (b : Binding) → f n ≡ Some b → Fit b

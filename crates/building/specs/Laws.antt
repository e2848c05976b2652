-- What holds of unions and parts. Assumes nothing.
use Rattle.std.specs.Prelude.{◌≡◌, ◌⊎◌}
use Rattle.types.specs.Values.{Value}
use Rattle.types.specs.Types.{Ty, Types, ◌and◌, Belongs, BelongsToSome}
use Rattle.building.specs.Unions.{UnionOf}
use Rattle.building.specs.Forms.{InForm, AllInForm}
use Rattle.building.specs.declared.parts.Side.{Side}
use Rattle.building.specs.HeadsAndTails.{PartOf}

-- some types have at most one union
abbrev pub OneUnion : Type 0
OneUnion = (ts : Types) (t u : Ty) → UnionOf ts t → UnionOf ts u → t ≡ u

-- types in form have a union, and it is in form
abbrev pub UnionExists : Type 0
UnionExists = (t : Ty) (ts : Types) → AllInForm (t and ts) → (u : Ty) × UnionOf (t and ts) u × InForm u

-- a union has the values of its members together
abbrev pub UnionOfValues : Type 0
UnionOfValues = (ts : Types) (t : Ty) (v : Value) → UnionOf ts t → ((Belongs v t → BelongsToSome v ts) × (BelongsToSome v ts → Belongs v t))

-- a type has at most one part on a side
abbrev pub OnePart : Type 0
OnePart = (s : Side) (t p q : Ty) → PartOf s t p → PartOf s t q → p ≡ q

-- the type has a part on a side, which is in form, or none
abbrev pub PartOrLack : Side → Ty → Type 0
PartOrLack s t = ((p : Ty) × PartOf s t p × InForm p) ⊎ ((p : Ty) → PartOf s t p → ⊥)

-- so it is with every type in form
abbrev pub PartTold : Type 0
PartTold = (s : Side) (t : Ty) → InForm t → PartOrLack s t

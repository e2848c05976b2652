-- The union of a list of types, in its one form. Assumes nothing.
use Rattle.std.specs.Prelude.{◌≡◌, ◌<◌, ◌⊎◌, ◌≢◌}
use Rattle.types.specs.declared.kinds.Kind.{Kind}
use Rattle.types.specs.Types.{Ty, Types, any, union, no_types, ◌and◌}
use Rattle.types.specs.Kinds.{OfKind, rank}

infixr 40 ◌then◌
abbrev pub ◌then◌ : Types → Types → Types
◌then◌ no_types us = us
◌then◌ (t and ts) us = t and (ts then us)

-- the types ts bring the types of the second list to a union, in this order: a union brings its members, any other type itself
pub data Brings : Types → Types → Type 0 where
  brings_none : Brings no_types no_types
  brings_any : {ts xs : Types} → Brings ts xs → Brings (any and ts) (any and xs)
  brings_itself : {t : Ty} {k : Kind} {ts xs : Types} → OfKind t k → Brings ts xs → Brings (t and ts) (t and xs)
  brings_members : {t : Ty} {us ts xs ys : Types} → Brings (t and us) xs → Brings ts ys → Brings (union t us and ts) (xs then ys)

-- the type is one of the list
pub data In : Ty → Types → Type 0 where
  in_first : {t : Ty} {ts : Types} → In t (t and ts)
  in_other : {t u : Ty} {ts : Types} → In t ts → In t (u and ts)

-- of two different types in a list, the first one arrives before the second one does
pub data ArrivesBefore : Ty → Ty → Types → Type 0 where
  arrives : {t u : Ty} {ts : Types} → (t ≢ u) → In u ts → ArrivesBefore t u (t and ts)
  arrives_later : {s t u : Ty} {ts : Types} → (s ≢ u) → ArrivesBefore t u ts → ArrivesBefore t u (s and ts)

-- by rank of kind, and then by first arrival
abbrev pub Precedes : Types → Ty → Ty → Type 0
Precedes xs t u = (j k : Kind) × OfKind t j × OfKind u k × ((rank j < rank k) ⊎ ((j ≡ k) × ArrivesBefore t u xs))

-- each type of the list precedes all that follow it; so none is repeated
pub data InOrder (xs : Types) : Types → Type 0 where
  order_none : InOrder xs no_types
  order_more : {t : Ty} {ts : Types} → ((u : Ty) → In u ts → Precedes xs t u) → InOrder xs ts → InOrder xs (t and ts)

-- the list has the types that arrived, each once, by rank and then by first arrival
pub record Members (xs ms : Types) : Type 0 where
  pub all : (t : Ty) → In t xs → In t ms
  pub only : (t : Ty) → In t ms → In t xs
  pub in_order : InOrder xs ms

-- the union of the types ts is the type
pub data UnionOf (ts : Types) : Ty → Type 0 where
  union_any : {xs : Types} → Brings ts xs → In any xs → UnionOf ts any
  union_one : {xs : Types} {t : Ty} → Brings ts xs → Members xs (t and no_types) → UnionOf ts t
  union_more : {xs : Types} {t u : Ty} {us : Types} → Brings ts xs → Members xs (t and u and us) → UnionOf ts (union t (u and us))

-- The head part and the tail part of a type. Assumes nothing.
use Rattle.types.specs.Types.{Ty, Types, any, pair, list, union, no_types, ◌and◌}
use Rattle.building.specs.declared.parts.Side.{Side}
use Rattle.building.specs.declared.parts.Side.TheVariants.{Head, Tail}
use Rattle.building.specs.Unions.{UnionOf}

-- the part on a side of a type that is no union
pub data OwnPart : Side → Ty → Ty → Type 0 where
  of_any : {s : Side} → OwnPart s any any
  head_of_pair : {a b : Ty} → OwnPart Head (pair a b) a
  tail_of_pair : {a b : Ty} → OwnPart Tail (pair a b) b
  head_of_list : {t : Ty} → OwnPart Head (list t) t
  tail_of_list : {t : Ty} → OwnPart Tail (list t) (list t)

-- the parts of those types that have one
pub data OwnParts (s : Side) : Types → Types → Type 0 where
  parts_none : OwnParts s no_types no_types
  parts_more : {t p : Ty} {ts ps : Types} → OwnPart s t p → OwnParts s ts ps → OwnParts s (t and ts) (p and ps)
  parts_without : {t : Ty} {ts ps : Types} → ((p : Ty) → OwnPart s t p → ⊥) → OwnParts s ts ps → OwnParts s (t and ts) ps

-- the part on a side of a type whose unions are in form
pub data PartOf (s : Side) : Ty → Ty → Type 0 where
  part_own : {t p : Ty} → OwnPart s t p → PartOf s t p
  part_union : {t p : Ty} {ts ps : Types} → OwnParts s (t and ts) ps → UnionOf ps p → PartOf s (union t ts) p

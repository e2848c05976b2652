-- A union has the values of its members together. Assumes nothing.
use Rattle.std.proofs.Common.{◌⊎◌, inl, inr, ⊎_elim}
use Rattle.types.specs.Values.{Value}
use Rattle.types.specs.Types.{Ty, Types, union, no_types, ◌and◌, Belongs, in_any, in_union, BelongsToSome, to_first, to_other}
use Rattle.building.specs.Unions.{◌then◌, Brings, brings_none, brings_any, brings_itself, brings_members, In, in_first, in_other, Members, UnionOf, union_any, union_one, union_more}
use Rattle.building.specs.Laws.{UnionOfValues}

-- a value of some type of a list belongs to a type in it
which : {v : Value} {ts : Types} → BelongsToSome v ts → (t : Ty) × In t ts × Belongs v t
which (to_first {t} b) = (t, in_first, b)
which (to_other s) = let w = which s in (w.0, in_other w.1, w.2)

some_of : {v : Value} {t : Ty} {ts : Types} → In t ts → Belongs v t → BelongsToSome v ts
some_of in_first b = to_first b
some_of (in_other i) b = to_other (some_of i b)

in_front : {v : Value} {ts : Types} (us : Types) → BelongsToSome v ts → BelongsToSome v (ts then us)
in_front us (to_first b) = to_first b
in_front us (to_other s) = to_other (in_front us s)

behind : {v : Value} {us : Types} (ts : Types) → BelongsToSome v us → BelongsToSome v (ts then us)
behind no_types s = s
behind (t and ts) s = to_other (behind ts s)

either_way : {v : Value} {us : Types} (ts : Types) → BelongsToSome v (ts then us) → BelongsToSome v ts ⊎ BelongsToSome v us
either_way no_types s = inr s
either_way (t and ts) (to_first b) = inl (to_first b)
either_way (t and ts) (to_other s) = ⊎_elim (λ x. inl (to_other x)) (λ x. inr x) (either_way ts s)

opened : {v : Value} {t : Ty} {ts : Types} → Belongs v (union t ts) → BelongsToSome v (t and ts)
opened (in_union s) = s

brought : {v : Value} {ts xs : Types} → Brings ts xs → BelongsToSome v ts → BelongsToSome v xs
brought brings_none s = elim s [ ]
brought (brings_any b) (to_first x) = to_first x
brought (brings_any b) (to_other s) = to_other (brought b s)
brought (brings_itself k b) (to_first x) = to_first x
brought (brings_itself k b) (to_other s) = to_other (brought b s)
brought (brings_members {ys} b c) (to_first x) = in_front ys (brought b (opened x))
brought (brings_members {xs} b c) (to_other s) = behind xs (brought c s)

from : {v : Value} {ts xs : Types} → Brings ts xs → BelongsToSome v xs → BelongsToSome v ts
from brings_none s = elim s [ ]
from (brings_any b) (to_first x) = to_first x
from (brings_any b) (to_other s) = to_other (from b s)
from (brings_itself k b) (to_first x) = to_first x
from (brings_itself k b) (to_other s) = to_other (from b s)
from (brings_members {xs} b c) s = ⊎_elim (λ x. to_first (in_union (from b x))) (λ x. to_other (from c x)) (either_way xs s)

to_members : {v : Value} {xs ms : Types} → Members xs ms → BelongsToSome v xs → BelongsToSome v ms
to_members m s = let w = which s in some_of (m.all w.0 w.1) w.2

from_members : {v : Value} {xs ms : Types} → Members xs ms → BelongsToSome v ms → BelongsToSome v xs
from_members m s = let w = which s in some_of (m.only w.0 w.1) w.2

only_one : {v : Value} {t : Ty} → BelongsToSome v (t and no_types) → Belongs v t
only_one (to_first b) = b
only_one (to_other s) = elim s [ ]

joins : {ts : Types} {t : Ty} {v : Value} → UnionOf ts t → ((Belongs v t → BelongsToSome v ts) × (BelongsToSome v ts → Belongs v t))
joins (union_any b i) = (λ x. from b (some_of i x), λ s. in_any)
joins (union_one b m) = (λ x. from b (from_members m (to_first x)), λ s. only_one (to_members m (brought b s)))
joins (union_more b m) = (λ x. from b (from_members m (opened x)), λ s. in_union (to_members m (brought b s)))

pub union_of_values : UnionOfValues
union_of_values ts t v = joins

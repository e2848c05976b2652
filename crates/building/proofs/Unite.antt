-- Types in form have a union. Assumes nothing.
use Rattle.std.proofs.Common.{ℕ, suc, ◌⊎◌, sym, subst, inl, inr, ⊎_elim, arith}
use Rattle.std.proofs.lemmas.Bool.{cases_lt}
use Rattle.types.specs.declared.kinds.Kind.{Kind}
use Rattle.types.specs.Types.{Ty, Types, any, no_types, ◌and◌, count}
use Rattle.types.specs.Kinds.{OfKind, rank}
use Rattle.building.specs.Unions.{◌then◌, Brings, brings_none, In, in_first, in_other, InOrder, order_none, Members, UnionOf, union_any, union_one, union_more}
use Rattle.building.specs.Forms.{AllInForm, form_none, form_more}
use Rattle.building.specs.Entries.{Flat, flat_any, flat_one, flat_members}
use Rattle.building.specs.Laws.{UnionExists}
use Rattle.building.specs.Made.{Needs, needs_none, needs_members}
use Rattle.building.proofs.OneUnion.{any_no_kind, first_or_other, precedes_all, rest_in_order}
use Rattle.building.proofs.InOneForm.{Kinds, front_or_end, the_only, flat_of, flat_brings, some_arrive, union_in_form}
use Rattle.building.proofs.OneMore.{in_front, at_end, Put, put_here, put_later, put_members, put_only, again, no_lower}
use Rattle.building.proofs.AllMembers.{then_assoc, then_none}
use Rattle.building.proofs.Told.{in_told}

-- the place of a type of a kind among members in order
place : {xs : Types} (t : Ty) (k : Kind) (ms : Types) → InOrder xs ms → Kinds ms → (p : ℕ) × (ns : Types) × Put t k p ms ns
place t k no_types o kinds = (0, t and no_types, put_here (λ u i. elim i [ ]))
place t k (m and ms) o kinds =
    let j = kinds m in_first in
    ⊎_elim
    (λ lt. (0, t and m and ms, put_here (λ u q. ⊎_elim (λ f. (j.0, subst (λ y. OfKind y j.0) (sym f) j.1, lt)) (λ r. let z = no_lower j.1 (precedes_all o r) in (z.0, z.1, let g = z.2 in omega arith)) (first_or_other q))))
    (λ le. let r = place t k ms (rest_in_order o) (λ u i. kinds u (in_other i)) in (suc r.0, m and r.1, put_later j.1 le r.2))
    (cases_lt (rank k) (rank j.0))

-- the members of the types that arrived
pub record Gathered (xs : Types) : Type 0 where
  pub members : Types
  pub are_members : Members xs members
  pub of_kinds : Kinds members

one_more : {xs : Types} (t : Ty) (k : Kind) → OfKind t k → Gathered xs → Gathered (xs then (t and no_types))
one_more t k tk g =
    ⊎_elim
    (λ i. record { members = g.members; are_members = again i g.are_members; of_kinds = g.of_kinds })
    (λ new.
    let q = place t k g.members g.are_members.in_order g.of_kinds in
    record { members = q.1; are_members = put_members tk new g.are_members q.2; of_kinds = λ u i. ⊎_elim (λ e. (k, subst (λ x. OfKind x k) (sym e) tk)) (λ j. g.of_kinds u j) (put_only q.2 i) })
    (in_told t g.members)

gather : (left done : Types) → Kinds left → Gathered done → Gathered (done then left)
gather no_types done kinds g = subst (λ x. Gathered x) (sym (then_none done)) g
gather (t and left) done kinds g =
    let k = kinds t in_first in
    subst (λ x. Gathered x) (then_assoc done (t and no_types) left) (gather left (done then (t and no_types)) (λ u i. kinds u (in_other i)) (one_more t k.0 k.1 g))

none_yet : Gathered no_types
none_yet = record {
  members = no_types;
  are_members = record { all = λ t i. i; only = λ t i. i; in_order = order_none };
  of_kinds = λ u i. elim i [ ];
}

-- `any` arrives, or types of kinds only
flat_kinds : {t : Ty} {xs : Types} → Flat t xs → In any xs ⊎ Kinds xs
flat_kinds flat_any = inl in_first
flat_kinds (flat_one {k} tk) = inr (λ u i. (k, subst (λ x. OfKind x k) (sym (the_only i)) tk))
flat_kinds (flat_members kinds) = inr kinds

pub arrive : {ts : Types} → AllInForm ts → (xs : Types) × Brings ts xs × (In any xs ⊎ Kinds xs)
arrive form_none = (no_types, brings_none, inr (λ u i. elim i [ ]))
arrive (form_more f fs) =
    let x = flat_of f in
    let r = arrive fs in (
      x.0 then r.0,
      flat_brings x.1 r.1,
      ⊎_elim
          (λ i. inl (in_front r.0 i))
          (λ ks. ⊎_elim (λ i. inl (at_end x.0 i)) (λ ls. inr (λ u i. ⊎_elim (λ j. ks u j) (λ j. ls u j) (front_or_end x.0 i))) r.2)
          (flat_kinds x.1),
    )

closed : {ts xs : Types} {u : Ty} → Brings ts xs → In u xs → (ms : Types) → Members xs ms → (t : Ty) × UnionOf ts t
closed b i no_types m = absurd (elim (m.all _ i) [ ])
closed b i (t and no_types) m = (t, union_one b m)
closed b i (t and u and us) m = (_, union_more b m)

united : {ts xs : Types} → Brings ts xs → (In any xs ⊎ Kinds xs) → ((u : Ty) × In u xs) → (t : Ty) × UnionOf ts t
united {xs} b k some =
    ⊎_elim
    (λ i. (any, union_any b i))
    (λ ks. let g = gather xs no_types ks none_yet in closed b some.1 g.members g.are_members)
    k

pub union_exists : UnionExists
unfolding arrive
union_exists t ts (form_more f fs) =
    let r = arrive fs in
    let x = flat_of f in
    let a = arrive (form_more f fs) in
    let i = some_arrive x.1 in
    let u = united a.1 a.2 (i.0, in_front r.0 i.1) in
    (u.0, u.1, union_in_form (form_more f fs) u.1)

-- how many free entries their union needs
pub needed : {ts : Types} → AllInForm ts → (n : ℕ) × Needs ts n
needed fs =
    let a = arrive fs in
    ⊎_elim
    (λ i. (0, needs_none a.1 i))
    (λ ks. let g = gather a.0 no_types ks none_yet in (count g.members, needs_members a.1 (λ i. any_no_kind (ks any i).1) g.are_members))
    a.2

-- Some types have one union, and a type has one part on a side. Assumes nothing.
use Rattle.std.proofs.Common.{◌≡◌, ℕ, ◌⊎◌, sym, refl, ap, ◌∙◌, subst, ap₂, inl, inr, ⊎_elim, arith}
use Rattle.types.specs.declared.kinds.Kind.{Kind}
use Rattle.types.specs.Types.{Ty, Types, any, union, no_types, ◌and◌}
use Rattle.types.specs.Kinds.{OfKind, number_kind, number_literal_kind, string_kind, string_literal_kind, boolean_kind, true_kind, false_kind, undefined_kind, null_kind, function_kind, pair_kind, list_kind, rank}
use Rattle.building.specs.Unions.{◌then◌, Brings, brings_none, brings_any, brings_itself, brings_members, In, in_first, in_other, ArrivesBefore, arrives, arrives_later, Precedes, InOrder, order_more, Members, UnionOf, union_any, union_one, union_more}
use Rattle.building.specs.declared.parts.Side.{Side}
use Rattle.building.specs.HeadsAndTails.{OwnPart, of_any, head_of_pair, tail_of_pair, head_of_list, tail_of_list, OwnParts, parts_none, parts_more, parts_without, PartOf, part_own, part_union}
use Rattle.building.specs.Laws.{OneUnion, OnePart}

pub one_kind : {t : Ty} {j k : Kind} → OfKind t j → OfKind t k → j ≡ k
one_kind number_kind number_kind = refl
one_kind number_literal_kind number_literal_kind = refl
one_kind string_kind string_kind = refl
one_kind string_literal_kind string_literal_kind = refl
one_kind boolean_kind boolean_kind = refl
one_kind true_kind true_kind = refl
one_kind false_kind false_kind = refl
one_kind undefined_kind undefined_kind = refl
one_kind null_kind null_kind = refl
one_kind function_kind function_kind = refl
one_kind pair_kind pair_kind = refl
one_kind list_kind list_kind = refl

pub any_no_kind : {k : Kind} → OfKind any k → ⊥
any_no_kind p = elim p [ ]

pub union_no_kind : {k : Kind} {t : Ty} {ts : Types} → OfKind (union t ts) k → ⊥
union_no_kind p = elim p [ ]

pub brings_one : {ts xs ys : Types} → Brings ts xs → Brings ts ys → xs ≡ ys
brings_one brings_none brings_none = refl
brings_one (brings_any p) (brings_any q) = ap (λ ts. any and ts) (brings_one p q)
brings_one (brings_any p) (brings_itself k q) = absurd (any_no_kind k)
brings_one (brings_itself k p) (brings_any q) = absurd (any_no_kind k)
brings_one (brings_itself {t} k p) (brings_itself j q) = ap (λ ts. t and ts) (brings_one p q)
brings_one (brings_itself k p) (brings_members q r) = absurd (union_no_kind k)
brings_one (brings_members p q) (brings_itself k r) = absurd (union_no_kind k)
brings_one (brings_members p q) (brings_members r s) = ap₂ ◌then◌ (brings_one p r) (brings_one q s)

-- a list without types has none
pub in_none : {t : Ty} → In t no_types → ⊥
in_none p = elim p [ ]

one_before : {t u : Ty} {ts : Types} → ArrivesBefore t u ts → ArrivesBefore u t ts → ⊥
one_before (arrives ne i) (arrives ne' j) = ne refl
one_before (arrives ne i) (arrives_later q r) = q refl
one_before (arrives_later q r) (arrives ne i) = q refl
one_before (arrives_later q r) (arrives_later q' r') = one_before r r'

pub precedes_once : {xs : Types} {t u : Ty} → Precedes xs t u → Precedes xs u t → ⊥
precedes_once (j, k, tj, uk, x) (k', j', uk', tj', y) =
    let e : rank j ≡ rank j' = ap rank (one_kind tj tj') in
    let f : rank k ≡ rank k' = ap rank (one_kind uk uk') in
    ⊎_elim
    (λ lt. ⊎_elim (λ lt'. omega arith) (λ z. let g : rank k' ≡ rank j' = ap rank z.0 in omega arith) y)
    (λ z. let g : rank j ≡ rank k = ap rank z.0 in ⊎_elim (λ lt'. omega arith) (λ w. one_before z.1 w.1) y)
    x

-- what is in a list with a first type is that one or in the rest
pub first_or_other : {t u : Ty} {ts : Types} → In t (u and ts) → (t ≡ u) ⊎ In t ts
first_or_other in_first = inl refl
first_or_other (in_other p) = inr p

pub precedes_all : {xs ts : Types} {t u : Ty} → InOrder xs (t and ts) → In u ts → Precedes xs t u
precedes_all (order_more p q) i = p _ i

pub not_before_itself : {xs ts : Types} {t : Ty} → InOrder xs (t and ts) → In t ts → ⊥
not_before_itself o i = let p = precedes_all o i in precedes_once p p

pub rest_in_order : {xs ts : Types} {t : Ty} → InOrder xs (t and ts) → InOrder xs ts
rest_in_order (order_more p q) = q

same_first : {xs ts us : Types} {t u : Ty} → InOrder xs (t and ts) → InOrder xs (u and us) → In t (u and us) → In u (t and ts) → t ≡ u
same_first o p i j =
    ⊎_elim (λ e. e) (λ x. ⊎_elim (λ e. sym e) (λ y. absurd (precedes_once (precedes_all p x) (precedes_all o y))) (first_or_other j)) (first_or_other i)

-- what is in both lists, and not their common first type, is in the rest of the other
in_rest : {xs ts us : Types} {t u : Ty} → InOrder xs (t and ts) → t ≡ u → ((s : Ty) → In s (t and ts) → In s (u and us)) → (s : Ty) → In s ts → In s us
in_rest {xs} {t} o e all s i =
    ⊎_elim (λ f. let p : Precedes xs t t = subst (λ x. Precedes xs t x) (f ∙ sym e) (precedes_all o i) in absurd (precedes_once p p)) (λ x. x) (first_or_other (all s (in_other i)))

one_order : {xs : Types} (ts us : Types) → InOrder xs ts → InOrder xs us → ((t : Ty) → In t ts → In t us) → ((t : Ty) → In t us → In t ts) → ts ≡ us
one_order no_types no_types o p all only = refl
one_order no_types (u and us) o p all only = absurd (in_none (only u in_first))
one_order (t and ts) no_types o p all only = absurd (in_none (all t in_first))
one_order (t and ts) (u and us) o p all only =
    let e : t ≡ u = same_first o p (all t in_first) (only u in_first) in
    ap₂ ◌and◌ e (one_order ts us (rest_in_order o) (rest_in_order p) (in_rest o e all) (in_rest p (sym e) only))

pub one_members : {xs ms ns : Types} → Members xs ms → Members xs ns → ms ≡ ns
one_members {xs} {ms} {ns} m n = one_order ms ns m.in_order n.in_order (λ t i. n.all t (m.only t i)) (λ t i. m.all t (n.only t i))

-- `any` is the only member where it is one
pub alone : {xs ms : Types} {t : Ty} → InOrder xs (t and ms) → In any (t and ms) → (t ≡ any) × (ms ≡ no_types)
alone {xs} {ms} {t} o i =
    ⊎_elim
    (λ e. (sym e, nothing_after ms (λ u j. let p = precedes_all o j in any_no_kind (subst (λ x. OfKind x p.0) (sym e) p.2))))
    (λ j. let p = precedes_all o j in absurd (any_no_kind p.3))
    (first_or_other i)
  where
    nothing_after : (ts : Types) → ((u : Ty) → In u ts → ⊥) → ts ≡ no_types
    nothing_after no_types f = refl
    nothing_after (u and ts) f = absurd (f u in_first)

two_not_none : {t : Ty} {ts : Types} → (t and ts) ≡ no_types → ⊥
two_not_none e = let z : ◌≡◌ {A = ℕ} 0 1 = cc in omega arith

one_not_more : {t u v : Ty} {ts : Types} → (t and no_types) ≡ (u and v and ts) → ⊥
one_not_more e = let z : ◌≡◌ {A = ℕ} 0 1 = cc in omega arith

the_one : {t u : Ty} → (t and no_types) ≡ (u and no_types) → t ≡ u
the_one e = cc

the_more : {t u : Ty} {ts us : Types} → (t and ts) ≡ (u and us) → union t ts ≡ union u us
the_more e = cc

pub moved : {xs ys ms : Types} → xs ≡ ys → Members ys ms → Members xs ms
moved {ms} e m = subst (λ x. Members x ms) (sym e) m

pub union_is_one : {ts : Types} {t u : Ty} → UnionOf ts t → UnionOf ts u → t ≡ u
union_is_one (union_any b i) (union_any c j) = refl
union_is_one (union_any b i) (union_one c m) = sym (alone m.in_order (m.all any (subst (In any) (brings_one b c) i))).0
union_is_one (union_any b i) (union_more c m) = absurd (two_not_none (alone m.in_order (m.all any (subst (In any) (brings_one b c) i))).1)
union_is_one (union_one b m) (union_any c i) = (alone m.in_order (m.all any (subst (In any) (brings_one c b) i))).0
union_is_one (union_one b m) (union_one c n) = the_one (one_members m (moved (brings_one b c) n))
union_is_one (union_one b m) (union_more c n) = absurd (one_not_more (one_members m (moved (brings_one b c) n)))
union_is_one (union_more b m) (union_any c i) = absurd (two_not_none (alone m.in_order (m.all any (subst (In any) (brings_one c b) i))).1)
union_is_one (union_more b m) (union_one c n) = absurd (one_not_more (one_members n (moved (brings_one c b) m)))
union_is_one (union_more b m) (union_more c n) = the_more (one_members m (moved (brings_one b c) n))

pub one_union : OneUnion
one_union ts t u = union_is_one

pub own_one : {s : Side} {t p q : Ty} → OwnPart s t p → OwnPart s t q → p ≡ q
own_one of_any of_any = refl
own_one head_of_pair head_of_pair = refl
own_one tail_of_pair tail_of_pair = refl
own_one head_of_list head_of_list = refl
own_one tail_of_list tail_of_list = refl

pub own_parts_one : {s : Side} {ts ps qs : Types} → OwnParts s ts ps → OwnParts s ts qs → ps ≡ qs
own_parts_one parts_none parts_none = refl
own_parts_one (parts_more p r) (parts_more q r') = ap₂ ◌and◌ (own_one p q) (own_parts_one r r')
own_parts_one (parts_more p r) (parts_without n r') = absurd (n _ p)
own_parts_one (parts_without n r) (parts_more q r') = absurd (n _ q)
own_parts_one (parts_without n r) (parts_without m r') = own_parts_one r r'

pub no_own : {s : Side} {t p : Ty} {ts : Types} → OwnPart s (union t ts) p → ⊥
no_own p = elim p [ ]

part_one : {s : Side} {t p q : Ty} → PartOf s t p → PartOf s t q → p ≡ q
part_one (part_own x) (part_own y) = own_one x y
part_one (part_own x) (part_union y u) = absurd (no_own x)
part_one (part_union x u) (part_own y) = absurd (no_own y)
part_one {q} (part_union x u) (part_union y w) = union_is_one u (subst (λ ps. UnionOf ps q) (sym (own_parts_one x y)) w)

pub one_part : OnePart
one_part s t p q = part_one

-- Types in form: what they bring to a union, and that their union is in form. Assumes nothing.
use Rattle.std.proofs.Common.{◌≡◌, ℕ, ◌⊎◌, sym, refl, subst, inl, inr, ⊎_elim, arith}
use Rattle.types.specs.declared.kinds.Kind.{Kind}
use Rattle.types.specs.Types.{Ty, Types, any, union, no_types, ◌and◌}
use Rattle.types.specs.Kinds.{OfKind, number_kind, number_literal_kind, string_kind, string_literal_kind, boolean_kind, true_kind, false_kind, undefined_kind, null_kind, function_kind, pair_kind, list_kind}
use Rattle.building.specs.Unions.{◌then◌, Brings, brings_none, brings_any, brings_itself, brings_members, In, in_first, in_other, arrives, arrives_later, Precedes, InOrder, order_none, order_more, UnionOf, union_any, union_one, union_more}
use Rattle.building.specs.Forms.{InForm, form_any, form_number, form_number_literal, form_string, form_string_literal, form_boolean, form_true, form_false, form_undefined, form_null, form_function, form_pair, form_list, form_union, AllInForm, form_none, form_more}
use Rattle.building.specs.Entries.{Flat, flat_any, flat_one, flat_members}
use Rattle.building.proofs.OneUnion.{first_or_other, precedes_all, precedes_once, not_before_itself, union_no_kind}

abbrev pub Kinds : Types → Type 0
Kinds us = (u : Ty) → In u us → (k : Kind) × OfKind u k

pub front_or_end : {t : Ty} {ys : Types} (xs : Types) → In t (xs then ys) → In t xs ⊎ In t ys
front_or_end no_types i = inr i
front_or_end (x and xs) in_first = inl in_first
front_or_end (x and xs) (in_other i) = ⊎_elim (λ p. inl (in_other p)) (λ p. inr p) (front_or_end xs i)

-- the only type of a list
pub the_only : {t u : Ty} → In u (t and no_types) → u ≡ t
the_only i = ⊎_elim (λ e. e) (λ j. elim j [ ]) (first_or_other i)

-- what is brought is `any` or of a kind
brought_kind : {ts xs : Types} {u : Ty} → Brings ts xs → In u xs → (u ≡ any) ⊎ ((k : Kind) × OfKind u k)
brought_kind brings_none i = elim i [ ]
brought_kind (brings_any b) in_first = inl refl
brought_kind (brings_any b) (in_other i) = brought_kind b i
brought_kind (brings_itself {k} tk b) in_first = inr (k, tk)
brought_kind (brings_itself tk b) (in_other i) = brought_kind b i
brought_kind (brings_members {xs} b c) i = ⊎_elim (λ j. brought_kind b j) (λ j. brought_kind c j) (front_or_end xs i)

union_not_any : {t : Ty} {ts : Types} → union t ts ≡ any → ⊥
union_not_any e = let z : ◌≡◌ {A = ℕ} 0 1 = cc in omega arith

-- of several members each has a kind
members_kinds : {xs us : Types} {t u : Ty} → InOrder xs (t and u and us) → Kinds (t and u and us)
members_kinds o v in_first = let p = precedes_all o in_first in (p.0, p.2)
members_kinds o v (in_other i) = let p = precedes_all o i in (p.1, p.3)

pub union_kinds : {t : Ty} {ts : Types} → UnionOf (t and ts) (union t ts) → Kinds (t and ts)
union_kinds (union_one b m) = absurd (⊎_elim (λ e. union_not_any e) (λ k. union_no_kind k.1) (brought_kind b (m.only _ in_first)))
union_kinds (union_more b m) = members_kinds m.in_order

-- what a type in form brings
pub flat_of : {t : Ty} → InForm t → (xs : Types) × Flat t xs
flat_of form_any = (_, flat_any)
flat_of form_number = (_, flat_one number_kind)
flat_of form_number_literal = (_, flat_one number_literal_kind)
flat_of form_string = (_, flat_one string_kind)
flat_of form_string_literal = (_, flat_one string_literal_kind)
flat_of form_boolean = (_, flat_one boolean_kind)
flat_of form_true = (_, flat_one true_kind)
flat_of form_false = (_, flat_one false_kind)
flat_of form_undefined = (_, flat_one undefined_kind)
flat_of form_null = (_, flat_one null_kind)
flat_of (form_function few ps r) = (_, flat_one function_kind)
flat_of (form_pair a b) = (_, flat_one pair_kind)
flat_of (form_list t) = (_, flat_one list_kind)
flat_of (form_union a u) = (_, flat_members (union_kinds u))

kinds_bring : (us : Types) → Kinds us → Brings us us
kinds_bring no_types kinds = brings_none
kinds_bring (u and us) kinds = brings_itself (kinds u in_first).1 (kinds_bring us (λ v i. kinds v (in_other i)))

pub flat_brings : {t : Ty} {xs ts ys : Types} → Flat t xs → Brings ts ys → Brings (t and ts) (xs then ys)
flat_brings flat_any b = brings_any b
flat_brings (flat_one k) b = brings_itself k b
flat_brings (flat_members {t} {ts} kinds) b = brings_members (kinds_bring (t and ts) kinds) b

pub some_arrive : {t : Ty} {xs : Types} → Flat t xs → (u : Ty) × In u xs
some_arrive flat_any = (_, in_first)
some_arrive (flat_one k) = (_, in_first)
some_arrive (flat_members kinds) = (_, in_first)

-- each type of a list is in form
pub forms_in : {ts : Types} → AllInForm ts → (u : Ty) → In u ts → InForm u
forms_in form_none u i = elim i [ ]
forms_in (form_more f fs) u in_first = f
forms_in (form_more f fs) u (in_other i) = forms_in fs u i

pub all_forms : (ts : Types) → ((u : Ty) → In u ts → InForm u) → AllInForm ts
all_forms no_types f = form_none
all_forms (t and ts) f = form_more (f t in_first) (all_forms ts (λ u i. f u (in_other i)))

pub members_forms : {t : Ty} {ts : Types} → InForm (union t ts) → AllInForm (t and ts)
members_forms (form_union a u) = a

pub first_form : {t : Ty} {ts : Types} → AllInForm (t and ts) → InForm t
first_form (form_more f fs) = f

pub other_forms : {t : Ty} {ts : Types} → AllInForm (t and ts) → AllInForm ts
other_forms (form_more f fs) = fs

brought_forms : {ts xs : Types} → Brings ts xs → AllInForm ts → (u : Ty) → In u xs → InForm u
brought_forms brings_none fs u i = elim i [ ]
brought_forms (brings_any b) fs u in_first = form_any
brought_forms (brings_any b) fs u (in_other i) = brought_forms b (other_forms fs) u i
brought_forms (brings_itself k b) fs u in_first = first_form fs
brought_forms (brings_itself k b) fs u (in_other i) = brought_forms b (other_forms fs) u i
brought_forms (brings_members {xs} b c) fs u i = ⊎_elim (λ j. brought_forms b (members_forms (first_form fs)) u j) (λ j. brought_forms c (other_forms fs) u j) (front_or_end xs i)

-- members in order are in order by their own arrival
precedes_behind : {xs : Types} {t u : Ty} (s : Ty) → (s ≡ u → ⊥) → Precedes xs t u → Precedes (s and xs) t u
precedes_behind s ne (j, k, tj, uk, x) = (j, k, tj, uk, ⊎_elim (λ lt. inl lt) (λ z. inr (z.0, arrives_later ne z.1)) x)

precedes_first : {xs ts : Types} {t u : Ty} → Precedes xs t u → In u ts → Precedes (t and ts) t u
precedes_first {xs} {t} {u} p i =
    let apart = λ (e : t ≡ u). let q : Precedes xs u u = subst (λ x. Precedes xs x u) e p in precedes_once q q in
    (p.0, p.1, p.2, p.3, ⊎_elim (λ lt. inl lt) (λ z. inr (z.0, arrives apart i)) p.4)

order_behind : {xs ms : Types} (s : Ty) → (In s ms → ⊥) → InOrder xs ms → InOrder (s and xs) ms
order_behind s new order_none = order_none
order_behind s new (order_more {t} {ts} p o) = order_more (λ u i. precedes_behind s (λ e. new (in_other (subst (λ x. In x ts) (sym e) i))) (p u i)) (order_behind s (λ i. new (in_other i)) o)

order_itself : {xs ms : Types} → InOrder xs ms → InOrder ms ms
order_itself order_none = order_none
order_itself (order_more {t} p o) = order_more (λ u i. precedes_first (p u i) i) (order_behind t (λ i. not_before_itself (order_more p o) i) (order_itself o))

pub union_in_form : {ts : Types} {t : Ty} → AllInForm ts → UnionOf ts t → InForm t
union_in_form fs (union_any b i) = form_any
union_in_form fs (union_one {t} b m) = brought_forms b fs t (m.only t in_first)
union_in_form fs (union_more {t} {u} {us} b m) =
    form_union
    (all_forms (t and u and us) (λ v i. brought_forms b fs v (m.only v i)))
    (union_more (kinds_bring (t and u and us) (members_kinds m.in_order)) (record { all = λ v i. i; only = λ v i. i; in_order = order_itself m.in_order }))

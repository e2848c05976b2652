-- Closed unions. Assumes nothing.
use Rattle.std.proofs.Common.{◌≡◌, ℕ, ◌+◌, ◌<◌, ◌≤◌, ◌⊎◌, List, [], ◌∷◌, ◌++◌, length, take, drop, Some, None, Option, sym, refl, ap, subst, ⊎_elim, arith}
use Rattle.std.proofs.lemmas.List.{take-append-drop}
use Rattle.std.proofs.lemmas.Grind.{common_steps}
use Rattle.types.specs.declared.entries.TypeEntry.{TypeEntry}
use Rattle.types.specs.declared.entries.TypeEntry.TheVariants.{Any, Union}
use Rattle.types.specs.Types.{Ty, Types, any, number, number_literal, string, string_literal, boolean, true_literal, false_literal, undefined, null, function, pair, list, union, no_types, ◌and◌, count}
use Rattle.types.specs.Kinds.{OfKind}
use Rattle.types.specs.Table.{entry_at, Is, is_any, is_union}
use Rattle.types.proofs.Lower.{is_kept}
use Rattle.types.specs.declared.entries.Root.{Root}
use Rattle.building.specs.Unions.{◌then◌, Brings, brings_none, In, in_first, order_none, Members, UnionOf, union_any, union_one, union_more}
use Rattle.building.specs.Forms.{AllInForm, form_any, form_none, form_more}
use Rattle.building.specs.Weights.{weight, weights}
use Rattle.building.specs.Entries.{Open, OpenIn, HasNoRoom, AddsAll, Flat, flat_any, flat_one, flat_members, Closes}
use Rattle.building.specs.Made.{Kept, Needs, needs_none, needs_members, UnionMade, MakesUnion, Hold, hold_none, hold_more}
use Rattle.building.proofs.OneUnion.{brings_one, any_no_kind, one_members, moved}
use Rattle.building.proofs.InOneForm.{front_or_end, the_only, flat_of, flat_brings, some_arrive, union_in_form}
use Rattle.building.proofs.OneMore.{in_front, at_end}
use Rattle.building.proofs.Held.{hold_count, hold_run, begins, begun, after_parts}
use Rattle.building.proofs.AllMembers.{then_none}
use Rattle.building.proofs.Unite.{needed}
use Rattle.building.proofs.Filled.{filled_none, run_filled}

-- every type weighs something
pub some_weight : (t : Ty) → 0 < weight t
some_weight any = omega arith
some_weight number = omega arith
some_weight (number_literal d) = omega arith
some_weight string = omega arith
some_weight (string_literal s) = omega arith
some_weight boolean = omega arith
some_weight true_literal = omega arith
some_weight false_literal = omega arith
some_weight undefined = omega arith
some_weight null = omega arith
some_weight (function ps r) = omega arith
some_weight (pair a b) = omega arith
some_weight (list t) = omega arith
some_weight (union t ts) = omega arith

pub count_weights : (ts : Types) → count ts ≤ weights ts
count_weights no_types = omega arith
count_weights (t and ts) = let a = some_weight t in let b = count_weights ts in omega arith

two_bring : {s t : Ty} {xs ys : Types} → Flat s xs → Flat t ys → Brings (s and t and no_types) (xs then ys)
two_bring {s} {t} {xs} {ys} f g = subst (λ zs. Brings (s and t and no_types) (xs then zs)) (then_none ys) (flat_brings f (flat_brings g brings_none))

-- the members of an open union are in the slots, and so they fit in
open_fits : {ps hs : List TypeEntry} {ts xs : Types} (rest : List TypeEntry) → Brings ts xs → Open ps hs xs → (n : ℕ) × Needs ts n × (length ps + n ≤ length (ps ++ (hs ++ rest)))
open_fits rest b o =
    let c = hold_count o.stored in
    (count o.members, needs_members b (λ i. any_no_kind (o.of_kinds any (o.are_members.all any i)).1) o.are_members, grind (arith, common_steps))

-- closing
pub closes_one : (ps hs : List TypeEntry) → length hs ≡ 1 → Closes ps hs (record { entry = entry_at hs 0; used = length ps })
closes_one ps hs one ts xs rest forms b some o = go hs one (open_fits rest b o) o.members o.stored o.are_members
  where
    go : (hs : List TypeEntry) → length hs ≡ 1 → ((n : ℕ) × Needs ts n × (length ps + n ≤ length (ps ++ (hs ++ rest)))) → (ms : Types) → Hold ps (length ps) hs ms → Members xs ms → UnionMade (ps ++ (hs ++ rest)) (length ps) ts (record { entry = entry_at hs 0; used = length ps })
    go (e ∷ []) one room (t and no_types) (hold_more x h) m = record { made = t; is_union = union_one b m; in_form = union_in_form forms (union_one b m); holds = is_kept (begins ps (e ∷ rest)) x; more = omega arith; within = grind (arith, common_steps); light = let w = some_weight t in omega arith; filled = filled_none (ps ++ (e ∷ rest)) (length ps); fits = room }
    go (e ∷ []) one room (t and (u and us)) s m = let c = hold_count s in absurd (omega arith)
    go (e ∷ []) one room no_types s m = elim s [ ]
    go (e ∷ (f ∷ hs)) one room ms s m = absurd (omega arith)
    go [] one room ms s m = absurd (omega arith)

pub closes_more : (ps hs : List TypeEntry) → (length hs ≡ 1 → ⊥) → Closes ps hs (record { entry = Union (length ps) (length hs); used = length ps + length hs })
closes_more ps hs more ts xs rest forms b some o = go o.members o.stored o.are_members
  where
    es : List TypeEntry
    es = ps ++ (hs ++ rest)

    go : (ms : Types) → Hold ps (length ps) hs ms → Members xs ms → UnionMade es (length ps) ts (record { entry = Union (length ps) (length hs); used = length ps + length hs })
    go no_types s m = absurd (elim (m.all some.0 some.1) [ ])
    go (t and no_types) s m = let e = hold_count s in absurd (more (omega arith))
    go (t and u and us) s m =
        let e = hold_count s in
        let w = some_weight t in
        let v = count_weights (u and us) in
        let r = hold_run (length ps) (length ps) (begins ps (hs ++ rest)) (omega arith) (after_parts ps hs rest) s in
        record { made = union t (u and us); is_union = union_more b m; in_form = union_in_form forms (union_more b m); holds = is_union (omega arith) r; more = omega arith; within = grind (arith, common_steps); light = omega arith; filled = run_filled r; fits = open_fits rest b o }

-- no type has arrived
pub empty : (ps es : List TypeEntry) → OpenIn ps es 0 no_types
empty ps es = (
  omega arith,
  record {
    members = no_types;
    stored = hold_none;
    are_members = record { all = λ t i. i; only = λ t i. i; in_order = order_none };
    of_kinds = λ t i. elim i [ ];
  },
)

any_in : {es : List TypeEntry} {n : ℕ} {s : Ty} {xs : Types} → Is es n Any s → Flat s xs → In any xs
any_in is_any flat_any = in_first
any_in is_any (flat_one k) = elim k [ ]

held_any : {es : List TypeEntry} {n : ℕ} {e : TypeEntry} → e ≡ Any → Is es n e any
held_any {es} {n} p = subst (λ x. Is es n x any) (sym p) is_any

made_any : {es : List TypeEntry} {used : ℕ} {e : TypeEntry} {ts xs : Types} → used ≤ length es → e ≡ Any → Brings ts xs → In any xs → UnionMade es used ts (record { entry = e; used = used })
made_any {es} {used} low p b i = record { made = any; is_union = union_any b i; in_form = form_any; holds = held_any p; more = omega arith; within = low; light = omega arith; filled = filled_none es used; fits = (0, needs_none b i, omega arith) }

-- a type that is not `any` does not bring it
pub any_held : {es : List TypeEntry} {n : ℕ} {e : TypeEntry} → Is es n e any → e ≡ Any
any_held is_any = refl

brings_no_any : {es : List TypeEntry} {n : ℕ} {e : TypeEntry} {s : Ty} {xs : Types} → (e ≡ Any → ⊥) → Is es n e s → Flat s xs → In any xs → ⊥
brings_no_any none h flat_any i = none (any_held h)
brings_no_any none h (flat_one {k} tk) i = any_no_kind (subst (λ x. OfKind x k) (sym (the_only i)) tk)
brings_no_any none h (flat_members kinds) i = any_no_kind (kinds any i).1

-- where the types that arrived have no room, the entries that their union needs do not fit in
pub no_fit : (es : List TypeEntry) {ts xs : Types} {n : ℕ} → Brings ts xs → (In any xs → ⊥) → HasNoRoom es xs → Needs ts n → length es < n
no_fit es b none short (needs_none c i) = absurd (none (subst (In any) (brings_one c b) i))
no_fit es b none short (needs_members c apart m) = short _ (λ u i. m.all u (subst (In u) (brings_one b c) i))

-- a union needs no more entries than it weighs
pub needs_weigh : {ts : Types} {n : ℕ} {t : Ty} → Needs ts n → UnionOf ts t → n ≤ weight t
needs_weigh (needs_none b i) u = omega arith
needs_weigh (needs_members b none m) (union_any c i) = absurd (none (subst (In any) (brings_one c b) i))
needs_weigh (needs_members {ms} b none m) (union_one {t} c l) =
    let e : count ms ≡ count (t and no_types) = ap count (one_members m (moved (brings_one b c) l)) in
    let w = some_weight t in
    omega arith
needs_weigh (needs_members {ms} b none m) (union_more {t} {u} {us} c l) =
    let e : count ms ≡ count (t and u and us) = ap count (one_members m (moved (brings_one b c) l)) in
    let w = count_weights (t and u and us) in
    omega arith

-- where the parts would stand beyond the table, nothing fits in
pub none_beyond : (es : List TypeEntry) (used : ℕ) (a b : TypeEntry) → length es < used → MakesUnion es es used a b None
none_beyond es used a b lt s t hs ht f g = let q = needed (form_more f (form_more g form_none)) in (q.0, q.1, omega arith)

pub some_any : (es : List TypeEntry) (used : ℕ) (a b : TypeEntry) → used ≤ length es → (a ≡ Any) ⊎ (b ≡ Any) → MakesUnion es es used a b (Some (record { entry = Any; used = used }))
some_any es used a b low p s t hs ht f g =
    let x = flat_of f in
    let y = flat_of g in
    made_any low refl (two_bring x.1 y.1) (⊎_elim (λ q. in_front y.0 (any_in (subst (λ e. Is es used e s) q hs) x.1)) (λ q. at_end x.0 (any_in (subst (λ e. Is es used e t) q ht) y.1)) p)

-- what is below the index at which a table was split is kept
pub kept_below : {types : List TypeEntry} {used : ℕ} (ps es fs : List TypeEntry) → types ≡ ps ++ es → length ps ≡ used → Kept types (ps ++ fs) used
kept_below ps es fs whole at j lt = grind (arith, common_steps)

-- the members stand first of the slots gs
pub closed_in : (ps gs : List TypeEntry) (m : ℕ) (r : Root) → Closes ps (take m gs) r → {ts xs : Types} → AllInForm ts → Brings ts xs → ((t : Ty) × In t xs) → Open ps (take m gs) xs → UnionMade (ps ++ gs) (length ps) ts r
closed_in ps gs m r close {ts} {xs} forms b some o = subst (λ z. UnionMade (ps ++ z) (length ps) ts r) (take-append-drop m gs) (close ts xs (drop m gs) forms b some o)

-- of a table that is the parts ps and the slots es; these become fs, and then gs
module _ {types : List TypeEntry} {used : ℕ} (ps es : List TypeEntry) (a b : TypeEntry) (whole : types ≡ ps ++ es) (at : length ps ≡ used) (not_a : a ≡ Any → ⊥) (not-b : b ≡ Any → ⊥) where
  below : {e : TypeEntry} {t : Ty} → Is types used e t → Is ps (length ps) e t
  below {e} {t} h = is_kept (begun ps es) (subst (λ n. Is (ps ++ es) n e t) (sym at) (subst (λ z. Is z used e t) whole h))

  -- no room for the types that arrived
  none_made : (gs hs : List TypeEntry) (r : Option Root) → r ≡ None → length gs ≡ length es → ((s t : Ty) (xs ys : Types) → Is ps (length ps) a s → Is ps (length ps) b t → Flat s xs → Flat t ys → HasNoRoom gs (xs then ys)) → MakesUnion types hs used a b r
  none_made gs hs r none long short = subst (MakesUnion types hs used a b) (sym none) (λ s t hs ht f g.
      let x = flat_of f in
      let y = flat_of g in
      let q = needed (form_more f (form_more g form_none)) in
      let lt = no_fit gs (two_bring x.1 y.1) (λ i. ⊎_elim (λ j. brings_no_any not_a (below hs) x.1 j) (λ j. brings_no_any not-b (below ht) y.1 j) (front_or_end x.0 i)) (short s t x.0 y.0 (below hs) (below ht) x.1 y.1) q.1 in
      (q.0, q.1, grind (arith, common_steps)))

  pub first_none : (fs hs : List TypeEntry) (r : Option Root) → r ≡ None → length fs ≡ length es → AddsAll ps es fs 0 a None → MakesUnion types hs used a b r
  first_none fs hs r none long d = none_made fs hs r none long (λ s t xs ys ha hb f g ms has. d s no_types xs not_a ha f (empty ps es) ms (λ u i. has u (in_front ys i)))

  module _ (fs gs : List TypeEntry) (n : ℕ) (d : AddsAll ps es fs 0 a (Some n)) where
    pub second_none : (hs : List TypeEntry) (r : Option Root) → r ≡ None → length gs ≡ length es → AddsAll ps fs gs n b None → MakesUnion types hs used a b r
    second_none hs r none long c = none_made gs hs r none long (λ s t xs ys ha hb f g. c t xs ys not-b hb g (d s no_types xs not_a ha f (empty ps es)))

    module _ (m : ℕ) (c : AddsAll ps fs gs n b (Some m)) where
      both_opened : {s t : Ty} {xs ys : Types} → Is ps (length ps) a s → Is ps (length ps) b t → Flat s xs → Flat t ys → OpenIn ps gs m (xs then ys)
      both_opened ha hb f g = c _ _ _ not-b hb g (d _ no_types _ not_a ha f (empty ps es))

      pub both : (r : Root) → Closes ps (take m gs) r → MakesUnion types (ps ++ gs) used a b (Some r)
      both r close s t ha hb f g =
          let x = flat_of f in
          let y = flat_of g in
          let u = some_arrive x.1 in
          subst (λ k. UnionMade (ps ++ gs) k (s and t and no_types) r) at
          (closed_in ps gs m r close (form_more f (form_more g form_none)) (two_bring x.1 y.1) (u.0, in_front y.0 u.1) (both_opened (below ha) (below hb) x.1 y.1).1)

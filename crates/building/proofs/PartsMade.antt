-- The part of a union. Assumes nothing.
use Rattle.std.proofs.Common.{◌≡◌, ℕ, zero, suc, ◌+◌, ◌-◌, ◌<◌, ◌≤◌, Bool, true, false, ◌⊎◌, List, ◌++◌, length, take, drop, Some, None, Decides, Option, Ok, Err, Result, sym, refl, ap, ◌∙◌, subst, inl, inr, ⊎_elim, arith}
use Rattle.std.specs.List.{slice_range}
use Rattle.std.specs.Bool.{MatchBool}
use Rattle.std.specs.Option.{MatchOption, IsSomeAnd, option_eq}
use Rattle.std.proofs.lemmas.Grind.{common_steps}
use Rattle.std.proofs.lemmas.Bool.{both_ways}
use Rattle.types.specs.declared.entries.TypeEntry.{TypeEntry}
use Rattle.types.specs.declared.entries.TypeEntry.TheVariants.{Any, Union}
use Rattle.types.specs.Types.{Ty, Types, any, number, number_literal, string, string_literal, boolean, true_literal, false_literal, undefined, null, function, pair, list, union, no_types, ◌and◌, count}
use Rattle.types.specs.declared.kinds.Kind.{Kind}
use Rattle.types.specs.Kinds.{OfKind}
use Rattle.types.specs.Table.{entry_at, Is, is_any, is_union, Run, run_end, run_more}
use Rattle.types.proofs.Lower.{run_kept}
use Rattle.types.proofs.Parts.{known, entries_Decides}
use Rattle.types.specs.contracts.entries.TypeEntryPartialEq.TheImpl.{eq-value}
use Rattle.types.specs.declared.entries.Root.{Root}
use Rattle.building.specs.declared.parts.NoRoom.{NoRoom}
use Rattle.building.specs.declared.parts.Side.{Side}
use Rattle.building.specs.declared.parts.Side.TheVariants.{Head, Tail}
use Rattle.building.specs.Unions.{◌then◌, Brings, brings_none, brings_any, brings_itself, brings_members, In, in_first, in_other, UnionOf, union_any, union_one, union_more}
use Rattle.building.specs.Forms.{InForm, form_any, form_pair, form_list, form_union, AllInForm, form_none, form_more}
use Rattle.building.specs.HeadsAndTails.{OwnPart, of_any, head_of_pair, tail_of_pair, head_of_list, tail_of_list, OwnParts, parts_none, parts_more, parts_without, PartOf, part_own, part_union}
use Rattle.building.specs.Laws.{PartOrLack, PartTold}
use Rattle.building.specs.Entries.{Flat, flat_any, flat_one, flat_members, Open, OpenIn, Opened, AddsAll, Closes, SaysPartAny, SaysAnyPart, AddsPart, AddsParts}
use Rattle.building.specs.Made.{Needs, needs_none, Hold, PartHeld, GivesPart, PartNeeds, own_needs, union_needs, UnionMade, PartAnswer, MakesPart}
use Rattle.building.proofs.OneUnion.{brings_one, own_one, own_parts_one, no_own, any_no_kind, union_no_kind}
use Rattle.building.proofs.InOneForm.{front_or_end, flat_of, flat_brings, union_kinds, first_form, other_forms, members_forms}
use Rattle.building.proofs.Same.{run_from}
use Rattle.building.proofs.OneMore.{in_front, at_end}
use Rattle.building.proofs.Held.{next_held, none_after, run_held, hold_count, begun}
use Rattle.building.proofs.AllMembers.{then_assoc, then_none}
use Rattle.building.proofs.Filled.{filled_none}
use Rattle.building.proofs.Unite.{arrive, union_exists, needed}
use Rattle.building.proofs.Closed.{empty, any_held, some_weight, no_fit, closed_in}

-- the types with parts of their own
data HasOwn : Ty → Type 0 where
  any_has : HasOwn any
  pair_has : {a b : Ty} → HasOwn (pair a b)
  list_has : {t : Ty} → HasOwn (list t)

has_own : {s : Side} {t p : Ty} → OwnPart s t p → HasOwn t
has_own of_any = any_has
has_own head_of_pair = pair_has
has_own tail_of_pair = pair_has
has_own head_of_list = list_has
has_own tail_of_list = list_has

-- a type has a part of its own or none
own_told : (s : Side) (t : Ty) → ((p : Ty) × OwnPart s t p) ⊎ ((p : Ty) → OwnPart s t p → ⊥)
own_told s any = inl (any, of_any)
own_told s number = inr (λ p o. elim (has_own o) [ ])
own_told s (number_literal d) = inr (λ p o. elim (has_own o) [ ])
own_told s string = inr (λ p o. elim (has_own o) [ ])
own_told s (string_literal x) = inr (λ p o. elim (has_own o) [ ])
own_told s boolean = inr (λ p o. elim (has_own o) [ ])
own_told s true_literal = inr (λ p o. elim (has_own o) [ ])
own_told s false_literal = inr (λ p o. elim (has_own o) [ ])
own_told s undefined = inr (λ p o. elim (has_own o) [ ])
own_told s null = inr (λ p o. elim (has_own o) [ ])
own_told s (function ps r) = inr (λ p o. elim (has_own o) [ ])
own_told Head (pair a b) = inl (a, head_of_pair)
own_told Tail (pair a b) = inl (b, tail_of_pair)
own_told Head (list t) = inl (t, head_of_list)
own_told Tail (list t) = inl (list t, tail_of_list)
own_told s (union t ts) = inr (λ p o. elim (has_own o) [ ])

own_parts_told : (s : Side) (ts : Types) → (ps : Types) × OwnParts s ts ps
own_parts_told s no_types = (no_types, parts_none)
own_parts_told s (t and ts) =
    let r = own_parts_told s ts in
    ⊎_elim (λ o. (o.0 and r.0, parts_more o.1 r.1)) (λ n. (r.0, parts_without n r.1)) (own_told s t)

-- parts of types in form are in form
own_form : {s : Side} {t p : Ty} → OwnPart s t p → InForm t → InForm p
own_form of_any f = form_any
own_form head_of_pair (form_pair a b) = a
own_form tail_of_pair (form_pair a b) = b
own_form head_of_list (form_list f) = f
own_form tail_of_list f = f

own_forms : {s : Side} {ts ps : Types} → OwnParts s ts ps → AllInForm ts → AllInForm ps
own_forms parts_none fs = form_none
own_forms (parts_more o r) fs = form_more (own_form o (first_form fs)) (own_forms r (other_forms fs))
own_forms (parts_without n r) fs = own_forms r (other_forms fs)

-- which types the parts are of
own_in : {s : Side} {t p : Ty} {ts ps : Types} → OwnParts s ts ps → In t ts → OwnPart s t p → In p ps
own_in parts_none i q = elim i [ ]
own_in {p} (parts_more {ps} o r) in_first q = subst (λ x. In p (x and ps)) (own_one q o) in_first
own_in (parts_more o r) (in_other i) q = in_other (own_in r i q)
own_in (parts_without n r) in_first q = absurd (n _ q)
own_in (parts_without n r) (in_other i) q = own_in r i q

own_from : {s : Side} {p : Ty} {ts ps : Types} → OwnParts s ts ps → In p ps → (t : Ty) × In t ts × OwnPart s t p
own_from parts_none i = elim i [ ]
own_from (parts_more o r) in_first = (_, in_first, o)
own_from (parts_more o r) (in_other i) = let w = own_from r i in (w.0, in_other w.1, w.2)
own_from (parts_without n r) i = let w = own_from r i in (w.0, in_other w.1, w.2)

-- `any` arrives where it is one of the types, and only there
any_arrives : {ts xs : Types} → Brings ts xs → In any ts → In any xs
any_arrives brings_none i = elim i [ ]
any_arrives (brings_any b) in_first = in_first
any_arrives (brings_any b) (in_other i) = in_other (any_arrives b i)
any_arrives (brings_itself k b) in_first = absurd (any_no_kind k)
any_arrives (brings_itself k b) (in_other i) = in_other (any_arrives b i)
any_arrives (brings_members {xs} b c) (in_other i) = at_end xs (any_arrives c i)

members_apart : {t : Ty} {ts : Types} → InForm (union t ts) → In any (t and ts) → ⊥
members_apart (form_union a u) i = any_no_kind (union_kinds u any i).1

any_given : {ts xs : Types} → Brings ts xs → AllInForm ts → In any xs → In any ts
any_given (brings_any b) fs in_first = in_first
any_given (brings_any b) fs (in_other i) = in_other (any_given b (other_forms fs) i)
any_given (brings_itself k b) fs in_first = in_first
any_given (brings_itself k b) fs (in_other i) = in_other (any_given b (other_forms fs) i)
any_given (brings_members {xs} b c) fs i =
    ⊎_elim
    (λ j. absurd (members_apart (first_form fs) (any_given b (members_forms (first_form fs)) j)))
    (λ j. in_other (any_given c (other_forms fs) j))
    (front_or_end xs i)
any_given brings_none fs i = elim i [ ]

-- a run by its indexes
run_at : {es : List TypeEntry} {first size : ℕ} {ts : Types} (k : ℕ) → Run es first size ts → k < size → (t : Ty) × In t ts × Is es (first + k) (entry_at es (first + k)) t
run_at k run_end lt = absurd (omega arith)
run_at {es} zero (run_more {first} {t} x r) lt = let e : first ≡ first + 0 = omega arith in (t, in_first, subst (λ i. Is es i (entry_at es i) t) e x)
run_at {es} (suc k) (run_more {first} x r) lt =
    let w = run_at k r (omega arith) in
    let e : suc first + k ≡ first + suc k = omega arith in
    (w.0, in_other w.1, subst (λ i. Is es i (entry_at es i) w.0) e w.2)

run_in : {es : List TypeEntry} {first size : ℕ} {ts : Types} {t : Ty} → Run es first size ts → In t ts → (k : ℕ) × (k < size) × Is es (first + k) (entry_at es (first + k)) t
run_in run_end i = elim i [ ]
run_in {es} {t} (run_more {first} x r) in_first = let e : first ≡ first + 0 = omega arith in (0, omega arith, subst (λ i. Is es i (entry_at es i) t) e x)
run_in {es} {t} (run_more {first} x r) (in_other i) =
    let w = run_in r i in
    let e : suc first + w.0 ≡ first + suc w.0 = omega arith in
    (suc w.0, omega (arith, w.1), subst (λ i. Is es i (entry_at es i) t) e w.2)

-- whether a part is `any`
held_as_any : {es : List TypeEntry} {n : ℕ} {t : Ty} → Is es n Any t → t ≡ any
held_as_any is_any = refl

part_known : {es : List TypeEntry} {n : ℕ} {e p : TypeEntry} {side : Side} {r : Bool} → Decides r (p ≡ Any) → GivesPart es n e side (Some p) → SaysPartAny es n e side r
part_known {es} {n} {p} {side} d f le t h =
    let q = f le t h in (
      λ e. subst (λ x. OwnPart side t x) (held_as_any (known (d.0 e) q.holds)) q.is_part,
      λ o. d.1 (any_held (subst (λ x. Is es n p x) (own_one q.is_part o) q.holds)),
    )

pub part_any : {es : List TypeEntry} {n : ℕ} {e : TypeEntry} {side : Side} {r : Bool} (p : Option TypeEntry) → r ≡ option_eq eq-value.it p (Some Any) → GivesPart es n e side p → SaysPartAny es n e side r
part_any (Some p) is f = part_known (subst (λ z. Decides z (p ≡ Any)) (sym is) (entries_Decides p Any)) f
part_any {es} {n} {e} {side} None is f = subst (SaysPartAny es n e side) (sym is) (λ le t h. (λ o. absurd (both_ways false refl o), λ o. absurd (f le t h any o)))

-- whether some type of a run has such a part
pub any_part_told : {es : List TypeEntry} {first end : ℕ} {side : Side} (r : Bool) → MatchBool r ((k : ℕ) × (first ≤ k) × (k < end) × SaysPartAny es k (entry_at es k) side true) ((k : ℕ) → first ≤ k → k < end → SaysPartAny es k (entry_at es k) side false) → SaysAnyPart es first end side r
any_part_told {es} {first} {side} true h up room ts r = (
  λ e.
      let w = run_at (h.0 - first) r (omega (arith, h.1, h.2)) in
      let i : first + (h.0 - first) ≡ h.0 = omega (arith, h.1) in
      (w.0, w.1, (h.3 (omega (arith, h.2)) w.0 (subst (λ i. Is es i (entry_at es i) w.0) i w.2)).0 refl),
  λ o. refl,
)
any_part_told {first} false h up room ts r = (
  λ e. absurd (both_ways false refl e),
  λ o. let w = run_in r o.1 in let lt = w.1 in absurd (both_ways false refl ((h (first + w.0) (omega arith) (omega arith) (omega arith) o.0 w.2).1 o.2)),
)

-- one part added
nothing_brought : {xs : Types} → Brings no_types xs → xs ≡ no_types
nothing_brought brings_none = refl

pub no_part_added : (ps es : List TypeEntry) (n : ℕ) (e : TypeEntry) (side : Side) → ((t : Ty) → Is ps (length ps) e t → (p : Ty) → OwnPart side t p → ⊥) → AddsPart ps es es n e side (Some n)
no_part_added ps es n e side none t qs xs ys h form own b free o = go own b
  where
    go : {qs : Types} → OwnParts side (t and no_types) qs → Brings qs ys → OpenIn ps es n (xs then ys)
    go (parts_more q r) c = absurd (none t h _ q)
    go (parts_without q parts_none) c = subst (λ x. OpenIn ps es n x) (sym (ap (λ z. xs then z) (nothing_brought c) ∙ then_none xs)) o

pub part_added : (ps es fs : List TypeEntry) (n : ℕ) (e p : TypeEntry) (side : Side) (r : Option ℕ) → ((t : Ty) → Is ps (length ps) e t → PartHeld ps (length ps) side t p) → AddsAll ps es fs n p r → AddsPart ps es fs n e side r
part_added ps es fs n e p side r f d t qs xs ys h form own b free o = go own b
  where
    q : PartHeld ps (length ps) side t p
    q = f t h

    go : {qs : Types} → OwnParts side (t and no_types) qs → Brings qs ys → Opened ps fs (xs then ys) r
    go (parts_without none s) c = absurd (none _ q.is_part)
    go (parts_more {p = u} x parts_none) c =
        let same : q.part ≡ u = own_one q.is_part x in
        let g = flat_of (own_form x form) in
        let all : g.0 ≡ ys = sym (then_none g.0) ∙ brings_one (flat_brings g.1 brings_none) c in
        let held : Is ps (length ps) p u = subst (λ y. Is ps (length ps) p y) same q.holds in
        subst (λ y. Opened ps fs (xs then y) r) all
        (d u xs g.0 (λ k. free (any_arrives c (subst (λ y. In any (y and no_types)) (sym (held_as_any (known k held))) in_first))) held g.1 o)

-- the parts of a list of types, taken one by one
split_own : {s : Side} {t : Ty} {ts ps : Types} → OwnParts s (t and ts) ps → (qs rs : Types) × OwnParts s (t and no_types) qs × OwnParts s ts rs × (ps ≡ (qs then rs))
split_own (parts_more {p} {ps} o r) = (p and no_types, ps, parts_more o parts_none, r, refl)
split_own (parts_without {ps} n r) = (no_types, ps, parts_without n parts_none, r, refl)

split_brings : (ts us : Types) {xs : Types} → Brings (ts then us) xs → (ys zs : Types) × Brings ts ys × Brings us zs × (xs ≡ (ys then zs))
split_brings no_types us {xs} b = (no_types, xs, brings_none, b, refl)
split_brings (t and ts) us (brings_any b) = let r = split_brings ts us b in (any and r.0, r.1, brings_any r.2, r.3, ap (λ x. any and x) r.4)
split_brings (t and ts) us (brings_itself k b) = let r = split_brings ts us b in (t and r.0, r.1, brings_itself k r.2, r.3, ap (λ x. t and x) r.4)
split_brings (t and ts) us (brings_members {xs} c b) = let r = split_brings ts us b in (xs then r.0, r.1, brings_members c r.2, r.3, ap (λ x. xs then x) r.4 ∙ sym (then_assoc xs r.0 r.1))

-- where the parts of the first k of the entries hs have been added
pub record PartWay (ps fs hs : List TypeEntry) (side : Side) (k n : ℕ) (xs : Types) : Type 0 where
  pub done : Types
  pub left : Types
  pub parts : Types
  pub come : Types
  pub all : xs ≡ (done then come)
  pub others : Hold ps (length ps) (drop k hs) left
  pub forms : AllInForm left
  pub own : OwnParts side left parts
  pub brings : Brings parts come
  pub opened : OpenIn ps fs n done

abbrev pub Parting : List TypeEntry → List TypeEntry → List TypeEntry → Side → ℕ → ℕ → Type 0
Parting ps fs hs side k n = (ts qs xs : Types) → Hold ps (length ps) hs ts → AllInForm ts → OwnParts side ts qs → Brings qs xs → (In any xs → ⊥) → PartWay ps fs hs side k n xs

pub none_parted : (ps es hs : List TypeEntry) (side : Side) → Parting ps es hs side 0 0
none_parted ps es hs side ts qs xs r fs o b free =
    record {
      done = no_types;
      left = ts;
      parts = qs;
      come = xs;
      all = refl;
      others = r;
      forms = fs;
      own = o;
      brings = b;
      opened = empty ps es;
    }

module _ (ps fs hs : List TypeEntry) (side : Side) (k n : ℕ) (lt : k < length hs) (a : Parting ps fs hs side k n) where
  -- the next type, its parts and what they bring
  record NextPart (xs : Types) : Type 0 where
    done : Types
    ys : Types
    zs : Types
    left : Types
    parts : Types
    t : Ty
    qs : Types
    all : xs ≡ (done then (ys then zs))
    held : Is ps (length ps) (entry_at hs k) t
    form : InForm t
    own : OwnParts side (t and no_types) qs
    brings : Brings qs ys
    others : Hold ps (length ps) (drop (k + 1) hs) left
    forms : AllInForm left
    owns : OwnParts side left parts
    rest : Brings parts zs
    opened : OpenIn ps fs n done

  next_part : {xs : Types} → PartWay ps fs hs side k n xs → NextPart xs
  next_part {xs} w =
      let q = next_held hs k lt w.others in
      let fs' = subst (λ x. AllInForm x) q.2 w.forms in
      let o = split_own (subst (λ x. OwnParts side x w.parts) q.2 w.own) in
      let b = split_brings o.0 o.1 (subst (λ x. Brings x w.come) o.4 w.brings) in
      record {
        done = w.done;
        ys = b.0;
        zs = b.1;
        left = q.1;
        parts = o.1;
        t = q.0;
        qs = o.0;
        all = w.all ∙ ap (λ x. w.done then x) b.4;
        held = q.3;
        form = first_form fs';
        own = o.2;
        brings = b.2;
        others = q.4;
        forms = other_forms fs';
        owns = o.3;
        rest = b.3;
        opened = w.opened;
      }

  not_any : {xs : Types} (p : NextPart xs) → (In any xs → ⊥) → In any p.ys → ⊥
  not_any p free i = free (subst (λ x. In any x) (sym p.all) (at_end p.done (in_front p.zs i)))

  pub more_parted : (gs : List TypeEntry) (j : ℕ) → AddsPart ps fs gs n (entry_at hs k) side (Some j) → Parting ps gs hs side (k + 1) j
  more_parted gs j d ts qs xs r forms o b free =
      let p = next_part (a ts qs xs r forms o b free) in
      record {
        done = p.done then p.ys;
        left = p.left;
        parts = p.parts;
        come = p.zs;
        all = p.all ∙ sym (then_assoc p.done p.ys p.zs);
        others = p.others;
        forms = p.forms;
        own = p.owns;
        brings = p.rest;
        opened = d p.t p.qs p.done p.ys p.held p.form p.own p.brings (not_any p free) p.opened;
      }

  pub parts_none_fit : (gs : List TypeEntry) (r : Option ℕ) → r ≡ None → AddsPart ps fs gs n (entry_at hs k) side None → AddsParts ps gs hs side r
  parts_none_fit gs r none d = subst (AddsParts ps gs hs side) (sym none) (λ ts qs xs r forms o b free ms has.
      let p = next_part (a ts qs xs r forms o b free) in
      d p.t p.qs p.done p.ys p.held p.form p.own p.brings (not_any p free) p.opened ms (λ u i. has u (subst (λ x. In u x) (sym (p.all ∙ sym (then_assoc p.done p.ys p.zs))) (in_front p.zs i))))

no_parts_left : {s : Side} {ps : Types} → OwnParts s no_types ps → ps ≡ no_types
no_parts_left parts_none = refl

pub all_parted : (ps fs hs : List TypeEntry) (side : Side) (k n : ℕ) → length hs ≤ k → Parting ps fs hs side k n → AddsParts ps fs hs side (Some n)
all_parted ps fs hs side k n le a ts qs xs r forms o b free =
    let w = a ts qs xs r forms o b free in
    let e : w.left ≡ no_types = none_after hs k le w.others in
    let f : w.parts ≡ no_types = no_parts_left (subst (λ x. OwnParts side x w.parts) e w.own) in
    let g : w.come ≡ no_types = nothing_brought (subst (λ x. Brings x w.come) f w.brings) in
    subst (λ x. OpenIn ps fs n x) (sym (w.all ∙ ap (λ x. w.done then x) g ∙ then_none w.done)) w.opened

-- the ways out of `part_of`
own_made : (es : List TypeEntry) (used : ℕ) (e p : TypeEntry) (side : Side) → GivesPart es used e side (Some p) → MakesPart es es used e side (Ok (Some (record { entry = p; used = used })))
own_made es used e p side f low t h form =
    let q = f low t h in
    let w = some_weight q.part in
    record { made = q.part; is_part = part_own q.is_part; in_form = own_form q.is_part form; holds = q.holds; more = omega arith; within = low; light = omega arith; filled = filled_none es used; fits = (0, own_needs q.is_part, omega arith) }

single_part : {s : Side} {es : List TypeEntry} {n : ℕ} {e : TypeEntry} {t p : Ty} → ((first size : ℕ) → e ≡ Union first size → ⊥) → Is es n e t → PartOf s t p → OwnPart s t p
single_part single h (part_own o) = o
single_part {es} {n} {e} single h (part_union o u) = go refl h
  where
    go : {A : Type 0} {x : TypeEntry} {t : Ty} {ts : Types} → e ≡ x → Is es n x (union t ts) → A
    go p (is_union low r) = absurd (single _ _ p)

own_lacking : (es : List TypeEntry) (used : ℕ) (e : TypeEntry) (side : Side) → ((first size : ℕ) → e ≡ Union first size → ⊥) → GivesPart es used e side None → MakesPart es es used e side (Ok None)
own_lacking es used e side single none low t h form p o = none low t h p (single_part single h o)

-- the part of its own that is given, or that there is none
pub own_answer : (es : List TypeEntry) (used : ℕ) (e : TypeEntry) (side : Side) {is_part : TypeEntry → Root → Type 0} (o : Option TypeEntry) (r : Option Root)
    → MatchOption o (r ≡ None) (λ x. IsSomeAnd r (is_part x)) → ((x : TypeEntry) (m : Root) → is_part x m → m ≡ record { entry = x; used = used })
    → ((first size : ℕ) → e ≡ Union first size → ⊥) → GivesPart es used e side o → MakesPart es es used e side (Ok r)
own_answer es used e side None r is same single f = subst (λ z. MakesPart es es used e side (Ok z)) (sym is) (own_lacking es used e side single f)
own_answer es used e side (Some x) (Some m) is same single f = subst (λ z. MakesPart es es used e side (Ok (Some z))) (sym (same x m is)) (own_made es used e x side f)
own_answer es used e side (Some x) None is same single f = elim is [ ]

-- the parts of the members of a union in form
record PartsOf (es : List TypeEntry) (n first size : ℕ) (side : Side) (t : Ty) : Type 0 where
  low : first + size ≤ n
  head : Ty
  tail : Types
  is_it : t ≡ union head tail
  run : Run es first size (head and tail)
  members_form : AllInForm (head and tail)
  ps : Types
  xs : Types
  own : OwnParts side (head and tail) ps
  brings : Brings ps xs

parts_of : {es : List TypeEntry} {n first size : ℕ} {t : Ty} (side : Side) → Is es n (Union first size) t → InForm t → PartsOf es n first size side t
parts_of side (is_union {t} {ts} low r) form =
    let fs = members_forms form in
    let o = own_parts_told side (t and ts) in
    let b = arrive (own_forms o.1 fs) in
    record { low = low; head = t; tail = ts; is_it = refl; run = r; members_form = fs; ps = o.0; xs = b.0; own = o.1; brings = b.1 }

is_union_part : {es : List TypeEntry} {n first size : ℕ} {side : Side} {t p : Ty} (q : PartsOf es n first size side t) → UnionOf q.ps p → PartOf side t p
is_union_part {side} {p} q u = subst (λ x. PartOf side x p) (sym q.is_it) (part_union q.own u)

needs_of : {es : List TypeEntry} {n first size k : ℕ} {side : Side} {t : Ty} (q : PartsOf es n first size side t) → Needs q.ps k → PartNeeds side t k
needs_of {k} {side} q u = subst (λ x. PartNeeds side x k) (sym q.is_it) (union_needs q.own u)

-- a part of the union is the union of these parts
union_part : {side : Side} {t p : Ty} {ts ps : Types} → OwnParts side (t and ts) ps → PartOf side (union t ts) p → UnionOf ps p
union_part own (part_own o) = absurd (no_own o)
union_part {p} own (part_union o u) = subst (λ x. UnionOf x p) (own_parts_one o own) u

-- a union has some type that arrives
united_some : {ts xs : Types} {t : Ty} → Brings ts xs → UnionOf ts t → (u : Ty) × In u xs
united_some b (union_any c i) = (any, subst (λ x. In any x) (brings_one c b) i)
united_some b (union_one {t} c m) = (t, subst (λ x. In t x) (brings_one c b) (m.only t in_first))
united_some b (union_more {t} c m) = (t, subst (λ x. In t x) (brings_one c b) (m.only t in_first))

module _ (es : List TypeEntry) (side : Side) {used first size from end : ℕ} {e : TypeEntry} (is : e ≡ Union first size) (at : from ≡ first) (over : end ≡ first + size) (long : used ≤ length es) where
  run_here : {ts : Types} → Run es first size ts → Run es from (end - from) ts
  run_here r = run_from from end at over r

  pub any_made : SaysAnyPart es from end side true → MakesPart es es used e side (Ok (Some (record { entry = Any; used = used })))
  any_made d low t h form =
      let q = parts_of side (known is h) form in
      let below = q.low in
      let w = (d (omega arith) (omega arith) (q.head and q.tail) (run_here q.run)).0 refl in
      let i = any_arrives q.brings (own_in q.own w.1 w.2) in
      let u = union_any q.brings i in
      record { made = any; is_part = is_union_part q u; in_form = form_any; holds = is_any; more = omega arith; within = low; light = omega arith; filled = filled_none es used; fits = (0, needs_of q (needs_none q.brings i), omega arith) }

  module _ (d : SaysAnyPart es from end side false) where
    no_any : {t : Ty} (q : PartsOf es used first size side t) → In any q.xs → ⊥
    no_any q i =
        let below = q.low in
        let w = own_from q.own (any_given q.brings (own_forms q.own q.members_form) i) in
        both_ways false refl ((d (omega arith) (omega arith) (q.head and q.tail) (run_here q.run)).1 w)

    -- the table is the parts ps and the slots ss, which become fs; hs are the members among the parts
    module _ (ps ss fs hs : List TypeEntry) (whole : es ≡ ps ++ ss) (split : length ps ≡ used) (part : hs ≡ slice_range ps from end) where
      members_held : {t : Ty} (q : PartsOf es used first size side t) → Hold ps (length ps) hs (q.head and q.tail)
      members_held q =
          let below = q.low in
          let ts = q.head and q.tail in
          let r = run_kept (length ps) (omega arith) (begun ps ss) (subst (λ z. Run z first size ts) whole q.run) in
          let h = run_held (length ps) (omega arith) (omega arith) r in
          let n : size ≡ end - from = omega arith in
          subst (λ z. Hold ps (length ps) z ts) (sym part) (subst (λ k. Hold ps (length ps) (take (end - from) (drop k ps)) ts) (sym at) (subst (λ k. Hold ps (length ps) (take k (drop first ps)) ts) n h))

      pub no_room_made : (gs : List TypeEntry) (o : Option ℕ) {r : Result (Option Root) NoRoom} (n : NoRoom) → r ≡ Err n → length fs ≡ length ss → o ≡ None → AddsParts ps fs hs side o → MakesPart es gs used e side r
      no_room_made gs o n answer same none a low t h form = subst (PartAnswer es gs used side t) (sym answer) (
          let q = parts_of side (known is h) form in
          let short = subst (AddsParts ps fs hs side) none a (q.head and q.tail) q.ps q.xs (members_held q) q.members_form q.own q.brings (no_any q) in
          let need = needed (own_forms q.own q.members_form) in
          let lt = no_fit fs q.brings (no_any q) short need.1 in
          (need.0, needs_of q need.1, grind (arith, common_steps)))

      module _ (o : Option ℕ) (n : ℕ) (some : o ≡ Some n) (a : AddsParts ps fs hs side o) where
        open_parts : {t : Ty} (q : PartsOf es used first size side t) → OpenIn ps fs n q.xs
        open_parts q = subst (AddsParts ps fs hs side) some a (q.head and q.tail) q.ps q.xs (members_held q) q.members_form q.own q.brings (no_any q)

        members_count : {xs : Types} → n ≤ length fs → (o : Open ps (take n fs) xs) → count o.members ≡ n
        members_count le o = let long : length (take n fs) ≡ n = grind (arith, common_steps) in hold_count o.stored ∙ long

        pub union_lacking : (gs : List TypeEntry) → n ≡ 0 → MakesPart es gs used e side (Ok None)
        union_lacking gs zero_is low t h form p o =
            let q = parts_of side (known is h) form in
            let u = union_part q.own (subst (λ x. PartOf side x p) q.is_it o) in
            let i = united_some q.brings u in
            let m = open_parts q in
            no_members m.1.members (members_count m.0 m.1) (m.1.are_members.all i.0 i.1)
          where
            no_members : {u : Ty} (ts : Types) → count ts ≡ n → In u ts → ⊥
            no_members no_types c i = elim i [ ]
            no_members (m and ts) c i = omega arith

        pub union_part_made : (r : Root) → (n ≡ 0 → ⊥) → Closes ps (take n fs) r → MakesPart es (ps ++ fs) used e side (Ok (Some r))
        union_part_made r some close low t h form =
            let q = parts_of side (known is h) form in
            let m = open_parts q in
            let i = a_member m.1.members (members_count m.0 m.1) in
            let u = subst (λ k. UnionMade (ps ++ fs) k q.ps r) split (closed_in ps fs n r close (own_forms q.own q.members_form) q.brings (i.0, m.1.are_members.only i.0 i.1) m.1) in
            record { made = u.made; is_part = is_union_part {p = u.made} q u.is_union; in_form = u.in_form; holds = u.holds; more = u.more; within = u.within; light = u.light; filled = u.filled; fits = (u.fits.0, needs_of q u.fits.1, u.fits.2) }
          where
            a_member : (ts : Types) → count ts ≡ n → (u : Ty) × In u ts
            a_member no_types c = absurd (some (sym c))
            a_member (m and ts) c = (m, in_first)

-- whether a type has a part
kind_part : {s : Side} {t p : Ty} {k : Kind} → OfKind t k → PartOf s t p → OwnPart s t p
kind_part tk (part_own o) = o
kind_part tk (part_union o u) = absurd (union_no_kind tk)

parts_union : {s : Side} {t : Ty} {ts : Types} (ps : Types) → OwnParts s (t and ts) ps → AllInForm ps → PartOrLack s (union t ts)
parts_union no_types o fs = inr (λ p q. elim (united_some brings_none (union_part o q)).1 [ ])
parts_union (p and ps) o fs = let u = union_exists p ps fs in inl (u.0, part_union o u.1, u.2)

told_by : {t : Ty} {xs : Types} (s : Side) → Flat t xs → InForm t → PartOrLack s t
told_by s flat_any f = inl (any, part_own of_any, form_any)
told_by {t} s (flat_one tk) f = ⊎_elim (λ o. inl (o.0, part_own o.1, own_form o.1 f)) (λ n. inr (λ p q. n p (kind_part tk q))) (own_told s t)
told_by s (flat_members {t} {ts} kinds) f = let o = own_parts_told s (t and ts) in parts_union o.0 o.1 (own_forms o.1 (members_forms f))

pub part_told : PartTold
part_told s t f = told_by s (flat_of f).1 f

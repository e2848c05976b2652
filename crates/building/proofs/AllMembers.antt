-- All members of a type in an open union. Assumes nothing.
use Rattle.std.proofs.Common.{◌≡◌, ℕ, ◌+◌, ◌-◌, ◌<◌, ◌≤◌, List, length, take, drop, Some, None, Option, sym, refl, ap, ◌∙◌, subst, ⊎_elim, arith}
use Rattle.std.specs.List.{slice_range}
use Rattle.types.specs.declared.entries.TypeEntry.{TypeEntry}
use Rattle.types.specs.declared.entries.TypeEntry.TheVariants.{Union}
use Rattle.types.specs.Types.{Ty, Types, no_types, ◌and◌}
use Rattle.types.specs.Table.{entry_at, Is, is_any, is_union}
use Rattle.building.specs.Unions.{◌then◌, In, in_first}
use Rattle.building.specs.Entries.{OpenIn, Opened, HasNoRoom, Adds, AddsAll, Flat, flat_any, flat_one, flat_members}
use Rattle.building.specs.Made.{Hold}
use Rattle.types.proofs.Parts.{known}
use Rattle.building.proofs.Held.{next_held, run_held, none_after}
use Rattle.building.proofs.InOneForm.{Kinds, front_or_end}
use Rattle.building.proofs.OneMore.{in_front, at_end, old_or_new}

pub then_assoc : (xs ys zs : Types) → ((xs then ys) then zs) ≡ (xs then (ys then zs))
then_assoc no_types ys zs = refl
then_assoc (x and xs) ys zs = ap (λ ts. x and ts) (then_assoc xs ys zs)

pub then_none : (xs : Types) → (xs then no_types) ≡ xs
then_none no_types = refl
then_none (x and xs) = ap (λ ts. x and ts) (then_none xs)

-- where the first k of the entries hs have been added
pub record Added (ps fs hs : List TypeEntry) (k m : ℕ) (xs us : Types) : Type 0 where
  pub done : Types
  pub left : Types
  pub all : us ≡ (done then left)
  pub others : Hold ps (length ps) (drop k hs) left
  pub opened : OpenIn ps fs m (xs then done)

abbrev pub Adding : List TypeEntry → List TypeEntry → List TypeEntry → List TypeEntry → ℕ → ℕ → ℕ → Type 0
Adding ps es fs hs n k m = (xs us : Types) → Hold ps (length ps) hs us → Kinds us → OpenIn ps es n xs → Added ps fs hs k m xs us

pub none_added : (ps es hs : List TypeEntry) (n : ℕ) → Adding ps es es hs n 0 n
none_added ps es hs n xs us r kinds o =
    record {
      done = no_types;
      left = us;
      all = refl;
      others = r;
      opened = subst (λ x. OpenIn ps es n x) (sym (then_none xs)) o;
    }

module _ (ps es fs hs : List TypeEntry) (n k m : ℕ) (lt : k < length hs) (a : Adding ps es fs hs n k m) where
  -- one more member added
  pub more_added : (gs : List TypeEntry) (j : ℕ) → Adds ps fs gs m (entry_at hs k) (Some j) → Adding ps es gs hs n (k + 1) j
  more_added gs j d xs us r kinds o =
      let b = a xs us r kinds o in
      let q = next_held hs k lt b.others in
      let t = q.0 in
      let rest = q.1 in
      let whole : us ≡ (b.done then (t and rest)) = b.all ∙ ap (λ x. b.done then x) q.2 in
      let kind = kinds t (subst (λ x. In t x) (sym whole) (at_end b.done in_first)) in
      record {
        done = b.done then (t and no_types);
        left = rest;
        all = whole ∙ sym (then_assoc b.done (t and no_types) rest);
        others = q.4;
        opened = subst (λ x. OpenIn ps gs j x) (then_assoc xs b.done (t and no_types)) (d t kind.0 (xs then b.done) q.3 kind.1 b.opened);
      }

  -- no room for a member
  pub none_fits : (gs : List TypeEntry) → Adds ps fs gs m (entry_at hs k) None → (xs us : Types) → Hold ps (length ps) hs us → Kinds us → OpenIn ps es n xs → HasNoRoom gs (xs then us)
  none_fits gs d xs us r kinds o ms has =
      let b = a xs us r kinds o in
      let q = next_held hs k lt b.others in
      let t = q.0 in
      let rest = q.1 in
      let whole : us ≡ (b.done then (t and rest)) = b.all ∙ ap (λ x. b.done then x) q.2 in
      let kind = kinds t (subst (λ x. In t x) (sym whole) (at_end b.done in_first)) in
      d t kind.0 (xs then b.done) q.3 kind.1 b.opened ms (λ u i.
      has u (⊎_elim
      (λ p. ⊎_elim (λ x. in_front us x) (λ x. at_end xs (subst (λ y. In u y) (sym whole) (in_front (t and rest) x))) (front_or_end xs p))
      (λ f. at_end xs (subst (λ y. In u y) (sym whole) (subst (λ y. In y (b.done then (t and rest))) (sym f) (at_end b.done in_first))))
      (old_or_new (xs then b.done) i)))

-- what the members of a union are
opened_union : {ps : List TypeEntry} {start end size : ℕ} {t : Ty} {ys : Types} → end ≡ start + size → Is ps (length ps) (Union start size) t → Flat t ys → Hold ps (length ps) (slice_range ps start end) ys × Kinds ys
opened_union {ps} {start} {end} {size} {ys} e (is_union low r) (flat_members kinds) =
    let f : size ≡ end - start = omega arith in
    (subst (λ z. Hold ps (length ps) (take z (drop start ps)) ys) f (run_held (length ps) low (omega arith) r), kinds)
opened_union e (is_union low r) (flat_one k) = elim k [ ]

module _ (ps es fs hs : List TypeEntry) (n start size end : ℕ) {e : TypeEntry} (is : e ≡ Union start size) (to : end ≡ start + size) (part : hs ≡ slice_range ps start end) where
  members_of : {t : Ty} {ys : Types} → Is ps (length ps) e t → Flat t ys → Hold ps (length ps) hs ys × Kinds ys
  members_of {ys} h flat = let u = opened_union to (known is h) flat in (subst (λ z. Hold ps (length ps) z ys) (sym part) u.0, u.1)

  pub all_added : (k m : ℕ) → length hs ≤ k → Adding ps es fs hs n k m → AddsAll ps es fs n e (Some m)
  all_added k m le a t xs ys some h flat o =
      let u = members_of h flat in
      let b = a xs ys u.0 u.1 o in
      let e : b.left ≡ no_types = none_after hs k le b.others in
      let f : ys ≡ b.done = b.all ∙ ap (λ x. b.done then x) e ∙ then_none b.done in
      subst (λ x. OpenIn ps fs m (xs then x)) (sym f) b.opened

  pub not_all_added : ((xs us : Types) → Hold ps (length ps) hs us → Kinds us → OpenIn ps es n xs → HasNoRoom fs (xs then us)) → AddsAll ps es fs n e None
  not_all_added d t xs ys some h flat o = let u = members_of h flat in d xs ys u.0 u.1 o

-- a type that is no union
pub one_added : (ps es fs : List TypeEntry) (n : ℕ) {e : TypeEntry} (r : Option ℕ) → ((start size : ℕ) → e ≡ Union start size → ⊥) → Adds ps es fs n e r → AddsAll ps es fs n e r
one_added ps es fs n {e} r single d t xs ys some h flat o = go refl h flat
  where
    go : {x : TypeEntry} {t : Ty} {ys : Types} → e ≡ x → Is ps (length ps) x t → Flat t ys → Opened ps fs (xs then ys) r
    go p is_any flat_any = absurd (some p)
    go p (is_union low x) (flat_members kinds) = absurd (single _ _ p)
    go {t} p x (flat_one {k} tk) = d t k xs (subst (λ y. Is ps (length ps) y t) (sym p) x) tk o

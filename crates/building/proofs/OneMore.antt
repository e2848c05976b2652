-- One more member in an open union. Assumes nothing.
use Rattle.std.proofs.Common.{◌≡◌, ℕ, zero, suc, ◌+◌, ◌-◌, ◌<◌, ◌≤◌, true, false, ◌⊎◌, List, [], ◌∷◌, ◌++◌, length, take, drop, set, Some, None, sym, refl, ap, ap₂, ◌∙◌, subst, inl, inr, ⊎_elim, arith, eq-eqb}
use Rattle.std.specs.List.{copy_within}
use Rattle.std.proofs.Math.Seq.{take-append-add, take-append_seam}
use Rattle.std.proofs.lemmas.List.{append_assoc, drop-take}
use Rattle.std.proofs.lemmas.Grind.{common_steps}
use Rattle.std.proofs.lemmas.Bool.{both_ways, cases_eq}
use Rattle.types.specs.declared.entries.TypeEntry.{TypeEntry}
use Rattle.types.specs.declared.kinds.Kind.{Kind}
use Rattle.types.specs.Types.{Ty, Types, no_types, ◌and◌, count}
use Rattle.types.specs.Kinds.{OfKind, number_kind, number_literal_kind, string_kind, string_literal_kind, boolean_kind, true_kind, false_kind, undefined_kind, null_kind, function_kind, pair_kind, list_kind, rank}
use Rattle.types.specs.Table.{entry_at, Is, is_number, is_number_literal, is_string, is_string_literal, is_boolean, is_true, is_false, is_undefined, is_null, is_function, is_pair, is_list}
use Rattle.types.proofs.Lower.{Agree}
use Rattle.types.proofs.Verdicts.{same_rank}
use Rattle.building.specs.Unions.{◌then◌, In, in_first, in_other, ArrivesBefore, arrives, arrives_later, Precedes, InOrder, order_none, order_more, Members}
use Rattle.building.specs.Entries.{SaysIn, Place, entry_rank, Open, Adds}
use Rattle.building.specs.Made.{Kept, Hold, hold_none, hold_more}
use Rattle.building.proofs.Held.{hold_count}
use Rattle.building.proofs.OneUnion.{not_before_itself, first_or_other, precedes_all, rest_in_order, one_kind}

-- lists with types at their end
pub in_front : {t : Ty} {xs : Types} (ys : Types) → In t xs → In t (xs then ys)
in_front ys in_first = in_first
in_front ys (in_other i) = in_other (in_front ys i)

pub at_end : {t : Ty} {ys : Types} (xs : Types) → In t ys → In t (xs then ys)
at_end no_types i = i
at_end (x and xs) i = in_other (at_end xs i)

pub old_or_new : {t u : Ty} (xs : Types) → In u (xs then (t and no_types)) → In u xs ⊎ (u ≡ t)
old_or_new no_types i = ⊎_elim (λ e. inr e) (λ p. elim p [ ]) (first_or_other i)
old_or_new (x and xs) in_first = inl in_first
old_or_new (x and xs) (in_other i) = ⊎_elim (λ p. inl (in_other p)) (λ e. inr e) (old_or_new xs i)

arrives_wider : {t u : Ty} {xs : Types} (ys : Types) → ArrivesBefore t u xs → ArrivesBefore t u (xs then ys)
arrives_wider ys (arrives ne i) = arrives ne (in_front ys i)
arrives_wider ys (arrives_later ne a) = arrives_later ne (arrives_wider ys a)

-- what arrived before arrives before what is new
arrives_new : {m t : Ty} {xs : Types} → In m xs → (In t xs → ⊥) → ArrivesBefore m t (xs then (t and no_types))
arrives_new {m} {t} (in_first {ts}) new = arrives (λ e. new (subst (λ x. In x (m and ts)) e in_first)) (at_end ts in_first)
arrives_new {m} {t} (in_other {u} {ts} i) new = arrives_later (λ e. new (subst (λ x. In x (u and ts)) e in_first)) (arrives_new i (λ j. new (in_other j)))

precedes_wider : {t u : Ty} {xs : Types} (ys : Types) → Precedes xs t u → Precedes (xs then ys) t u
precedes_wider ys (j, k, tj, uk, x) = (j, k, tj, uk, ⊎_elim (λ lt. inl lt) (λ z. inr (z.0, arrives_wider ys z.1)) x)

order_wider : {xs ms : Types} (ys : Types) → InOrder xs ms → InOrder (xs then ys) ms
order_wider ys order_none = order_none
order_wider ys (order_more p o) = order_more (λ u i. precedes_wider ys (p u i)) (order_wider ys o)

-- a type that is a member already
pub again : {xs ms : Types} {t : Ty} → In t ms → Members xs ms → Members (xs then (t and no_types)) ms
again {xs} {ms} {t} i m = record {
  all = λ u j. ⊎_elim (λ p. m.all u p) (λ e. subst (λ x. In x ms) (sym e) i) (old_or_new xs j);
  only = λ u j. in_front (t and no_types) (m.only u j);
  in_order = order_wider (t and no_types) m.in_order;
}

-- all types of the list have a higher rank than the kind
abbrev pub Above : Kind → Types → Type 0
Above k ms = (u : Ty) → In u ms → (j : Kind) × OfKind u j × (rank k < rank j)

-- the second list is the first one with t, of kind k, after p types, by rank
pub data Put (t : Ty) (k : Kind) : ℕ → Types → Types → Type 0 where
  put_here : {ms : Types} → Above k ms → Put t k 0 ms (t and ms)
  put_later : {p : ℕ} {m : Ty} {j : Kind} {ms ns : Types} → OfKind m j → rank j ≤ rank k → Put t k p ms ns → Put t k (suc p) (m and ms) (m and ns)

put_new : {t : Ty} {k : Kind} {p : ℕ} {ms ns : Types} → Put t k p ms ns → In t ns
put_new (put_here a) = in_first
put_new (put_later m le q) = in_other (put_new q)

put_old : {t u : Ty} {k : Kind} {p : ℕ} {ms ns : Types} → Put t k p ms ns → In u ms → In u ns
put_old (put_here a) i = in_other i
put_old (put_later m le q) in_first = in_first
put_old (put_later m le q) (in_other i) = in_other (put_old q i)

pub put_only : {t u : Ty} {k : Kind} {p : ℕ} {ms ns : Types} → Put t k p ms ns → In u ns → (u ≡ t) ⊎ In u ms
put_only (put_here a) i = first_or_other i
put_only (put_later m le q) in_first = inr in_first
put_only (put_later m le q) (in_other i) = ⊎_elim (λ e. inl e) (λ j. inr (in_other j)) (put_only q i)

put_count : {t : Ty} {k : Kind} {p : ℕ} {ms ns : Types} → Put t k p ms ns → count ns ≡ suc (count ms)
put_count (put_here a) = refl
put_count (put_later m le q) = ap suc (put_count q)

precedes_new : {xs : Types} {m t : Ty} {j k : Kind} → OfKind m j → OfKind t k → rank j ≤ rank k → In m xs → (In t xs → ⊥) → Precedes (xs then (t and no_types)) m t
precedes_new {j} {k} mj tk le i new = (j, k, mj, tk, ⊎_elim (λ e. inr (same_rank j k (eq-eqb (rank j) (rank k) e), arrives_new i new)) (λ ne. inl (omega arith)) (cases_eq (rank j) (rank k)))

put_order : {xs : Types} {t : Ty} {k : Kind} {p : ℕ} {ms ns : Types} → OfKind t k → (In t xs → ⊥) → ((u : Ty) → In u ms → In u xs) → InOrder xs ms → Put t k p ms ns → InOrder (xs then (t and no_types)) ns
put_order {t} {k} tk new only o (put_here a) = order_more (λ u i. let x = a u i in (k, x.0, tk, x.1, inl x.2)) (order_wider (t and no_types) o)
put_order {xs} {t} tk new only o (put_later {m} mj le q) =
    order_more
    (λ u i. ⊎_elim (λ e. subst (λ x. Precedes (xs then (t and no_types)) m x) (sym e) (precedes_new mj tk le (only m in_first) new)) (λ j. precedes_wider (t and no_types) (precedes_all o j)) (put_only q i))
    (put_order tk new (λ u i. only u (in_other i)) (rest_in_order o) q)

pub put_members : {xs ms ns : Types} {t : Ty} {k : Kind} {p : ℕ} → OfKind t k → (In t ms → ⊥) → Members xs ms → Put t k p ms ns → Members (xs then (t and no_types)) ns
put_members {xs} {ns} {t} tk new m q = record {
  all = λ u i. ⊎_elim (λ j. put_old q (m.all u j)) (λ e. subst (λ x. In x ns) (sym e) (put_new q)) (old_or_new xs i);
  only = λ u i. ⊎_elim (λ e. subst (λ x. In x (xs then (t and no_types))) (sym e) (at_end xs in_first)) (λ j. in_front (t and no_types) (m.only u j)) (put_only q i);
  in_order = put_order tk (λ i. new (m.all t i)) m.only m.in_order q;
}

-- ranks of entries
rank_held : {es : List TypeEntry} {n : ℕ} {e : TypeEntry} {t : Ty} {k : Kind} → OfKind t k → Is es n e t → entry_rank e ≡ rank k
rank_held number_kind is_number = refl
rank_held number_literal_kind (is_number_literal p q) = refl
rank_held string_kind is_string = refl
rank_held string_literal_kind (is_string_literal low p u) = refl
rank_held boolean_kind is_boolean = refl
rank_held true_kind is_true = refl
rank_held false_kind is_false = refl
rank_held undefined_kind is_undefined = refl
rank_held null_kind is_null = refl
rank_held function_kind (is_function low r x) = refl
rank_held pair_kind (is_pair low low' x y) = refl
rank_held list_kind (is_list low x) = refl

-- a type in order is of no lower rank than those before it
pub no_lower : {xs : Types} {t u : Ty} {j : Kind} → OfKind t j → Precedes xs t u → (k : Kind) × OfKind u k × (rank j ≤ rank k)
no_lower {j} tj (i, k, ti, uk, x) =
    let e : rank j ≡ rank i = ap rank (one_kind tj ti) in
    (k, uk, ⊎_elim (λ lt. omega arith) (λ z. let f : rank i ≡ rank k = ap rank z.0 in omega arith) x)

find_place : {ps hs : List TypeEntry} {xs : Types} (t : Ty) (k : Kind) (p : ℕ) {ms : Types} → Hold ps (length ps) hs ms → InOrder xs ms → ((u : Ty) → In u ms → (k : Kind) × OfKind u k) → p ≤ length hs → ((j : ℕ) → j < p → entry_rank (entry_at hs j) ≤ rank k) → (p < length hs → rank k < entry_rank (entry_at hs p)) → (ns : Types) × Put t k p ms ns
find_place t k zero hold_none o kinds le before next = (t and no_types, put_here (λ u i. elim i [ ]))
find_place t k (suc p) hold_none o kinds le before next = absurd (omega arith)
find_place t k zero (hold_more {e} {t = m} {ts} x s) o kinds le before next =
    let j = kinds m in_first in
    let same : entry_rank e ≡ rank j.0 = rank_held j.1 x in
    let lt : rank k < entry_rank e = next (omega arith) in
    (t and m and ts, put_here (λ u q. ⊎_elim (λ f. (j.0, subst (λ y. OfKind y j.0) (sym f) j.1, omega arith)) (λ r. let z = no_lower j.1 (precedes_all o r) in (z.0, z.1, let g = z.2 in omega arith)) (first_or_other q)))
find_place t k (suc p) (hold_more {e} {t = m} {ts} x s) o kinds le before next =
    let j = kinds m in_first in
    let f : entry_rank e ≡ rank j.0 = rank_held j.1 x in
    let low : entry_rank e ≤ rank k = before 0 (omega arith) in
    let r = find_place t k p s (rest_in_order o) (λ u q. kinds u (in_other q)) (omega arith) (λ l lt. before (suc l) (omega arith)) (λ lt. next (omega arith)) in
    (m and r.0, put_later j.1 (omega arith) r.1)

-- the table after
pub agree : {es fs : List TypeEntry} {first : ℕ} → Kept es fs first → Agree es fs first
agree k = record { same = λ j lt. sym (k j lt) }

put_held : {t : Ty} {k : Kind} {p : ℕ} {ms ns : Types} {ps hs : List TypeEntry} {e : TypeEntry} → Is ps (length ps) e t → Hold ps (length ps) hs ms → Put t k p ms ns → Hold ps (length ps) (take p hs ++ e ∷ drop p hs) ns
put_held h s (put_here above) = hold_more h s
put_held h (hold_more x s) (put_later m le r) = hold_more x (put_held h s r)

-- a list without repeats is no longer than one that has all its types
without : {u : Ty} {ms : Types} → In u ms → (ns : Types) × (count ms ≡ suc (count ns)) × ((v : Ty) → In v ms → (v ≡ u) ⊎ In v ns)
without (in_first {ts}) = (ts, refl, λ v i. first_or_other i)
without (in_other {u} {ts} i) =
    let w = without i in
    (u and w.0, ap suc w.1, λ v j. ⊎_elim (λ e. inr (subst (λ x. In x (u and w.0)) (sym e) in_first)) (λ p. ⊎_elim (λ e. inl e) (λ q. inr (in_other q)) (w.2 v p)) (first_or_other j))

no_shorter : {xs : Types} (ns ms : Types) → InOrder xs ns → ((u : Ty) → In u ns → In u ms) → count ns ≤ count ms
no_shorter no_types ms o all = omega arith
no_shorter (n and ns) ms o all =
    let w = without (all n in_first) in
    let le = no_shorter ns w.0 (rest_in_order o) (λ u i. ⊎_elim (λ e. absurd (not_before_itself o (subst (λ x. In x ns) e i))) (λ p. p) (w.2 u (all u (in_other i)))) in
    let e = w.1 in
    omega arith

set_seam : (es rest : List TypeEntry) (p : ℕ) (e : TypeEntry) → p < length es → set (take (suc p) es ++ rest) p e ≡ take p es ++ e ∷ rest
set_seam [] rest p e lt = absurd (omega arith)
set_seam (x ∷ es) rest zero e lt = refl
set_seam (x ∷ es) rest (suc p) e lt = ap (λ z. x ∷ z) (set_seam es rest p e (omega arith))

take_front : (xs ys zs : List TypeEntry) (e : TypeEntry) (n : ℕ) → n ≡ length xs + length ys → take (n + 1) (xs ++ e ∷ (ys ++ zs)) ≡ xs ++ e ∷ ys
take_front xs ys zs e n is =
    let f : n + 1 ≡ length xs + suc (length ys) = omega arith in
    ap (λ k. take k (xs ++ e ∷ (ys ++ zs))) f ∙ take-append-add xs (e ∷ (ys ++ zs)) (suc (length ys)) ∙ ap (λ z. xs ++ e ∷ z) (take-append_seam ys zs)

-- the slots with an entry put in among the first n
pub put_in : (es : List TypeEntry) (n p : ℕ) (e : TypeEntry) → p ≤ n → n < length es → take (n + 1) (set (copy_within es p n (p + 1)) p e) ≡ take p (take n es) ++ e ∷ drop p (take n es)
put_in es n p e le lt =
    let m = take (n - p) (drop p es) in
    let d = drop (p + 1 + (n - p)) es in
    let long : length (take p es) ≡ p = grind (arith, common_steps) in
    let rest : length m ≡ n - p = grind (arith, common_steps) in
    let sum : p + (n - p) ≡ n = omega arith in
    let low : take p es ≡ take p (take n es) = grind (arith, common_steps) in
    let high : m ≡ drop p (take n es) = sym (drop-take p (n - p) es) ∙ ap (λ k. drop p (take k es)) sum in
    let next : p + 1 ≡ suc p = omega arith in
    let pasted : copy_within es p n (p + 1) ≡ take (suc p) es ++ (m ++ d) = append_assoc (take (p + 1) es) m d ∙ ap (λ k. take k es ++ (m ++ d)) next in
    ap (λ z. take (n + 1) (set z p e)) pasted ∙ ap (take (n + 1)) (set_seam es (m ++ d) p e (omega arith)) ∙ take_front (take p es) m d e n (omega arith) ∙ ap₂ (λ x y. x ++ e ∷ y) low high

-- the three ways out
pub member_already : (ps es : List TypeEntry) {hs : List TypeEntry} (n : ℕ) {e : TypeEntry} → hs ≡ take n es → SaysIn ps hs e true → Adds ps es es n e (Some n)
member_already ps es n {e} is d t k xs h tk (low, o) =
    let i = subst (λ z. SaysIn ps z e true) is d t o.members h o.stored in
    (low, record { members = o.members; stored = o.stored; are_members = again (i.0 refl) o.are_members; of_kinds = o.of_kinds })

placed : {ps hs : List TypeEntry} (p r : ℕ) {xs : Types} (t : Ty) (k : Kind) → r ≡ rank k → (o : Open ps hs xs) → Place hs r p → (ns : Types) × Put t k p o.members ns
placed p r t k e o pl =
    find_place t k p o.stored o.are_members.in_order o.of_kinds pl.within (λ j lt. let x = pl.before j lt in omega arith) (λ lt. let x = pl.next lt in omega arith)

new_member : {ps hs : List TypeEntry} {e : TypeEntry} {t : Ty} {ms : Types} → SaysIn ps hs e false → Is ps (length ps) e t → Hold ps (length ps) hs ms → In t ms → ⊥
new_member d h s i = both_ways false refl ((d _ _ h s).1 i)

module _ (ps es : List TypeEntry) {hs : List TypeEntry} (n p r : ℕ) {e : TypeEntry} (is : hs ≡ take n es) (d : SaysIn ps hs e false) (re : r ≡ entry_rank e) (pl : Place hs r p) where
  -- the members with the new one
  record With (t : Ty) (xs : Types) : Type 0 where
    after : Types
    held : Hold ps (length ps) (take p hs ++ e ∷ drop p hs) after
    more : count after ≡ suc (length hs)
    members : Members (xs then (t and no_types)) after
    kinds : (u : Ty) → In u after → (k : Kind) × OfKind u k

  with_one : {t : Ty} {k : Kind} {xs : Types} → Is ps (length ps) e t → OfKind t k → Open ps hs xs → With t xs
  with_one {t} {k} h tk o =
      let q = placed p r t k (re ∙ rank_held tk h) o pl in
      record {
        after = q.0;
        held = put_held h o.stored q.1;
        more = put_count q.1 ∙ ap suc (hold_count o.stored);
        members = put_members tk (new_member d h o.stored) o.are_members q.1;
        kinds = λ u i. ⊎_elim (λ g. (k, subst (λ x. OfKind x k) (sym g) tk)) (λ j. o.of_kinds u j) (put_only q.1 i);
      }

  pub no_room : length es ≤ n → Adds ps es es n e None
  no_room full t k xs h tk (low, o) ms m =
      let w = with_one h tk (subst (λ z. Open ps z xs) (sym is) o) in
      let all : length hs ≡ n = grind (arith, common_steps) in
      let long = w.more in
      let le = no_shorter w.after ms w.members.in_order (λ u i. m u (w.members.only u i)) in
      omega arith

  pub one_more_member : (fs : List TypeEntry) → n + 1 ≤ length fs → take (n + 1) fs ≡ take p (take n es) ++ e ∷ drop p (take n es) → Adds ps es fs n e (Some (n + 1))
  one_more_member fs room put t k xs h tk (low, o) =
      let w = with_one h tk (subst (λ z. Open ps z xs) (sym is) o) in
      let all : take p hs ++ e ∷ drop p hs ≡ take (n + 1) fs = ap (λ z. take p z ++ e ∷ drop p z) is ∙ sym put in
      (room, record { members = w.after; stored = subst (λ z. Hold ps (length ps) z w.after) all w.held; are_members = w.members; of_kinds = w.kinds })

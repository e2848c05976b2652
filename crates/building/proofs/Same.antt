-- When two entries hold the same type. Assumes nothing.
use Rattle.std.proofs.Common.{◌≡◌, ℕ, zero, suc, ◌+◌, ◌-◌, ◌<◌, ◌≤◌, Bool, true, false, ◌⊎◌, List, length, Decides, sym, refl, ap, ◌∙◌, subst, ap₂, inl, inr, ⊎_elim, add-zero, arith}
use Rattle.std.proofs.lemmas.Bool.{both_ways}
use Rattle.types.specs.Values.{Text}
use Rattle.types.specs.declared.entries.TypeEntry.{TypeEntry}
use Rattle.types.specs.declared.entries.TypeEntry.TheVariants.{Unused, Any, Number, NumberLiteral, String, StringLiteral, Boolean, True, False, Undefined, Null, Function, Pair, List as ListOf, Union}
use Rattle.types.specs.Types.{Ty, Types, any, number, number_literal, string, string_literal, boolean, true_literal, false_literal, undefined, null, function, pair, list, union, no_types, ◌and◌}
use Rattle.types.specs.Table.{entry_at, SaysSame, Is, is_any, is_number, is_number_literal, is_string, is_string_literal, is_boolean, is_true, is_false, is_undefined, is_null, is_function, is_pair, is_list, is_union, Run, run_end, run_more}
use Rattle.types.proofs.Parts.{known, same_decimal, same_text}
use Rattle.types.specs.declared.entries.Root.{Root}
use Rattle.types.specs.Roots.{root_at}
use Rattle.building.specs.Entries.{SaysSameRuns}
use Rattle.building.specs.Made.{SaysSameType}

says_no : {es : List TypeEntry} {n m : ℕ} {a b : TypeEntry} → ((s t : Ty) → Is es n a s → Is es m b t → s ≡ t → ⊥) → SaysSameType es n a m b false
says_no f le le' s t x y = (λ e. absurd (both_ways false refl e), λ e. absurd (f s t x y e))

-- the types at two indexes, taken out of the table
pub at_both : {es : List TypeEntry} {k l : ℕ} {r : Bool} (x y : Root) → x ≡ root_at es k → y ≡ root_at es l → SaysSameType es x.used x.entry y.used y.entry r → SaysSameType es k (entry_at es k) l (entry_at es l) r
at_both {es} {k} {r} x y p q f =
    let h = subst (λ z. SaysSameType es z.used z.entry y.used y.entry r) p f in
    subst (λ z. SaysSameType es k (entry_at es k) z.used z.entry r) q h

-- the entry of a type without parts; the other types have none
unfoldable pub leaf : Ty → TypeEntry
leaf any = Any
leaf number = Number
leaf (number_literal d) = NumberLiteral d.digits d.exponent
leaf string = String
leaf (string_literal s) = Unused
leaf boolean = Boolean
leaf true_literal = True
leaf false_literal = False
leaf undefined = Undefined
leaf null = Null
leaf (function ps r) = Unused
leaf (pair a b) = Unused
leaf (list t) = Unused
leaf (union t ts) = Unused

leaf_held : {es : List TypeEntry} {n : ℕ} {e : TypeEntry} {t : Ty} → Is es n e t → (leaf t ≡ Unused) ⊎ (e ≡ leaf t)
unfolding leaf
leaf_held is_any = inr refl
leaf_held is_number = inr refl
leaf_held (is_number_literal p q) = inr (ap₂ NumberLiteral (sym p) (sym q))
leaf_held is_string = inr refl
leaf_held (is_string_literal low p u) = inl refl
leaf_held is_boolean = inr refl
leaf_held is_true = inr refl
leaf_held is_false = inr refl
leaf_held is_undefined = inr refl
leaf_held is_null = inr refl
leaf_held (is_function low r x) = inl refl
leaf_held (is_pair low low' x y) = inl refl
leaf_held (is_list low x) = inl refl
leaf_held (is_union low r) = inl refl

no_type : {es : List TypeEntry} {n : ℕ} {t : Ty} → Is es n Unused t → ⊥
no_type h = elim h [ ]

module _ {a : TypeEntry}
    (s : (first size : ℕ) → a ≡ StringLiteral first size → ⊥)
    (f : (first size : ℕ) → a ≡ Function first size → ⊥)
    (p : (head tail : ℕ) → a ≡ Pair head tail → ⊥)
    (l : (element : ℕ) → a ≡ ListOf element → ⊥)
    (u : (first size : ℕ) → a ≡ Union first size → ⊥) where
  leaf_is : {es : List TypeEntry} {i : ℕ} {e : TypeEntry} {t : Ty} → a ≡ e → Is es i e t → e ≡ leaf t
  unfolding leaf
  leaf_is e is_any = refl
  leaf_is e is_number = refl
  leaf_is e (is_number_literal x y) = ap₂ NumberLiteral (sym x) (sym y)
  leaf_is e is_string = refl
  leaf_is e (is_string_literal low x y) = absurd (s _ _ e)
  leaf_is e is_boolean = refl
  leaf_is e is_true = refl
  leaf_is e is_false = refl
  leaf_is e is_undefined = refl
  leaf_is e is_null = refl
  leaf_is e (is_function low r x) = absurd (f _ _ e)
  leaf_is e (is_pair low low' x y) = absurd (p _ _ e)
  leaf_is e (is_list low x) = absurd (l _ e)
  leaf_is e (is_union low r) = absurd (u _ _ e)

  one_leaf : {es : List TypeEntry} {i j : ℕ} {e : TypeEntry} {t v : Ty} → a ≡ e → Is es i e t → Is es j e v → t ≡ v
  one_leaf e is_any is_any = refl
  one_leaf e is_number is_number = refl
  one_leaf e (is_number_literal {d} x y) (is_number_literal {d = c} z w) = ap number_literal (same_decimal d c (x ∙ sym z) (y ∙ sym w))
  one_leaf e is_string is_string = refl
  one_leaf e (is_string_literal low x y) h = absurd (s _ _ e)
  one_leaf e is_boolean is_boolean = refl
  one_leaf e is_true is_true = refl
  one_leaf e is_false is_false = refl
  one_leaf e is_undefined is_undefined = refl
  one_leaf e is_null is_null = refl
  one_leaf e (is_function low r x) h = absurd (f _ _ e)
  one_leaf e (is_pair low low' x y) h = absurd (p _ _ e)
  one_leaf e (is_list low x) h = absurd (l _ e)
  one_leaf e (is_union low r) h = absurd (u _ _ e)

  pub leaves_same : {es : List TypeEntry} {i j : ℕ} {b : TypeEntry} {r : Bool} → Decides r (a ≡ b) → SaysSameType es i a j b r
  leaves_same {es} {i} {j} {b} d le le' x y hx hy = (
    λ o. one_leaf refl hx (subst (λ e. Is es j e y) (sym (d.0 o)) hy),
    λ e.
        let k : a ≡ leaf x = leaf_is refl hx in
        ⊎_elim
        (λ n. absurd (no_type (subst (λ z. Is es i z x) (k ∙ ap leaf e ∙ n) hx)))
        (λ m. d.1 (k ∙ ap leaf e ∙ sym m))
        (leaf_held hy),
  )

-- two entries that are not the same, and hold different types
pub not_alike : {es : List TypeEntry} {i j : ℕ} {a b : TypeEntry} (r : Bool) → Decides r (a ≡ b) → (a ≡ b → ⊥) → SaysSameType es i a j b false → SaysSameType es i a j b r
not_alike true d ne f = absurd (ne (d.0 refl))
not_alike false d ne f = f

-- string literals
string_of : {x y : Text} → string_literal x ≡ string_literal y → x ≡ y
string_of p = cc

pub strings_same : {es : List TypeEntry} {i j f g n : ℕ} {a b : TypeEntry} {r : Bool} → a ≡ StringLiteral f n → b ≡ StringLiteral g n → SaysSame es f g n r → SaysSameType es i a j b r
strings_same {es} {i} {j} {f} {g} {n} {a} {b} {r} is js d le le' s t hs ht = go (known is hs) (known js ht)
  where
    go : {s t : Ty} → Is es i (StringLiteral f n) s → Is es j (StringLiteral g n) t → Decides r (s ≡ t)
    go (is_string_literal {s = x} lx p u) (is_string_literal {s = y} ly q v) =
        let same = d x.units y.units p q (omega arith) (omega arith) u v in (
          λ o. ap string_literal (same_text x y (same.0 o)),
          λ o. same.1 (ap (λ z. z.units) (string_of o)),
        )

pub not_string : {es : List TypeEntry} {i j f m : ℕ} {a b : TypeEntry} → a ≡ StringLiteral f m → ((first size : ℕ) → b ≡ StringLiteral first size → ⊥) → SaysSameType es i a j b false
not_string {es} {i} {j} {f} {m} {a} {b} is n = says_no (λ s t hs ht q. go refl (known is hs) q ht)
  where
    back : {x : Text} {e : TypeEntry} → b ≡ e → Is es j e (string_literal x) → ⊥
    back p (is_string_literal low u v) = n _ _ p

    go : {s t : Ty} {e : TypeEntry} → b ≡ e → Is es i (StringLiteral f m) s → s ≡ t → Is es j e t → ⊥
    go {e} p (is_string_literal low u v) q x = back p (subst (λ z. Is es j e z) (sym q) x)

-- pairs
heads_of : {a b c d : Ty} → pair a b ≡ pair c d → a ≡ c
heads_of p = cc

tails_of : {a b c d : Ty} → pair a b ≡ pair c d → b ≡ d
tails_of p = cc

module _ {es : List TypeEntry} {i j head tail h t : ℕ} {a b : TypeEntry} (is : a ≡ Pair head tail) (js : b ≡ Pair h t) where
  pub heads_apart : {r : Bool} → r ≡ false → SaysSameType es head (entry_at es head) h (entry_at es h) r → SaysSameType es i a j b r
  heads_apart {r} neg d le le' x y hx hy = go (known is hx) (known js hy)
    where
      go : {x y : Ty} → Is es i (Pair head tail) x → Is es j (Pair h t) y → Decides r (x ≡ y)
      go (is_pair low low' p q) (is_pair low'' low''' u v) =
          let e = d (omega arith) (omega arith) _ _ p u in
          (λ o. absurd (both_ways false refl (sym neg ∙ o)), λ o. e.1 (heads_of o))

  pub tails_same : {r : Bool} → SaysSameType es head (entry_at es head) h (entry_at es h) true → SaysSameType es tail (entry_at es tail) t (entry_at es t) r → SaysSameType es i a j b r
  tails_same {r} c d le le' x y hx hy = go (known is hx) (known js hy)
    where
      go : {x y : Ty} → Is es i (Pair head tail) x → Is es j (Pair h t) y → Decides r (x ≡ y)
      go (is_pair low low' p q) (is_pair low'' low''' u v) =
          let e = c (omega arith) (omega arith) _ _ p u in
          let f = d (omega arith) (omega arith) _ _ q v in
          (λ o. ap₂ pair (e.0 refl) (f.0 o), λ o. f.1 (tails_of o))

pub not_pair : {es : List TypeEntry} {i j head tail : ℕ} {a b : TypeEntry} → a ≡ Pair head tail → ((h t : ℕ) → b ≡ Pair h t → ⊥) → SaysSameType es i a j b false
not_pair {es} {i} {j} {head} {tail} {a} {b} is n = says_no (λ s t hs ht q. go refl (known is hs) q ht)
  where
    back : {x y : Ty} {e : TypeEntry} → b ≡ e → Is es j e (pair x y) → ⊥
    back p (is_pair low low' u v) = n _ _ p

    go : {s t : Ty} {e : TypeEntry} → b ≡ e → Is es i (Pair head tail) s → s ≡ t → Is es j e t → ⊥
    go {e} p (is_pair low low' u v) q x = back p (subst (λ z. Is es j e z) (sym q) x)

-- lists
element_of : {a b : Ty} → list a ≡ list b → a ≡ b
element_of p = cc

pub lists_same : {es : List TypeEntry} {i j x y : ℕ} {a b : TypeEntry} {r : Bool} → a ≡ ListOf x → b ≡ ListOf y → SaysSameType es x (entry_at es x) y (entry_at es y) r → SaysSameType es i a j b r
lists_same {es} {i} {j} {x} {y} {a} {b} {r} is js d le le' s t hs ht = go (known is hs) (known js ht)
  where
    go : {s t : Ty} → Is es i (ListOf x) s → Is es j (ListOf y) t → Decides r (s ≡ t)
    go (is_list low p) (is_list low' q) =
        let e = d (omega arith) (omega arith) _ _ p q in
        (λ o. ap list (e.0 o), λ o. e.1 (element_of o))

pub not_list : {es : List TypeEntry} {i j element : ℕ} {a b : TypeEntry} → a ≡ ListOf element → ((x : ℕ) → b ≡ ListOf x → ⊥) → SaysSameType es i a j b false
not_list {es} {i} {j} {element} {a} {b} is n = says_no (λ s t hs ht q. go refl (known is hs) q ht)
  where
    back : {x : Ty} {e : TypeEntry} → b ≡ e → Is es j e (list x) → ⊥
    back p (is_list low u) = n _ p

    go : {s t : Ty} {e : TypeEntry} → b ≡ e → Is es i (ListOf element) s → s ≡ t → Is es j e t → ⊥
    go {e} p (is_list low u) q x = back p (subst (λ z. Is es j e z) (sym q) x)

-- runs
counted : Types → ℕ
counted no_types = 0
counted (t and ts) = suc (counted ts)

run_counted : {es : List TypeEntry} {first size : ℕ} {ts : Types} → Run es first size ts → counted ts ≡ size
unfolding counted
run_counted run_end = refl
run_counted (run_more x r) = ap suc (run_counted r)

-- the entries at the same place of two runs
abbrev At : List TypeEntry → ℕ → ℕ → ℕ → Bool → Type 0
At es f g k r = SaysSameType es (f + k) (entry_at es (f + k)) (g + k) (entry_at es (g + k)) r

-- the same, counted from the second entry on
further : (es : List TypeEntry) (f g k : ℕ) (r : Bool) → At es f g (suc k) r → At es (suc f) (suc g) k r
further es f g k r p =
    let e : f + suc k ≡ suc f + k = omega arith in
    let h : g + suc k ≡ suc g + k = omega arith in
    subst (λ y. SaysSameType es (suc f + k) (entry_at es (suc f + k)) y (entry_at es y) r) h (subst (λ x. SaysSameType es x (entry_at es x) (g + suc k) (entry_at es (g + suc k)) r) e p)

here : (es : List TypeEntry) (f g : ℕ) (r : Bool) → At es f g 0 r → SaysSameType es f (entry_at es f) g (entry_at es g) r
here es f g r p = simp add-zero at p

first_of : {t u : Ty} {ts us : Types} → (t and ts) ≡ (u and us) → t ≡ u
first_of p = cc

others_of : {t u : Ty} {ts us : Types} → (t and ts) ≡ (u and us) → ts ≡ us
others_of p = cc

runs_same : {es : List TypeEntry} {f g n : ℕ} {ts us : Types} → Run es f n ts → Run es g n us → f + n ≤ length es → g + n ≤ length es → ((k : ℕ) → k < n → At es f g k true) → ts ≡ us
runs_same run_end run_end low low' all = refl
runs_same {es} {f} {g} (run_more x r) (run_more y q) low low' all =
    ap₂ ◌and◌ ((here es f g true (all 0 (omega arith)) (omega arith) (omega arith) _ _ x y).0 refl) (runs_same r q (omega arith) (omega arith) (λ k lt. further es f g k true (all (suc k) (omega arith))))

runs_apart : {es : List TypeEntry} {f g n : ℕ} {ts us : Types} (k : ℕ) → Run es f n ts → Run es g n us → f + n ≤ length es → g + n ≤ length es → k < n → At es f g k false → ts ≡ us → ⊥
runs_apart k run_end run_end low low' lt d e = omega arith
runs_apart {es} {f} {g} zero (run_more x r) (run_more y q) low low' lt d e = both_ways false refl ((here es f g false d (omega arith) (omega arith) _ _ x y).1 (first_of e))
runs_apart {es} {f} {g} (suc k) (run_more x r) (run_more y q) low low' lt d e = runs_apart k r q (omega arith) (omega arith) (omega arith) (further es f g k false d) (others_of e)

-- two runs by the indexes where they begin and end
module _ {es : List TypeEntry} {first end other stop : ℕ} where
  pub runs_unlike : (end - first ≡ stop - other → ⊥) → SaysSameRuns es first end other stop false
  runs_unlike ne up on low high ts us r q = (
    λ o. absurd (both_ways false refl o),
    λ e. absurd (ne (sym (run_counted r) ∙ ap counted e ∙ run_counted q)),
  )

  pub runs_alike : end - first ≡ stop - other → ((k : ℕ) → k < end - first → At es first other k true) → SaysSameRuns es first end other stop true
  runs_alike n all up on low high ts us r q = (
    λ o. runs_same r (subst (λ k. Run es other k us) (sym n) q) (omega arith) (omega arith) all,
    λ e. refl,
  )

  pub runs_differ : (x y : ℕ) → end - first ≡ stop - other → first ≤ x → x < end → y ≡ other + (x - first) → SaysSameType es x (entry_at es x) y (entry_at es y) false → SaysSameRuns es first end other stop false
  runs_differ x y n le lt there d up on low high ts us r q =
      let k = x - first in
      let here : x ≡ first + k = omega arith in
      let at : At es first other k false = subst (λ i. SaysSameType es (first + k) (entry_at es (first + k)) i (entry_at es i) false) there (subst (λ i. SaysSameType es i (entry_at es i) y (entry_at es y) false) here d) in (
        λ o. absurd (both_ways false refl o),
        λ e. absurd (runs_apart k r (subst (λ m. Run es other m us) (sym n) q) (omega arith) (omega arith) (omega arith) at e),
      )

-- a run by the indexes where it begins and ends
pub run_from : {es : List TypeEntry} {first size : ℕ} {ts : Types} (from end : ℕ) → from ≡ first → end ≡ first + size → Run es first size ts → Run es from (end - from) ts
run_from {es} {first} {size} {ts} from end e f r =
    let n : size ≡ end - from = omega arith in
    subst (λ k. Run es k (end - from) ts) (sym e) (subst (λ k. Run es first k ts) n r)

-- functions
params_of : {ps qs : Types} {r u : Ty} → function ps r ≡ function qs u → ps ≡ qs
params_of p = cc

result_of : {ps qs : Types} {r u : Ty} → function ps r ≡ function qs u → r ≡ u
result_of p = cc

pub function_low : {es : List TypeEntry} {i f n : ℕ} {a : TypeEntry} {s : Ty} → a ≡ Function f n → Is es i a s → f + n < i
function_low {es} {i} {f} {n} is h = go (known is h)
  where
    go : {s : Ty} → Is es i (Function f n) s → f + n < i
    go (is_function low r x) = low

module _ {es : List TypeEntry} {i j f m g n : ℕ} {a b : TypeEntry} (is : a ≡ Function f m) (js : b ≡ Function g n) (from end other stop : ℕ) (e : from ≡ f) (e' : end ≡ f + m) (h : other ≡ g) (h' : stop ≡ g + n) where
  pub parameters_apart : {r : Bool} → r ≡ false → SaysSameRuns es from end other stop r → SaysSameType es i a j b r
  parameters_apart {r} neg d le le' s t hs ht = go (known is hs) (known js ht)
    where
      go : {s t : Ty} → Is es i (Function f m) s → Is es j (Function g n) t → Decides r (s ≡ t)
      go (is_function {ps} low p x) (is_function {ps = qs} low' q y) =
          let w = d (omega arith) (omega arith) (omega arith) (omega arith) ps qs (run_from from end e e' p) (run_from other stop h h' q) in
          (λ o. absurd (both_ways false refl (sym neg ∙ o)), λ o. w.1 (params_of o))

  pub results_same : {r : Bool} → SaysSameRuns es from end other stop true → SaysSameType es (f + m) (entry_at es (f + m)) (g + n) (entry_at es (g + n)) r → SaysSameType es i a j b r
  results_same {r} c d le le' s t hs ht = go (known is hs) (known js ht)
    where
      go : {s t : Ty} → Is es i (Function f m) s → Is es j (Function g n) t → Decides r (s ≡ t)
      go (is_function {ps} low p x) (is_function {ps = qs} low' q y) =
          let v = c (omega arith) (omega arith) (omega arith) (omega arith) ps qs (run_from from end e e' p) (run_from other stop h h' q) in
          let w = d (omega arith) (omega arith) _ _ x y in
          (λ o. ap₂ function (v.0 refl) (w.0 o), λ o. w.1 (result_of o))

pub not_function : {es : List TypeEntry} {i j f n : ℕ} {a b : TypeEntry} → a ≡ Function f n → ((first size : ℕ) → b ≡ Function first size → ⊥) → SaysSameType es i a j b false
not_function {es} {i} {j} {f} {n} {a} {b} is none = says_no (λ s t hs ht q. go refl (known is hs) q ht)
  where
    back : {ps : Types} {r : Ty} {e : TypeEntry} → b ≡ e → Is es j e (function ps r) → ⊥
    back p (is_function low u v) = none _ _ p

    go : {s t : Ty} {e : TypeEntry} → b ≡ e → Is es i (Function f n) s → s ≡ t → Is es j e t → ⊥
    go {e} p (is_function low u v) q x = back p (subst (λ z. Is es j e z) (sym q) x)

-- unions
members_of : {t u : Ty} {ts us : Types} → union t ts ≡ union u us → (t and ts) ≡ (u and us)
members_of p = cc

union_of : {t u : Ty} {ts us : Types} → (t and ts) ≡ (u and us) → union t ts ≡ union u us
union_of p = cc

pub union_low : {es : List TypeEntry} {i f n : ℕ} {a : TypeEntry} {s : Ty} → a ≡ Union f n → Is es i a s → f + n ≤ i
union_low {es} {i} {f} {n} is h = go (known is h)
  where
    go : {s : Ty} → Is es i (Union f n) s → f + n ≤ i
    go (is_union low r) = low

pub members_same : {es : List TypeEntry} {i j f m g n : ℕ} {a b : TypeEntry} {r : Bool} → a ≡ Union f m → b ≡ Union g n → (from end other stop : ℕ) → from ≡ f → end ≡ f + m → other ≡ g → stop ≡ g + n → SaysSameRuns es from end other stop r → SaysSameType es i a j b r
members_same {es} {i} {j} {f} {m} {g} {n} {a} {b} {r} is js from end other stop e e' h h' d le le' s t hs ht = go (known is hs) (known js ht)
  where
    go : {s t : Ty} → Is es i (Union f m) s → Is es j (Union g n) t → Decides r (s ≡ t)
    go (is_union {t = x} {ts = xs} low p) (is_union {t = y} {ts = ys} low' q) =
        let w = d (omega arith) (omega arith) (omega arith) (omega arith) (x and xs) (y and ys) (run_from from end e e' p) (run_from other stop h h' q) in
        (λ o. union_of (w.0 o), λ o. w.1 (members_of o))

pub not_union : {es : List TypeEntry} {i j f n : ℕ} {a b : TypeEntry} → a ≡ Union f n → ((first size : ℕ) → b ≡ Union first size → ⊥) → SaysSameType es i a j b false
not_union {es} {i} {j} {f} {n} {a} {b} is none = says_no (λ s t hs ht q. go refl (known is hs) q ht)
  where
    back : {u : Ty} {us : Types} {e : TypeEntry} → b ≡ e → Is es j e (union u us) → ⊥
    back p (is_union low r) = none _ _ p

    go : {s t : Ty} {e : TypeEntry} → b ≡ e → Is es i (Union f n) s → s ≡ t → Is es j e t → ⊥
    go {e} p (is_union low r) q x = back p (subst (λ z. Is es j e z) (sym q) x)

-- Two types taken apart together: what the answer for two entries follows from. Assumes nothing.
use Rattle.std.proofs.Common.{◌≡◌, ℕ, suc, ◌+◌, ◌-◌, ◌<◌, ◌≤◌, Bool, true, false, List, length, get_or, slice_index, take, drop, length-drop, ℤ, Some, None, Option, Decides, sym, refl, ap, ◌∙◌, subst, ⊎_elim, arith, rules}
use mathlib.Core.Bool.{Bool-set}
use mathlib.Core.HLevel.{is_prop→PathP}
use Rattle.std.proofs.lemmas.List.{get_or_default, same_lists, get_or-take, get_or-drop, length-take}
use Rattle.std.proofs.lemmas.Bool.{both_ways, cases_eq}
use Rattle.types.specs.declared.entries.TypeEntry.{TypeEntry}
use Rattle.types.specs.contracts.entries.TypeEntryPartialEq.TheImpl.{eq-value}
use Rattle.types.specs.declared.entries.TypeEntry.TheVariants.{Unused, CodeUnit, NumberLiteral, StringLiteral, Function, Pair, List as ListOf, Union}
use Rattle.types.specs.declared.kinds.Kind.{Kind}
use Rattle.types.specs.declared.kinds.Verdict.TheVariants as verdicts
use Rattle.types.specs.Values.{Decimal, Text, Value, a_number, a_string, a_function, a_pair, canonical, units16}
use Rattle.types.specs.Types.{Ty, Types, any, number_literal, string_literal, union, pair, list, ◌and◌, count, Meet, Belongs, in_any, in_number_literal, in_string_literal, in_function, in_pair, pair_in_list, in_union, BelongsToSome, to_first, to_other}
use Rattle.std.specs.Bool.{MatchBool}
use Rattle.std.specs.List.{zip, AllWithin, HoldsAt}
use Rattle.std.specs.Option.{unwrap_or}
use Rattle.std.proofs.lemmas.Slice.Zip.{length-zip, get_or-zip}
use Rattle.types.specs.declared.entries.Root.{Root}
use Rattle.types.specs.Roots.{root_at}
use Rattle.types.specs.Inner.{SaysSomeMeet, SaysMeetByParts}
use Rattle.types.specs.Table.{entry_at, UnitsAt, Is, is_any, is_number, is_number_literal, is_string, is_string_literal, is_boolean, is_true, is_false, is_undefined, is_null, is_function, is_pair, is_list, is_union, Run, run_end, run_more, SaysMeet, SaysSame}
use Rattle.types.specs.Kinds.{OfKind, number_kind, number_literal_kind, string_kind, string_literal_kind, boolean_kind, true_kind, false_kind, undefined_kind, null_kind, function_kind, pair_kind, list_kind, entry_kind, verdict, Says}
use Rattle.types.proofs.Inhabited.{inhabited}
use Rattle.types.proofs.Meaning.{swapped, same_number, same_string, same_count}

-- an answer by what is so of the types
says_yes : {es : List TypeEntry} {n m : ℕ} {a b : TypeEntry} → ((s t : Ty) → Is es n a s → Is es m b t → Meet s t) → SaysMeet es n a m b true
says_yes f le le' s t hs ht = (λ e. f s t hs ht, λ m. refl)

says_no : {es : List TypeEntry} {n m : ℕ} {a b : TypeEntry} {r : Bool} → r ≡ false → ((s t : Ty) → Is es n a s → Is es m b t → Meet s t → ⊥) → SaysMeet es n a m b r
says_no neg f le le' s t hs ht = (λ e. absurd (both_ways false refl (sym neg ∙ e)), λ m. absurd (f s t hs ht m))

-- where one of the entries holds no type, every answer will do
pub free : {es : List TypeEntry} {n m : ℕ} {a b : TypeEntry} {r : Bool} → (n ≤ length es → m ≤ length es → (s t : Ty) → Is es n a s → Is es m b t → ⊥) → SaysMeet es n a m b r
free f le le' s t hs ht = absurd (f le le' s t hs ht)

pub flip : {es : List TypeEntry} {n m : ℕ} {a b : TypeEntry} {r : Bool} → SaysMeet es n a m b r → SaysMeet es m b n a r
flip f le le' s t hs ht =
    let d = f le' le t s ht hs in
    (λ e. swapped (d.0 e), λ m. d.1 (swapped m))

-- what an entry holds, once its variant is known
pub known : {es : List TypeEntry} {n : ℕ} {a e : TypeEntry} {s : Ty} → a ≡ e → Is es n a s → Is es n e s
known {es} {n} {s} is h = subst (λ x. Is es n x s) is h

-- unions
union_low : {es : List TypeEntry} {n first size : ℕ} {s : Ty} → Is es n (Union first size) s → first + size ≤ n
union_low (is_union le r) = le

run_none : {es : List TypeEntry} (n j : ℕ) {b : TypeEntry} {first size : ℕ} {ts : Types} {u : Ty} {v : Value} → first + size ≤ n → n ≤ length es → j ≤ length es → Run es first size ts → ((m : ℕ) → first ≤ m → m < first + size → SaysMeet es m (entry_at es m) j b false) → Is es j b u → BelongsToSome v ts → Belongs v u → ⊥
run_none n j low le le' run_end f h p q = elim p [ ]
run_none n j low le le' (run_more {first} x r) f h (to_first p) q = both_ways false refl ((f first (omega arith) (omega arith) (omega arith) le' _ _ x h).1 (_, p, q))
run_none n j low le le' (run_more x r) f h (to_other p) q = run_none n j (omega arith) le le' r (λ m l lt. f m (omega arith) (omega arith)) h p q

run_some : {es : List TypeEntry} {first size : ℕ} {ts : Types} (n j k : ℕ) {b : TypeEntry} {u : Ty} → first + size ≤ n → n ≤ length es → j ≤ length es → Run es first size ts → first ≤ k → k < first + size → SaysMeet es k (entry_at es k) j b true → Is es j b u → (v : Value) × BelongsToSome v ts × Belongs v u
run_some n j k low le le' run_end l lt f h = absurd (omega arith)
run_some {es} n j k {b} low le le' (run_more {first} x r) l lt f h =
    ⊎_elim
    (λ e. let m = (subst (λ i. SaysMeet es i (entry_at es i) j b true) (sym e) f (omega arith) le' _ _ x h).0 refl in (m.0, to_first m.1, m.2))
    (λ ne. let m = run_some n j k (omega arith) le le' r (omega arith) (omega arith) f h in (m.0, to_other m.1, m.2))
    (cases_eq first k)

-- one of the types at the indexes from first on and below end meets another one, or none does
pub some_met : {es : List TypeEntry} {first end : ℕ} (j k : ℕ) {b : TypeEntry} → first ≤ k → k < end → SaysMeet es k (entry_at es k) j b true → SaysSomeMeet es first end j b true
some_met {end} j k l lt f up ts r le le' t h = (λ e. run_some end j k (omega arith) le le' r l (omega arith) f h, λ m. refl)

pub none_met : {es : List TypeEntry} {first end : ℕ} (j : ℕ) {b : TypeEntry} → ((m : ℕ) → first ≤ m → m < end → SaysMeet es m (entry_at es m) j b false) → SaysSomeMeet es first end j b false
none_met {end} j f up ts r le le' t h = (λ e. absurd (both_ways false refl e), λ m. absurd (run_none end j (omega arith) le le' r (λ k l lt. f k l (omega arith)) h m.1 m.2))

-- a union meets what one of its members meets
pub union_meets : {es : List TypeEntry} {i j first size : ℕ} {a b : TypeEntry} {r : Bool} (from end : ℕ) → a ≡ Union first size → from ≡ first → end ≡ first + size → SaysSomeMeet es from end j b r → SaysMeet es i a j b r
union_meets {es} {i} {j} {first} {size} {a} {b} {r} from end is e f d le le' s t hs ht = go (known is hs)
  where
    some_of : {s : Ty} {ss : Types} → Meet (union s ss) t → (v : Value) × BelongsToSome v (s and ss) × Belongs v t
    some_of m = of m.1 m.2
      where
        of : {v : Value} {s : Ty} {ss : Types} → Belongs v (union s ss) → Belongs v t → (v : Value) × BelongsToSome v (s and ss) × Belongs v t
        of (in_union p) q = (_, p, q)

    go : {s : Ty} → Is es i (Union first size) s → Decides r (Meet s t)
    go (is_union {t = u} {ts = us} low x) =
        let n : size ≡ end - from = omega arith in
        let y = d (omega arith) (u and us) (subst (λ k. Run es k (end - from) (u and us)) (sym e) (subst (λ k. Run es first k (u and us)) n x)) (omega arith) le' t ht in
        (λ o. let m = y.0 o in (m.0, in_union m.1, m.2), λ m. y.1 (some_of m))

pub union_broken : {es : List TypeEntry} {i j first size : ℕ} {a b : TypeEntry} → a ≡ Union first size → i < first + size → SaysMeet es i a j b false
union_broken is high = free (λ le le' s t hs ht. let low = union_low (known is hs) in omega arith)

-- kinds
some_none : {k : Kind} → Some k ≡ None → ⊥
some_none p = let z : ◌≡◌ {A = ℕ} 0 1 = cc in omega arith

some_some : {k l : Kind} → Some k ≡ Some l → k ≡ l
some_some p = cc

no_kind : {es : List TypeEntry} {n : ℕ} {e : TypeEntry} {s : Ty} → entry_kind e ≡ None → ((first size : ℕ) → e ≡ Union first size → ⊥) → Is es n e s → s ≡ any
no_kind p u is_any = refl
no_kind p u is_number = absurd (some_none p)
no_kind p u (is_number_literal a b) = absurd (some_none p)
no_kind p u is_string = absurd (some_none p)
no_kind p u (is_string_literal a b c) = absurd (some_none p)
no_kind p u is_boolean = absurd (some_none p)
no_kind p u is_true = absurd (some_none p)
no_kind p u is_false = absurd (some_none p)
no_kind p u is_undefined = absurd (some_none p)
no_kind p u is_null = absurd (some_none p)
no_kind p u (is_function a b c) = absurd (some_none p)
no_kind p u (is_pair a b c d) = absurd (some_none p)
no_kind p u (is_list a b) = absurd (some_none p)
no_kind p u (is_union a b) = absurd (u _ _ refl)

of_entry : {es : List TypeEntry} {n : ℕ} {e : TypeEntry} {s : Ty} {k : Kind} → entry_kind e ≡ Some k → Is es n e s → OfKind s k
of_entry p is_any = absurd (some_none (sym p))
of_entry p is_number = subst (OfKind _) (some_some p) number_kind
of_entry p (is_number_literal a b) = subst (OfKind _) (some_some p) number_literal_kind
of_entry p is_string = subst (OfKind _) (some_some p) string_kind
of_entry p (is_string_literal a b c) = subst (OfKind _) (some_some p) string_literal_kind
of_entry p is_boolean = subst (OfKind _) (some_some p) boolean_kind
of_entry p is_true = subst (OfKind _) (some_some p) true_kind
of_entry p is_false = subst (OfKind _) (some_some p) false_kind
of_entry p is_undefined = subst (OfKind _) (some_some p) undefined_kind
of_entry p is_null = subst (OfKind _) (some_some p) null_kind
of_entry p (is_function a b c) = subst (OfKind _) (some_some p) function_kind
of_entry p (is_pair a b c d) = subst (OfKind _) (some_some p) pair_kind
of_entry p (is_list a b) = subst (OfKind _) (some_some p) list_kind
of_entry p (is_union a b) = absurd (some_none (sym p))

pub any_meets : {es : List TypeEntry} {i j : ℕ} {a b : TypeEntry} → entry_kind a ≡ None → ((first size : ℕ) → a ≡ Union first size → ⊥) → SaysMeet es i a j b true
any_meets p u = says_yes (λ s t hs ht. let x = inhabited t in (x.0, subst (Belongs x.0) (sym (no_kind p u hs)) in_any, x.1))

module _ {es : List TypeEntry} {i j : ℕ} {a b : TypeEntry} {k l : Kind} (ki : entry_kind a ≡ Some k) (lj : entry_kind b ≡ Some l) where
  pub kinds_meet : Says k l verdicts.Meet → SaysMeet es i a j b true
  kinds_meet f = says_yes (λ s t hs ht. f s t (of_entry ki hs) (of_entry lj ht))

  pub kinds_never : Says k l verdicts.Never → SaysMeet es i a j b false
  kinds_never f = says_no refl (λ s t hs ht. f s t (of_entry ki hs) (of_entry lj ht))

-- number literals
pub same_decimal : (c d : Decimal) → c.digits ≡ d.digits → c.exponent ≡ d.exponent → c ≡ d
same_decimal c d p q = λ i. record { digits = p i; exponent = q i; is_canonical = is_prop→PathP (λ j. canonical (p j) (q j) ≡ true) (λ j. Bool-set _ _) c.is_canonical d.is_canonical i }

pub same_text : (x y : Text) → x.units ≡ y.units → x ≡ y
same_text x y p = λ i. record { units = p i; fit = is_prop→PathP (λ j. units16 (p j) ≡ true) (λ j. Bool-set _ _) x.fit y.fit i }

pub numbers_meet : {es : List TypeEntry} {i j m n : ℕ} {a b : TypeEntry} {e f : ℤ} {r : Bool} → a ≡ NumberLiteral m e → b ≡ NumberLiteral n f → Decides r ((m ≡ n) × (e ≡ f)) → SaysMeet es i a j b r
numbers_meet {es} {i} {j} {m} {n} {e} {f} {r} is js d le le' s t hs ht = go (known is hs) (known js ht)
  where
    go : {s t : Ty} → Is es i (NumberLiteral m e) s → Is es j (NumberLiteral n f) t → Decides r (Meet s t)
    go (is_number_literal {d = x} p q) (is_number_literal {d = y} u v) = (
      λ b. (a_number x, in_number_literal, subst (λ z. Belongs (a_number x) (number_literal z)) (same_decimal x y (p ∙ (d.0 b).0 ∙ sym u) (q ∙ (d.0 b).1 ∙ sym v)) in_number_literal),
      λ o. d.1 (sym p ∙ ap (λ z. z.digits) (same_number o) ∙ u, sym q ∙ ap (λ z. z.exponent) (same_number o) ∙ v),
    )

-- functions
run_count : {es : List TypeEntry} {first size : ℕ} {ts : Types} → Run es first size ts → count ts ≡ size
run_count run_end = refl
run_count (run_more x r) = ap suc (run_count r)

pub functions_meet : {es : List TypeEntry} {i j f m g n : ℕ} {a b : TypeEntry} {r : Bool} → a ≡ Function f m → b ≡ Function g n → Decides r (m ≡ n) → SaysMeet es i a j b r
functions_meet {es} {i} {j} {f} {m} {g} {n} {r} is js d le le' s t hs ht = go (known is hs) (known js ht)
  where
    go : {s t : Ty} → Is es i (Function f m) s → Is es j (Function g n) t → Decides r (Meet s t)
    go (is_function {ps} low x y) (is_function {ps = qs} low' u v) = (
      λ b. (a_function (count ps), in_function refl, in_function (run_count u ∙ sym (d.0 b) ∙ sym (run_count x))),
      λ o. d.1 (sym (run_count x) ∙ same_count o ∙ run_count u),
    )

-- pairs and lists
pub pair_low : {es : List TypeEntry} {i head tail : ℕ} {a : TypeEntry} {s : Ty} → a ≡ Pair head tail → Is es i a s → (head < i) × (tail < i)
pair_low {es} {i} {head} {tail} is h = go (known is h)
  where
    go : {s : Ty} → Is es i (Pair head tail) s → (head < i) × (tail < i)
    go (is_pair p q x y) = (p, q)

pub list_low : {es : List TypeEntry} {i element : ℕ} {a : TypeEntry} {s : Ty} → a ≡ ListOf element → Is es i a s → element < i
list_low {es} {i} {element} is h = go (known is h)
  where
    go : {s : Ty} → Is es i (ListOf element) s → element < i
    go (is_list p x) = p

pair_parts : {a b c d : Ty} → Meet (pair a b) (pair c d) → Meet a c × Meet b d
pair_parts m = go m.1 m.2
  where
    go : {v : Value} {a b c d : Ty} → Belongs v (pair a b) → Belongs v (pair c d) → Meet a c × Meet b d
    go (in_pair p q) (in_pair r s) = ((_, p, r), (_, q, s))

list_parts : {a b t : Ty} → Meet (pair a b) (list t) → Meet a t × Meet b (list t)
list_parts m = go m.1 m.2
  where
    go : {v : Value} {a b t : Ty} → Belongs v (pair a b) → Belongs v (list t) → Meet a t × Meet b (list t)
    go (in_pair p q) (pair_in_list r s) = ((_, p, r), (_, q, s))

-- the types at two indexes of the table meet, or not
abbrev At : List TypeEntry → ℕ → ℕ → Bool → Type 0
At es x y r = SaysMeet es x (entry_at es x) y (entry_at es y) r

module _ {es : List TypeEntry} {i j head tail h t : ℕ} {a b : TypeEntry} (is : a ≡ Pair head tail) (js : b ≡ Pair h t) where
  pub heads_apart : {r : Bool} → r ≡ false → At es head h r → SaysMeet es i a j b r
  heads_apart neg f le le' = says_no neg (λ s u hs hu. go (known is hs) (known js hu)) le le'
    where
      go : {s u : Ty} → Is es i (Pair head tail) s → Is es j (Pair h t) u → Meet s u → ⊥
      go (is_pair low _ x y) (is_pair low' _ z w) m = both_ways false refl (sym neg ∙ (f (omega arith) (omega arith) _ _ x z).1 (pair_parts m).0)

  pub heads_meet : {r : Bool} → At es head h true → At es tail t r → SaysMeet es i a j b r
  heads_meet {r} f g le le' s u hs hu = go (known is hs) (known js hu)
    where
      go : {s u : Ty} → Is es i (Pair head tail) s → Is es j (Pair h t) u → Decides r (Meet s u)
      go (is_pair lh lt x y) (is_pair kh kt z w) =
          let d = f (omega arith) (omega arith) _ _ x z in
          let e = g (omega arith) (omega arith) _ _ y w in (
            λ o. let m = d.0 refl in let n = e.0 o in (a_pair m.0 n.0, in_pair m.1 n.1, in_pair m.2 n.2),
            λ m. e.1 (pair_parts m).1,
          )

module _ {es : List TypeEntry} {i j head tail element : ℕ} {a b : TypeEntry} (is : a ≡ Pair head tail) (js : b ≡ ListOf element) where
  pub element_apart : {r : Bool} → r ≡ false → At es head element r → SaysMeet es i a j b r
  element_apart neg f le le' = says_no neg (λ s u hs hu. go (known is hs) (known js hu)) le le'
    where
      go : {s u : Ty} → Is es i (Pair head tail) s → Is es j (ListOf element) u → Meet s u → ⊥
      go (is_pair low _ x y) (is_list low' z) m = both_ways false refl (sym neg ∙ (f (omega arith) (omega arith) _ _ x z).1 (list_parts m).0)

  pub element_meets : {r : Bool} → At es head element true → SaysMeet es tail (entry_at es tail) j b r → SaysMeet es i a j b r
  element_meets {r} f of_tail le le' s u hs hu = go (known is hs) (known js hu)
    where
      g : SaysMeet es tail (entry_at es tail) j (ListOf element) r
      g = subst (λ z. SaysMeet es tail (entry_at es tail) j z r) js of_tail

      go : {s u : Ty} → Is es i (Pair head tail) s → Is es j (ListOf element) u → Decides r (Meet s u)
      go (is_pair lh lt x y) (is_list low z) =
          let d = f (omega arith) (omega arith) _ _ x z in
          let e = g (omega arith) le' _ _ y (is_list low z) in (
            λ o. let m = d.0 refl in let n = e.0 o in (a_pair m.0 n.0, in_pair m.1 n.1, pair_in_list m.2 n.2),
            λ m. e.1 (list_parts m).1,
          )

-- string literals
pub strings_meet : {es : List TypeEntry} {i j f g n : ℕ} {a b : TypeEntry} {r : Bool} → a ≡ StringLiteral f n → b ≡ StringLiteral g n → SaysSame es f g n r → SaysMeet es i a j b r
strings_meet {es} {i} {j} {f} {g} {n} {r} is js d le le' s t hs ht = go (known is hs) (known js ht)
  where
    go : {s t : Ty} → Is es i (StringLiteral f n) s → Is es j (StringLiteral g n) t → Decides r (Meet s t)
    go (is_string_literal {s = x} lx p u) (is_string_literal {s = y} ly q v) =
        let same = d x.units y.units p q (omega arith) (omega arith) u v in (
          λ b. (a_string x, in_string_literal, subst (λ z. Belongs (a_string x) (string_literal z)) (same_text x y (same.0 b)) in_string_literal),
          λ o. same.1 (ap (λ z. z.units) (same_string o)),
        )

pub lengths_apart : {es : List TypeEntry} {i j f m g n : ℕ} {a b : TypeEntry} {r : Bool} → a ≡ StringLiteral f m → b ≡ StringLiteral g n → r ≡ false → (m ≡ n → ⊥) → SaysMeet es i a j b r
lengths_apart {es} {i} {j} {f} {m} {g} {n} is js neg ne = says_no neg (λ s t hs ht. go (known is hs) (known js ht))
  where
    go : {s t : Ty} → Is es i (StringLiteral f m) s → Is es j (StringLiteral g n) t → Meet s t → ⊥
    go (is_string_literal lx p u) (is_string_literal ly q v) o = ne (sym p ∙ ap (λ z. length z.units) (same_string o) ∙ q)

-- the types at two indexes, taken out as parts
pub at_both : {es : List TypeEntry} {k l : ℕ} {r : Bool} (x y : Root) → x ≡ root_at es k → y ≡ root_at es l → SaysMeet es x.used x.entry y.used y.entry r → At es k l r
at_both {es} {k} {r} x y p q f =
    let h = subst (λ z. SaysMeet es z.used z.entry y.used y.entry r) p f in
    subst (λ z. SaysMeet es k (entry_at es k) z.used z.entry r) q h

pub at_first : {es : List TypeEntry} {k m : ℕ} {b : TypeEntry} {r : Bool} (x : Root) → x ≡ root_at es k → SaysMeet es x.used x.entry m b r → SaysMeet es k (entry_at es k) m b r
at_first {es} {m} {b} {r} x p f = subst (λ z. SaysMeet es z.used z.entry m b r) p f

-- a part that does not stand below its type
pub first_broken : {es : List TypeEntry} {n k : ℕ} {a : TypeEntry} (m : ℕ) (b : TypeEntry) {r : Option Bool} → r ≡ None → ((s : Ty) → Is es n a s → k < n) → (n ≤ length es → n ≤ k) → SaysMeetByParts es n a m b r
first_broken {es} {n} {a} m b none low high = subst (SaysMeetByParts es n a m b) (sym none) (free (λ le le' s t hs ht. let l = low s hs in let h = high le in omega arith))

pub second_broken : {es : List TypeEntry} {m k : ℕ} {b : TypeEntry} (n : ℕ) (a : TypeEntry) {r : Option Bool} → r ≡ None → ((t : Ty) → Is es m b t → k < m) → (m ≤ length es → m ≤ k) → SaysMeetByParts es n a m b r
second_broken {es} {m} {b} n a none low high = subst (SaysMeetByParts es n a m b) (sym none) (free (λ le le' s t hs ht. let l = low t ht in let h = high le' in omega arith))

pub by_parts : {es : List TypeEntry} {n m : ℕ} {a b : TypeEntry} {k l : Kind} {r : Bool} (p : Option Bool) → r ≡ unwrap_or p false → SaysMeetByParts es n a m b p → entry_kind a ≡ Some k → entry_kind b ≡ Some l → verdict k l ≡ verdicts.ByParts → SaysMeet es n a m b r
by_parts {es} {n} {m} {a} {b} (Some x) e f ki lj v = subst (SaysMeet es n a m b) (sym e) (f _ _ ki lj v)
by_parts {es} {n} {m} {a} {b} None e f ki lj v = subst (SaysMeet es n a m b) (sym e) f

pub units_same : (es : List TypeEntry) (first other : ℕ) (us vs : List ℕ) → length us ≡ length vs → UnitsAt es first us → UnitsAt es other vs → ((m : ℕ) → m < length us → entry_at es (first + m) ≡ entry_at es (other + m)) → us ≡ vs
units_same es first other us vs long u v same =
    same_lists us vs long (λ k d lt.
    let here : k < length vs = omega arith in
    let a = u k lt in
    let b = v k here in
    let c = same k lt in
    let e : get_or us k 0 ≡ get_or vs k 0 = cc in
    get_or_default us k d 0 lt ∙ e ∙ get_or_default vs k 0 d here)

-- the derived test of two entries
pub entries_Decides : (a b : TypeEntry) → Decides (eq-value.it a b) (a ≡ b)
entries_Decides a b = search rules

-- of two entries: they are equal; they are not both the same code unit
abbrev pub Equal : TypeEntry × TypeEntry → Type 0
Equal p = p.0 ≡ p.1

abbrev pub NoUnit : TypeEntry × TypeEntry → Type 0
NoUnit p = (u : ℕ) → p.0 ≡ CodeUnit u → p.1 ≡ CodeUnit u → ⊥

-- a part of the table, as a slice
part_at : (es : List TypeEntry) (first size k : ℕ) (x : TypeEntry) → k < size → first + size ≤ length es → get_or (take (first + size - first) (drop first es)) k x ≡ entry_at es (first + k)
part_at es first size k x lt low =
    let l : k < first + size - first = omega arith in
    let m : first + k < length es = omega arith in
    rw (get_or-take, get_or-drop) (get_or_default es (first + k) x Unused m)

part_long : (es : List TypeEntry) (first size : ℕ) → first + size ≤ length es → length (take (first + size - first) (drop first es)) ≡ size
part_long es first size low = simp (length-take, length-drop) (omega arith)

-- the pairs of two runs of entries, each as a slice
module _ (es : List TypeEntry) (first other size : ℕ) (low : first + size ≤ length es) (high : other + size ≤ length es) where
  abbrev pairs : List (TypeEntry × TypeEntry)
  pairs = zip (take (first + size - first) (drop first es)) (take (other + size - other) (drop other es))

  pairs_long : length pairs ≡ size
  pairs_long = omega (arith, length-zip (take (first + size - first) (drop first es)) (take (other + size - other) (drop other es)), part_long es first size low, part_long es other size high)

  pair_at : (k : ℕ) → k < size → get_or pairs k (Unused, Unused) ≡ (entry_at es (first + k), entry_at es (other + k))
  pair_at k l =
      get_or-zip _ _ k (Unused, Unused) (omega (arith, part_long es first size low)) (omega (arith, part_long es other size high))
      ∙ ap (λ x. (x, get_or (take (other + size - other) (drop other es)) k Unused)) (part_at es first size k Unused l low)
      ∙ ap (λ y. (entry_at es (first + k), y)) (part_at es other size k Unused l high)

  -- where each pair is of equal entries, or one is not twice the same code unit
  pub units_alike : (r : Bool) (us vs : List ℕ) → length us ≡ size → length vs ≡ size → UnitsAt es first us → UnitsAt es other vs → MatchBool r (AllWithin Equal pairs 0 (length pairs)) ((k : ℕ) × (k < length pairs) × HoldsAt NoUnit pairs k) → Decides r (us ≡ vs)
  units_alike true us vs p q u v h = (
    λ o. units_same es first other us vs (p ∙ sym q) u v (λ k lt. let l : k < size = omega arith in subst Equal (pair_at k l) (h k (Unused, Unused) (omega arith) (omega (arith, pairs_long)))),
    λ e. refl,
  )
  units_alike false us vs p q u v h =
      let k = h.0 in
      let l : k < size = omega (arith, h.1, pairs_long) in (
        λ o. absurd (both_ways false refl o),
        λ e. absurd (subst NoUnit (pair_at k l) (h.2 (Unused, Unused)) (slice_index us k) (u k (omega arith)) (v k (omega arith) ∙ ap (λ ws. CodeUnit (slice_index ws k)) (sym e))),
      )

pub units_agree : (es : List TypeEntry) (first : ℕ) (us vs : List ℕ) → length us ≡ length vs → UnitsAt es first us → UnitsAt es first vs → us ≡ vs
units_agree es first us vs long u v = units_same es first first us vs long u v (λ m lt. refl)

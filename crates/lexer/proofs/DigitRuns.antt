-- How far digits, a fraction, an exponent and a number reach. Assumes nothing.
use Rattle.std.proofs.lemmas.Grind.{common_steps}
use Rattle.std.proofs.Common.{rules, ◌≡◌, ℕ, zero, suc, ◌+◌, ◌-◌, ◌<◌, ◌≤◌, ◌⊎◌, List, [], ◌∷◌, ◌++◌, length, get_or, take, drop, sym, refl, ap, ◌∙◌, subst, inl, inr, ⊎_elim, add_assoc, arith, length-append, length-drop, get_or-drop, get_or-take}
use Rattle.std.proofs.ByRecursion.{All-from_get_or, All-get_or}
use Rattle.std.proofs.Math.Seq.{take-add}
use Rattle.std.proofs.lemmas.List.{length-take-le, drop-take, take_at, take-take, drop-drop, get_or-append_right, drop_at}
use Rattle.std.proofs.lemmas.Bool.{cases_lt}
use Rattle.lexer.specs.Classes.{class}
use Rattle.lexer.specs.Runs.{Run, Of}
use Rattle.lexer.specs.Numbers.{DigitByte, Digits, Fraction, whole, dot, Scale, none, plain, minus, plus, Exponent, Amount, amount, NumberText}
use Rattle.lexer.specs.Reach.{Most, SignByte, Before, signed, unsigned}
use Rattle.lexer.specs.declared.classes.Class.TheVariants.{Digit}
use Rattle.lexer.proofs.Firsts.{in_run}
use Rattle.lexer.proofs.Pieces.{some as nonempty}

one : (b : ℕ) → Of Digit Digit b → DigitByte b
one b (inl e) = e
one b (inr e) = e

pub digits_of : (bs : List ℕ) (n : ℕ) → Run (Of Digit Digit) bs n → 0 < n → Digits (take n bs)
digits_of bs n r h =
    let l = length-take-le n bs r.within in
    (omega arith, All-from_get_or DigitByte (take n bs) 0 (λ i lt. let k : i < n = omega arith in subst DigitByte (sym (get_or-take n bs i 0 k)) (one (get_or bs i 0) (r.all i k))))

pub digits_most : (bs : List ℕ) (n m : ℕ) → Run (Of Digit Digit) bs n → m ≤ length bs → Digits (take m bs) → m ≤ n
digits_most bs n m r w d = in_run (Of Digit Digit) bs n m r w (λ k h. inl (All-get_or DigitByte _ k 0 h d.1))

-- digits after the first j bytes of a front
pub record Tail (j m d : ℕ) : Type 0 where
  pub past : j < m
  pub upto : m ≤ j + d

pub tail_digits : (bs : List ℕ) (j m d : ℕ) → m ≤ length bs → Digits (drop j (take m bs)) → Run (Of Digit Digit) (drop j bs) d → Tail j m d
tail_digits bs j m d w h r =
    let l = length-take-le m bs w in
    let past : j < m = omega (arith, length-drop j (take m bs), h.0) in
    let k : j + (m - j) ≡ m = omega arith in
    let same = ap (λ i. drop j (take i bs)) (sym k) ∙ drop-take j (m - j) bs in
    record {
      past = past;
      upto = omega (arith, digits_most (drop j bs) d (m - j) r (omega (arith, length-drop j bs)) (subst Digits same h));
    }

fraction_cases : (t : List ℕ) → Fraction t → (length t ≡ 0) ⊎ ((get_or t 0 0 ≡ 46) × Digits (drop 1 t))
fraction_cases t h = grind arith

scale_cases : (t : List ℕ) (up down : ℕ) → Scale t up down → (length t ≡ 0) ⊎ ((get_or t 0 0 ≡ 101) × ((SignByte (get_or t 1 0) × Digits (drop 2 t)) ⊎ Digits (drop 1 t)))
scale_cases t up down h = grind arith

exponent_cases : (t : List ℕ) → Exponent t → (length t ≡ 0) ⊎ ((get_or t 0 0 ≡ 101) × ((SignByte (get_or t 1 0) × Digits (drop 2 t)) ⊎ Digits (drop 1 t)))
exponent_cases t (up, down, s) = scale_cases t up down s

no_bytes : (bs : List ℕ) (m : ℕ) → m ≤ length bs → length (take m bs) ≡ 0 → m ≤ 0
no_bytes bs m w e = omega (arith, length-take-le m bs w)

none_there : (P : List ℕ → Type 0) (bs : List ℕ) → P [] → ((m : ℕ) → m ≤ length bs → P (take m bs) → m ≤ 0) → Most P bs 0
none_there P bs p h = grind arith

byte_of : (bs : List ℕ) (m b : ℕ) → 0 < b → get_or (take m bs) 0 0 ≡ b → get_or bs 0 0 ≡ b
byte_of bs m b p e = grind arith

pub no_dot : (bs : List ℕ) → (get_or bs 0 0 ≡ 46 → ⊥) → Most Fraction bs 0
no_dot bs h = search (rules, none_there, whole, no_bytes, byte_of, fraction_cases)

pub lone_dot : (bs : List ℕ) (d : ℕ) → Run (Of Digit Digit) (drop 1 bs) d → d ≡ 0 → Most Fraction bs 0
lone_dot bs d r z = none_there Fraction bs whole (λ m w f. ⊎_elim (no_bytes bs m w) (λ t. let g = tail_digits bs 1 m d w t.1 r in omega arith) (fraction_cases _ f))

fraction_is : (bs : List ℕ) (d : ℕ) → get_or bs 0 0 ≡ 46 → Digits (take d (drop 1 bs)) → Fraction (take (suc d) bs)
fraction_is [] d e h = absurd (omega arith)
fraction_is (b ∷ bs) d e h = subst (λ x. Fraction (x ∷ take d bs)) (sym e) (dot h)

pub fraction_most : (bs : List ℕ) (d : ℕ) → get_or bs 0 0 ≡ 46 → Run (Of Digit Digit) (drop 1 bs) d → (d ≡ 0 → ⊥) → Most Fraction bs (d + 1)
fraction_most bs d e r z =
    let p : 0 < d = omega arith in
    let one_more : suc d ≡ d + 1 = omega arith in
    record {
      within = omega (arith, r.within, length-drop 1 bs);
      is = subst (λ i. Fraction (take i bs)) one_more (fraction_is bs d e (digits_of _ d r p));
      most = λ m w f. ⊎_elim (λ l. omega (arith, no_bytes bs m w l)) (λ t. let g = tail_digits bs 1 m d w t.1 r in omega arith) (fraction_cases _ f);
    }

pub moved : (P : ℕ → Type 0) (n : ℕ) {xs ys : List ℕ} → xs ≡ ys → Run P xs n → Run P ys n
moved P n e r = subst (λ l. Run P l n) e r

exponent_plain : (bs : List ℕ) (d : ℕ) → get_or bs 0 0 ≡ 101 → Digits (take d (drop 1 bs)) → Exponent (take (suc d) bs)
exponent_plain [] d e h = absurd (omega arith)
exponent_plain (b ∷ bs) d e h = subst (λ x. Exponent (x ∷ take d bs)) (sym e) (_, _, plain h)

exponent_signed : (bs : List ℕ) (d : ℕ) → get_or bs 0 0 ≡ 101 → SignByte (get_or bs 1 0) → Digits (take d (drop 2 bs)) → Exponent (take (suc (suc d)) bs)
exponent_signed [] d e s h = absurd (omega arith)
exponent_signed (b ∷ []) d e (inl s) h = absurd (omega arith)
exponent_signed (b ∷ []) d e (inr s) h = absurd (omega arith)
exponent_signed (b ∷ c ∷ bs) d e (inl s) h = subst (λ x. Exponent (x ∷ c ∷ take d bs)) (sym e) (subst (λ x. Exponent (101 ∷ x ∷ take d bs)) (sym s) (_, _, minus h))
exponent_signed (b ∷ c ∷ bs) d e (inr s) h = subst (λ x. Exponent (x ∷ c ∷ take d bs)) (sym e) (subst (λ x. Exponent (101 ∷ x ∷ take d bs)) (sym s) (_, _, plus h))

pub no_digit : (b : ℕ) → SignByte b → class b ≡ Digit → ⊥
no_digit b h d = grind arith

first_digit : (t : List ℕ) → Digits t → class (get_or t 0 0) ≡ Digit
first_digit t d = All-get_or DigitByte t 0 0 d.0 d.1

module _ (bs : List ℕ) (m d : ℕ) (w : m ≤ length bs) where
  second : (j : ℕ) → 0 < j → Digits (drop j (take m bs)) → get_or (take m bs) 1 0 ≡ get_or bs 1 0
  second j p h = grind (arith, common_steps)

  digits_reach : (b : ℕ) → Before bs b → Run (Of Digit Digit) (drop b bs) d → ((SignByte (get_or (take m bs) 1 0) × Digits (drop 2 (take m bs))) ⊎ Digits (drop 1 (take m bs))) → Tail b m d
  digits_reach _ (signed s) r (inl t) = tail_digits bs 2 m d w t.1 r
  digits_reach _ (unsigned s) r (inl t) = absurd (s (subst SignByte (second 2 (omega arith) t.1) t.0))
  digits_reach _ (signed s) r (inr t) =
      absurd (no_digit _ s (ap class (sym (second 1 (omega arith) t) ∙ sym (get_or-drop 1 (take m bs) 0 0)) ∙ first_digit _ t))
  digits_reach _ (unsigned s) r (inr t) = tail_digits bs 1 m d w t r

  pub exponent_reach : (b : ℕ) → Before bs b → Run (Of Digit Digit) (drop b bs) d → Exponent (take m bs) → (m ≤ 0) ⊎ Tail b m d
  exponent_reach b f r e = ⊎_elim (λ z. inl (no_bytes bs m w z)) (λ t. inr (digits_reach b f r t.1)) (exponent_cases _ e)

pub no_e : (bs : List ℕ) → (get_or bs 0 0 ≡ 101 → ⊥) → Most Exponent bs 0
no_e bs h = none_there Exponent bs (0, 0, none) (λ m w f. ⊎_elim (no_bytes bs m w) (λ t. absurd (h (byte_of bs m 101 (omega arith) t.0))) (exponent_cases _ f))

pub lone_e : (bs : List ℕ) (b d : ℕ) → Before bs b → Run (Of Digit Digit) (drop b bs) d → d ≡ 0 → Most Exponent bs 0
lone_e bs b d f r z = none_there Exponent bs (0, 0, none) (λ m w e. ⊎_elim (λ l. l) (λ t. omega (arith, t.past, t.upto)) (exponent_reach bs m d w b f r e))

exponent_is : (bs : List ℕ) (b d : ℕ) → get_or bs 0 0 ≡ 101 → Before bs b → Digits (take d (drop b bs)) → Exponent (take (b + d) bs)
exponent_is bs _ d e (signed s) h = let k : suc (suc d) ≡ 2 + d = omega arith in subst (λ i. Exponent (take i bs)) k (exponent_signed bs d e s h)
exponent_is bs _ d e (unsigned s) h = let k : suc d ≡ 1 + d = omega arith in subst (λ i. Exponent (take i bs)) k (exponent_plain bs d e h)

pub exponent_most : (bs : List ℕ) (b d : ℕ) → get_or bs 0 0 ≡ 101 → Before bs b → Run (Of Digit Digit) (drop b bs) d → (d ≡ 0 → ⊥) → Most Exponent bs (b + d)
exponent_most bs b d e f r z =
    let p : 0 < d = omega arith in
    record {
      within = omega (arith, r.within, length-drop b bs);
      is = exponent_is bs b d e f (digits_of _ d r p);
      most = λ m w x. ⊎_elim (λ l. omega (arith, l)) (λ t. t.upto) (exponent_reach bs m d w b f r x);
    }

-- a longest front with P, and after it one with Q: no front is longer that has P and then Q, if Q cannot go on where P could
pub both_most : (P Q : List ℕ → Type 0) (bs : List ℕ) (n k : ℕ) → Most P bs n → Most Q (drop n bs) k →
    ((i : ℕ) → i < n → P (take i bs) → (y : List ℕ) → Q y → 0 < length y → get_or bs i 0 ≡ get_or y 0 0 → ⊥) →
    (m : ℕ) (x y : List ℕ) → m ≤ length bs → x ++ y ≡ take m bs → P x → Q y → m ≤ n + k
both_most P Q bs n k p q apart m x y w e px qy =
    let i = length x in
    let long : i + length y ≡ m = sym (length-append x y) ∙ ap length e ∙ length-take-le m bs w in
    let front : x ≡ take i bs = sym (take_at x y i refl) ∙ ap (take i) e ∙ take-take i m bs (omega arith) in
    let px' = subst P front px in
    let upto = p.most i (omega arith) px' in
    ⊎_elim
    (λ lt. ⊎_elim
    (λ more. absurd (apart i lt px' y qy more (sym (get_or-take m bs i 0 (omega arith)) ∙ ap (λ l. get_or l i 0) (sym e) ∙ get_or-append_right x y i i 0 refl (omega arith) ∙ ap (λ j. get_or y j 0) (omega arith))))
    (λ nil. omega arith)
    (cases_lt 0 (length y)))
    (λ ge.
    let is : i ≡ n = omega arith in
    let rest : y ≡ take (length y) (drop n bs) = sym (drop_at x y n is) ∙ ap (drop n) e ∙ ap (λ j. drop n (take j bs)) (sym long ∙ ap (λ j. j + length y) is) ∙ drop-take n (length y) bs in
    omega (arith, q.most (length y) (omega (arith, length-drop n bs)) (subst Q rest qy)))
    (cases_lt i n)

-- a fraction and an exponent
data TailText : List ℕ → Type 0 where
  tail : (fs es : List ℕ) → Fraction fs → Exponent es → TailText (fs ++ es)

not_e : (b : ℕ) → class b ≡ Digit → b ≡ 101 → ⊥
not_e b d e = grind arith

not_dot : (b : ℕ) → class b ≡ Digit → b ≡ 46 → ⊥
not_dot b d e = grind arith

fraction_byte : (t : List ℕ) → Fraction t → (i : ℕ) → i < length t → get_or t i 0 ≡ 101 → ⊥
fraction_byte _ whole i h e = omega arith
fraction_byte _ (dot d) zero h e = omega arith
fraction_byte _ (dot d) (suc i) h e = not_e _ (All-get_or DigitByte _ i 0 (omega arith) d.1) e

exponent_first : (t : List ℕ) → Exponent t → 0 < length t → get_or t 0 0 ≡ 101
exponent_first t x h = grind arith

tail_first : (t : List ℕ) → TailText t → 0 < length t → (get_or t 0 0 ≡ 46) ⊎ (get_or t 0 0 ≡ 101)
tail_first _ (tail fs es whole x) h = inr (exponent_first es x h)
tail_first _ (tail fs es (dot d) x) h = inl refl

module _ (bs : List ℕ) (w f e : ℕ) (some-digits : 0 < w) (r : Run (Of Digit Digit) bs w) (p : Most Fraction (drop w bs) f) (q : Most Exponent (drop (w + f) bs) e) where
  q' : Most Exponent (drop f (drop w bs)) e
  q' = subst (λ l. Most Exponent l e) (sym (drop-drop f w bs)) q

  tail_upto : (m : ℕ) (t : List ℕ) → m ≤ length (drop w bs) → t ≡ take m (drop w bs) → TailText t → m ≤ f + e
  tail_upto m _ h same (tail fs es y x) =
      both_most Fraction Exponent (drop w bs) f e p q'
      (λ i lt have z ez some_bytes eq. fraction_byte _ p.is i (omega (arith, length-take-le f (drop w bs) p.within)) (get_or-take f (drop w bs) i 0 lt ∙ eq ∙ exponent_first z ez some_bytes))
      m fs es h same y x

  tail_most : Most TailText (drop w bs) (f + e)
  tail_most = grind (arith, common_steps, length-drop, take-add, tail, tail_upto)

  digits_longest : Most Digits bs w
  digits_longest = record { within = r.within; is = digits_of bs w r some-digits; most = λ m h d. digits_most bs w m r h d }

  amount_upto : (m : ℕ) (t : List ℕ) {n up down : ℕ} → m ≤ length bs → t ≡ take m bs → Amount t n up down → m ≤ w + (f + e)
  amount_upto m _ h same (amount is fs es up down d y x) =
      both_most Digits TailText bs w (f + e) digits_longest tail_most
      (λ i lt have z ez some_bytes eq. ⊎_elim (λ a. not_dot _ (one (get_or bs i 0) (r.all i lt)) (eq ∙ a)) (λ a. not_e _ (one (get_or bs i 0) (r.all i lt)) (eq ∙ a)) (tail_first z ez some_bytes))
      m is (fs ++ es) h same d (tail fs es y (_, _, x))

  number_upto : (m : ℕ) (t : List ℕ) → m ≤ length bs → t ≡ take m bs → NumberText t → m ≤ w + (f + e)
  number_upto m t h same (_, _, _, a) = amount_upto m t h same a

  pub number_most : Most NumberText bs (w + f + e)
  number_most =
      subst (Most NumberText bs) (sym (add_assoc w f e))
      (record {
        within = omega (arith, r.within, tail_most.within, length-drop w bs);
        is = subst NumberText (sym (take-add w (f + e) bs ∙ ap (λ l. take w bs ++ l) (take-add f e (drop w bs)))) (_, _, _, amount _ _ _ _ _ digits_longest.is p.is q'.is.2);
        most = λ m h t. number_upto m _ h refl t;
      })

pub some_run : (bs : List ℕ) (n : ℕ) → class (get_or bs 0 0) ≡ Digit → Run (Of Digit Digit) bs n → 0 < n
some_run bs n d r =
    ⊎_elim (λ h. h)
    (λ h. let z : n ≡ 0 = omega arith in absurd (r.stops (omega (arith, nonempty bs Digit d (λ o. let y : ◌≡◌ {A = ℕ} 0 1 = cc in omega arith))) (inl (ap (λ i. class (get_or bs i 0)) z ∙ d))))
    (cases_lt 0 n)

pub moved_most : (P : List ℕ → Type 0) (n : ℕ) {xs ys : List ℕ} → xs ≡ ys → Most P xs n → Most P ys n
moved_most P n e r = subst (λ l. Most P l n) e r

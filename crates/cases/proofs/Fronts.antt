-- Tokens at the front of a text, by tests that compute. Assumes nothing.
use Rattle.std.proofs.Common.{◌≡◌, ℕ, zero, suc, ◌<◌, ◌≤◌, Bool, true, false, not, ◌&&◌, ◌||◌, eqb, leb, ◌⊎◌, List, [], ◌∷◌, length, get_or, take, sym, refl, ap, subst, inl, inr, ⊎_elim, arith, lit<}
use Rattle.std.specs.List.{ContainsAt as Has, AllByRecursion}
use Rattle.std.specs.Str.{bytes_eq}
use Rattle.std.proofs.ByRecursion.{all-has, has_get_or}
use Rattle.std.proofs.lemmas.Slice.Eq.{bytes_eq-Decides}
use Rattle.std.proofs.lemmas.List.{length-take-le}
use Rattle.std.proofs.lemmas.Bool.{both_ways, eqb-false, leb-true, and_parts, or_cases, not-true}
use Rattle.lexer.specs.Classes.{class}
use Rattle.lexer.specs.Runs.{Run, Of}
use Rattle.lexer.specs.Gaps.{Gap, ends, more, blank}
use Rattle.lexer.specs.Marks.{words, marks, Longest}
use Rattle.lexer.specs.Strings.{Plain, Decodes, plain, close, quoted}
use Rattle.lexer.specs.Strings as strings
use Rattle.lexer.specs.Tokens.{TokenAt, Comment}
use Rattle.lexer.specs.declared.classes.Class.{Class}
use Rattle.lexer.specs.declared.classes.Class.TheVariants.{Other, Blank, Letter, Digit, Quote, Mark}
use Rattle.lexer.specs.declared.kinds.Kind.TheVariants as kind
use Rattle.lexer.proofs.Pieces.{no_piece}
use Rattle.lexer.proofs.DigitRuns.{number_most, no_dot, no_e}
use Rattle.lexer.proofs.Firsts.{name_at, word_at, mark_at, number_at, string_at}

-- a letter or a digit
abbrev pub wordy : Class → Bool
wordy Other = false
wordy Blank = false
wordy Letter = true
wordy Digit = true
wordy Quote = false
wordy Mark = false

abbrev pub void : Class → Bool
void Other = false
void Blank = true
void Letter = false
void Digit = false
void Quote = false
void Mark = false

not_wordy : (b : ℕ) → wordy (class b) ≡ false → Of Letter Digit b → ⊥
not_wordy b e (inl h) = both_ways _ e (ap wordy h)
not_wordy b e (inr h) = both_ways _ e (ap wordy h)

is_wordy : (k : Class) → wordy k ≡ true → (k ≡ Letter) ⊎ (k ≡ Digit)
is_wordy Other e = absurd (both_ways _ refl e)
is_wordy Blank e = absurd (both_ways _ refl e)
is_wordy Letter e = inl refl
is_wordy Digit e = inr refl
is_wordy Quote e = absurd (both_ways _ refl e)
is_wordy Mark e = absurd (both_ways _ refl e)

-- no blank and no comment
pub no_gap : (b : ℕ) (bs : List ℕ) → void (class b) ≡ false → eqb b 47 ≡ false → Gap (b ∷ bs) 0
no_gap b bs v s = ends (no_piece (b ∷ bs) (λ o. eqb-false b 47 s o.0) (λ o. eqb-false b 47 s o.0) (λ e. both_ways _ v (ap void e)))

pub end_gap : Gap [] 0
end_gap = ends (no_piece [] (λ o. omega (arith, o.0)) (λ o. omega (arith, o.0)) (λ e. let z : ◌≡◌ {A = ℕ} 0 1 = cc in omega arith))

-- one blank before what is none
pub one_blank : (b : ℕ) (bs : List ℕ) → void (class b) ≡ false → eqb b 47 ≡ false → Gap (32 ∷ b ∷ bs) 1
one_blank b bs v s = more {n = 1} {m = 0} (blank refl) (no_gap b bs v s)

-- the run of letters and digits has n bytes
abbrev pub runs : List ℕ → ℕ → Bool
runs [] zero = true
runs [] (suc n) = false
runs (b ∷ bs) zero = not (wordy (class b))
runs (b ∷ bs) (suc n) = wordy (class b) && runs bs n

run_none : (P : ℕ → Type 0) → Run P [] 0
run_none P = record { within = omega arith; all = λ k h. absurd (omega arith); stops = λ h p. omega arith }

run_stop : (P : ℕ → Type 0) (b : ℕ) (bs : List ℕ) → (P b → ⊥) → Run P (b ∷ bs) 0
run_stop P b bs h = record { within = omega arith; all = λ k lt. absurd (omega arith); stops = λ lt p. h p }

run_on : (P : ℕ → Type 0) (b : ℕ) (bs : List ℕ) (n : ℕ) → P b → Run P bs n → Run P (b ∷ bs) (suc n)
run_on P b bs n p r = record { within = omega (arith, r.within); all = every; stops = λ h q. r.stops (omega arith) q }
  where
    every : (k : ℕ) → k < suc n → P (get_or (b ∷ bs) k 0)
    every zero h = p
    every (suc k) h = r.all k (omega arith)

run_of : (bs : List ℕ) (n : ℕ) → runs bs n ≡ true → Run (Of Letter Digit) bs n
run_of [] zero e = run_none _
run_of [] (suc n) e = absurd (both_ways _ refl e)
run_of (b ∷ bs) zero e = run_stop _ b bs (not_wordy b (not-true _ e))
run_of (b ∷ bs) (suc n) e = let p = and_parts _ _ e in run_on _ b bs n (is_wordy _ p.0) (run_of bs n p.1)

-- the test holds of every text of a list
abbrev pub each : (List ℕ → Bool) → List (List ℕ) → Bool
each f [] = true
each f (t ∷ ts) = f t && each f ts

each_all : (f : List ℕ → Bool) (ts : List (List ℕ)) → each f ts ≡ true → AllByRecursion (λ t. f t ≡ true) ts
each_all f [] e = tt
each_all f (t ∷ ts) e = let p = and_parts _ _ e in (p.0, each_all f ts p.1)

each_has : (f : List ℕ → Bool) (ts : List (List ℕ)) (t : List ℕ) → each f ts ≡ true → Has ts t → f t ≡ true
each_has f ts t e h = all-has (λ x. f x ≡ true) ts t (each_all f ts e) h

same_itself : (s t : List ℕ) → s ≡ t → not (bytes_eq s t) ≡ true → ⊥
same_itself s t e h = both_ways _ (not-true _ h) ((bytes_eq-Decides s t).1 e)

-- none of the words
no_word : (t : List ℕ) → each (λ w. not (bytes_eq w t)) words ≡ true → Has words t → ⊥
no_word t e h = same_itself t t refl (each_has (λ w. not (bytes_eq w t)) words t e h)

pub a_name : (bs : List ℕ) (n : ℕ) → class (get_or bs 0 0) ≡ Letter → runs bs n ≡ true → each (λ w. not (bytes_eq w (take n bs))) words ≡ true → TokenAt bs kind.Name n
a_name bs n l r e = name_at bs n l (run_of bs n r) (no_word _ e)

-- the word of this number in the list
pub a_word : (bs : List ℕ) (n i : ℕ) → class (get_or bs 0 0) ≡ Letter → runs bs n ≡ true → i < length words → get_or words i [] ≡ take n bs → TokenAt bs kind.Word n
a_word bs n i l r lt e = word_at bs n l (run_of bs n r) (subst (Has words) e (has_get_or words i [] lt))

-- a text is no longer than n, or bs does not begin with it
abbrev pub short : List ℕ → ℕ → List ℕ → Bool
short bs n t = leb (length t) n || not (bytes_eq t (take (length t) bs))

short_front : (bs : List ℕ) (n m : ℕ) → m ≤ length bs → short bs n (take m bs) ≡ true → m ≤ n
short_front bs n m w e =
    let l : length (take m bs) ≡ m = length-take-le m bs w in
    ⊎_elim
    (λ h. let le : length (take m bs) ≤ n = leb-true _ _ h in omega arith)
    (λ h. absurd (same_itself _ _ (ap (λ i. take i bs) (sym l)) h))
    (or_cases _ _ e)

longest_of : (b : ℕ) (bs : List ℕ) (i : ℕ) → i < length marks → get_or marks i [] ≡ b ∷ [] → each (short (b ∷ bs) 1) marks ≡ true → Longest marks (b ∷ bs) 1
longest_of b bs i lt e h = record {
  within = omega arith;
  listed = inr (subst (Has marks) e (has_get_or marks i [] lt));
  longest = λ m v has. short_front (b ∷ bs) 1 m v (each_has (short (b ∷ bs) 1) marks (take m (b ∷ bs)) h has);
}

-- the mark of this number in the list: one byte, and not a slash
pub a_mark : (b : ℕ) (bs : List ℕ) (i : ℕ) → class b ≡ Mark → eqb b 47 ≡ false → i < length marks → get_or marks i [] ≡ b ∷ [] → each (short (b ∷ bs) 1) marks ≡ true → TokenAt (b ∷ bs) kind.Mark 1
a_mark b bs i c s lt e h = mark_at (b ∷ bs) 1 c (longest_of b bs i lt e h) (λ z. omega arith) no_slash
  where
    no_slash : Comment (b ∷ bs) → ⊥
    no_slash (inl o) = eqb-false b 47 s o.0
    no_slash (inr o) = eqb-false b 47 s o.0

-- a digit, and after it no letter, no digit and no dot
pub a_digit : (b c : ℕ) (bs : List ℕ) → class b ≡ Digit → wordy (class c) ≡ false → eqb c 46 ≡ false → TokenAt (b ∷ c ∷ bs) kind.Number 1
a_digit b c bs d w p =
    number_at (b ∷ c ∷ bs) 1 d
    (number_most (b ∷ c ∷ bs) 1 0 0 (omega arith)
    (run_on (Of Digit Digit) b (c ∷ bs) 0 (inl d) (run_stop (Of Digit Digit) c bs only_digit))
    (no_dot (c ∷ bs) (eqb-false c 46 p))
    (no_e (c ∷ bs) (λ e. both_ways _ w (ap (λ x. wordy (class x)) e))))
    (not_wordy c w)
  where
    only_digit : Of Digit Digit c → ⊥
    only_digit (inl e) = both_ways _ w (ap wordy e)
    only_digit (inr e) = both_ways _ w (ap wordy e)

-- a byte that stands for itself between double quotes
pub plain_byte : (b : ℕ) → eqb b 34 ≡ false → eqb b 92 ≡ false → 32 ≤ b → b ≤ 126 → Plain 34 b
plain_byte b q s l h = record { no_quote = eqb-false b 34 q; no_backslash = eqb-false b 92 s; allowed = inl (l, h) }

-- a string of one such byte
pub one_unit : {b : ℕ} → Plain 34 b → Decodes (34 ∷ b ∷ 34 ∷ []) (b ∷ [])
one_unit p = quoted refl (strings.more (plain p) close)

pub a_string : (b : ℕ) (bs : List ℕ) → Plain 34 b → TokenAt (34 ∷ b ∷ 34 ∷ bs) kind.String 3
a_string b bs p = string_at (34 ∷ b ∷ 34 ∷ bs) refl (record { len = 3; units = 1 }) (record { units = b ∷ []; within = omega arith; decodes = one_unit p; count = refl })

pub semicolon : (bs : List ℕ) → TokenAt (59 ∷ bs) kind.Mark 1
semicolon bs = a_mark 59 bs 22 refl refl (lit< tt) refl refl

pub plus : (bs : List ℕ) → TokenAt (43 ∷ bs) kind.Mark 1
plus bs = a_mark 43 bs 12 refl refl (lit< tt) refl refl

pub opening : (bs : List ℕ) → TokenAt (40 ∷ bs) kind.Mark 1
opening bs = a_mark 40 bs 17 refl refl (lit< tt) refl refl

pub closing : (bs : List ℕ) → TokenAt (41 ∷ bs) kind.Mark 1
closing bs = a_mark 41 bs 18 refl refl (lit< tt) refl refl

pub question : (bs : List ℕ) → TokenAt (63 ∷ bs) kind.Mark 1
question bs = a_mark 63 bs 24 refl refl (lit< tt) refl refl

pub colon : (bs : List ℕ) → TokenAt (58 ∷ bs) kind.Mark 1
colon bs = a_mark 58 bs 23 refl refl (lit< tt) refl refl

pub less : (bs : List ℕ) → TokenAt (60 ∷ 32 ∷ bs) kind.Mark 1
less bs = a_mark 60 (32 ∷ bs) 9 refl refl (lit< tt) refl refl

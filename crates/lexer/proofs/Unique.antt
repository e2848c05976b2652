-- A sheet has one list of tokens and one ending. Assumes nothing.
use Rattle.std.proofs.Common.{rules, ◌≡◌, ℕ, ◌+◌, ◌<◌, ◌≤◌, List, length, take, drop, sym, refl, ap, subst, arith, length-drop}
use Rattle.lexer.specs.Gaps.{Piece, Gap, ends, more}
use Rattle.lexer.specs.Tokens.{TokenAt, Spelled}
use Rattle.lexer.specs.declared.kinds.Kind.{Kind}
use Rattle.lexer.specs.Sizes.{Small}
use Rattle.lexer.specs.Reading.{Why, no_token, too_large, Ending, Lexes, done, refused, token}
use Rattle.lexer.specs.declared.reasons.Reason.{Reason}
use Rattle.lexer.proofs.Firsts.{first, opening, token_some}

piece_below : (bs : List ℕ) (n m : ℕ) → Piece bs n → Piece bs m → n ≤ m
piece_below bs n m h k = search rules

pub piece_once : (bs : List ℕ) (n m : ℕ) → Piece bs n → Piece bs m → n ≡ m
piece_once bs n m p q = omega (arith, piece_below bs n m p q, piece_below bs m n q p)

pub gap_once : (bs : List ℕ) (n m : ℕ) → Gap bs n → Gap bs m → n ≡ m
gap_once bs _ _ (ends f) (ends g) = refl
gap_once bs _ _ (ends f) (more p g) = absurd (f _ p)
gap_once bs _ _ (more p g) (ends f) = absurd (f _ p)
gap_once bs _ _ (more {n = n} {m = a} p g) (more {n = k} {m = b} q h) =
    let e = piece_once bs n k p q in
    let r = gap_once (drop n bs) a b g (subst (λ i. Gap (drop i bs) b) (sym e) h) in
    omega arith

-- a text is a token of one kind
same_kind : (k j : Kind) (t : List ℕ) → Spelled k t → Spelled j t → opening k ≡ opening j → k ≡ j
same_kind k j t s u o = grind arith

length_once : (bs : List ℕ) (k j : Kind) (n m : ℕ) → TokenAt bs k n → TokenAt bs j m → n ≡ m
length_once bs k j n m s t = grind arith

kind_once : (bs : List ℕ) (k j : Kind) (n m : ℕ) → TokenAt bs k n → TokenAt bs j m → k ≡ j
kind_once bs k j n m s t = search (rules, length_once, same_kind, first)

module _ (bs : List ℕ) where
  why_some : (f : Reason) → Why bs f → 0 < length bs
  why_some _ (no_token h n) = h
  why_some _ (too_large t l) = omega (arith, token_some bs _ _ t, t.within)

  why_once : (f g : Reason) → Why bs f → Why bs g → f ≡ g
  why_once _ _ (no_token h n) (no_token k m) = refl
  why_once _ _ (no_token h n) (too_large t l) = absurd (n _ _ t)
  why_once _ _ (too_large t l) (no_token h n) = absurd (n _ _ t)
  why_once _ _ (too_large t l) (too_large u m) = refl

  why_not : (f : Reason) (k : Kind) (n : ℕ) → Why bs f → TokenAt bs k n → Small k (take n bs) → ⊥
  why_not _ k n (no_token h a) t s = a k n t
  why_not _ k n (too_large {k = j} {n = m} u l) t s =
      l (subst (λ x. Small x (take m bs)) (kind_once bs k j n m t u) (subst (λ i. Small k (take i bs)) (length_once bs k j n m t u) s))

past_end : (sheet : List ℕ) (at g h : ℕ) → Gap (drop at sheet) g → Gap (drop at sheet) h → length sheet ≤ at + g → length (drop (at + h) sheet) ≡ 0
past_end sheet at g h p q l = let e = gap_once _ g h p q in omega (arith, length-drop (at + h) sheet)

token_inside : (bs : List ℕ) (k : Kind) (n : ℕ) → TokenAt bs k n → 0 < length bs
token_inside bs k n t = omega (arith, token_some bs k n t, t.within)

moved : (sheet : List ℕ) (at g h : ℕ) → Gap (drop at sheet) g → Gap (drop at sheet) h → at + g ≡ at + h
moved sheet at g h p q = ap (λ i. at + i) (gap_once _ g h p q)

pub lexes_once : (sheet : List ℕ) (at : ℕ) (ts us : List (Kind × ℕ × ℕ)) (e f : Ending) → Lexes sheet at ts e → Lexes sheet at us f → (ts ≡ us) × (e ≡ f)
lexes_once sheet at _ _ _ _ (done g p a) (done h q b) = (refl, refl)
lexes_once sheet at _ _ _ _ (done g p a) (refused h q w) = absurd (omega (arith, past_end sheet at g h p q a, why_some _ _ w))
lexes_once sheet at _ _ _ _ (done g p a) (token h n q t s l) = absurd (omega (arith, past_end sheet at g h p q a, token_inside _ _ _ t))
lexes_once sheet at _ _ _ _ (refused h q w) (done g p a) = absurd (omega (arith, past_end sheet at g h p q a, why_some _ _ w))
lexes_once sheet at _ _ _ _ (refused g {f = a} p w) (refused h {f = b} q v) =
    let same = moved sheet at g h p q in
    let v' = subst (λ i. Why (drop i sheet) b) (sym same) v in
    let why = why_once _ a b w v' in
    (refl, (cc))
lexes_once sheet at _ _ _ _ (refused g p w) (token h {k} n q t s l) =
    absurd (why_not _ _ k n w (subst (λ i. TokenAt (drop i sheet) k n) (sym (moved sheet at g h p q)) t) (subst (λ i. Small k (take n (drop i sheet))) (sym (moved sheet at g h p q)) s))
lexes_once sheet at _ _ _ _ (token h n q t s l) (done g p a) = absurd (omega (arith, past_end sheet at g h p q a, token_inside _ _ _ t))
lexes_once sheet at _ _ _ _ (token h {k} n q t s l) (refused g p w) =
    absurd (why_not _ _ k n w (subst (λ i. TokenAt (drop i sheet) k n) (sym (moved sheet at g h p q)) t) (subst (λ i. Small k (take n (drop i sheet))) (sym (moved sheet at g h p q)) s))
lexes_once sheet at _ _ _ _ (token g {k = k} n {ts = ts} {end = end} p t s l) (token h {k = j} m {ts = us} {end = fin} q u r o) =
    let same = moved sheet at g h p q in
    let u' = subst (λ i. TokenAt (drop i sheet) j m) (sym same) u in
    let long = length_once _ k j n m t u' in
    let kinds = kind_once _ k j n m t u' in
    let next : at + h + m ≡ at + g + n = omega arith in
    let rest = lexes_once sheet (at + g + n) ts us end fin l (subst (λ i. Lexes sheet i us fin) next o) in
    let tails = rest.0 in
    ((cc), rest.1)

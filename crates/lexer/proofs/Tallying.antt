-- One token more in a tally, and the end of one. Assumes nothing.
use Rattle.std.proofs.Common.{rules, true, false, eqb, ◌≡◌, ℕ, suc, ◌+◌, ◌<◌, ◌≤◌, ◌⊎◌, List, [], ◌∷◌, length, Some, None, Ok, Option, sym, refl, ap, ◌∙◌, subst, inl, inr, ⊎_elim, arith, take, drop, IfSome}
use Rattle.std.proofs.lemmas.Bool.{cases_Bool, false≢true, eqb-true, eqb-false}
use Rattle.std.specs.Option.{is_some}
use Rattle.lexer.specs.Sizes.{Small}
use Rattle.lexer.specs.Faults.{FirstFault}
use Rattle.lexer.specs.declared.reasons.Reason.TheVariants.{LineFeed, ManyTokens}
use Rattle.lexer.specs.Reading.{Lexes, done, refused, token, Ending, finished, Given, Finished, Stopped}
use Rattle.lexer.specs.declared.refusal.Refusal.{Refusal}
use Rattle.lexer.specs.Scanning.{Tok, text, nth, next_here, next_later, FeedBetween, BrokenLine, broken_line, TokenFault, Clean}
use Rattle.lexer.specs.Counting.{tok_of, joined, EndsAt, OverAt, Seen, Whole, Tallied, Breaks}
use Rattle.lexer.specs.Tallies.{Counted, Counts}
use Rattle.lexer.specs.declared.read.Token.{Token}
use Rattle.lexer.specs.declared.scan.Tally.{Tally}
use Rattle.lexer.specs.declared.scan.Scanner.{Scanner}
use Rattle.lexer.proofs.Steps.{onward}
use Rattle.lexer.proofs.Firsts.{token_some}
use Rattle.lexer.proofs.Verdicts.{stopped_first, line_first, many_first, clean}

-- the line that is recorded, by whether one was before
pub data Recorded (a : Tally) (sheet : List ℕ) (at : ℕ) (t : Token) (r : Option ℕ) : Type 0 where
  before : (q : ℕ) → a.line ≡ Some q → r ≡ Some q → Recorded a sheet at t r
  here : a.line ≡ None → Breaks a.last sheet at t → r ≡ Some t.at → Recorded a sheet at t r
  nowhere : a.line ≡ None → (Breaks a.last sheet at t → ⊥) → r ≡ None → Recorded a sheet at t r

pub no_line : (o : Option ℕ) → is_some o ≡ false → o ≡ None
no_line None e = refl
no_line (Some p) e = absurd (false≢true (sym e))

-- a line that is recorded stays
pub still_recorded : {a : Tally} {sheet : List ℕ} {at : ℕ} {t : Token} {r : Option ℕ} → is_some a.line ≡ true → r ≡ a.line → Recorded a sheet at t r
still_recorded {a} {sheet} {at} {t} {r} n k = go a.line refl n
  where
    go : (o : Option ℕ) → a.line ≡ o → is_some o ≡ true → Recorded a sheet at t r
    go (Some q) e n = before q e (k ∙ e)
    go None e n = absurd (false≢true n)

some_once : {p q : ℕ} {r : Option ℕ} → r ≡ Some p → r ≡ Some q → p ≡ q
some_once e f = cc

not_both : {q : ℕ} {r : Option ℕ} → r ≡ None → r ≡ Some q → ⊥
not_both e f = let z : ◌≡◌ {A = ℕ} 0 1 = cc in omega arith

last_seen : {sheet : List ℕ} {s : Tok} {p : ℕ} → BrokenLine sheet (s ∷ []) p → ⊥
last_seen (broken_line t u (next_later n) o f e) = elim n [ ]

none_seen : {sheet : List ℕ} {p : ℕ} → BrokenLine sheet [] p → ⊥
none_seen (broken_line t u n o f e) = elim n [ ]

further : {sheet : List ℕ} {s : Tok} {us : List Tok} {p : ℕ} → BrokenLine sheet us p → BrokenLine sheet (s ∷ us) p
further (broken_line t u n o f e) = broken_line t u (next_later n) o f e

module _ (sheet : List ℕ) (at next : ℕ) (a : Tally) (t : Token) (was : Tallied sheet at a) (g : Given sheet at t next)
    (count : ℕ) (over line : Option ℕ)
    (more : count ≡ a.count + 1)
    (over-now : a.count ≡ 4096 → over ≡ Some t.at) (over-other : (a.count ≡ 4096 → ⊥) → over ≡ a.over)
    (kept : Recorded a sheet at t line)
  where
    abbrev b : Tally
    b = record { count = count; over = over; line = line; last = Some t }

    abbrev tok : Tok
    tok = tok_of t

    on : (at < next) × (next ≤ length sheet)
    on = onward sheet at t next g

    -- its text is the token's
    worded : text sheet tok ≡ t.text.now
    worded = ap (λ i. take (length t.text.now) (drop i sheet)) g.place ∙ sym g.text

    still_seen : (p : ℕ) → Seen a p → Seen b p
    still_seen p s = grind arith

    -- a break at the token is seen
    now_seen : Breaks a.last sheet at t → Seen b t.at
    now_seen h = grind arith

    over_at : (tokens : List Tok) → nth tokens (a.count + 0) ≡ tok → OverAt tokens a.count a.over → OverAt tokens b.count over
    over_at tokens first old =
        ⊎_elim
        (λ e. let n = eqb-true _ _ e in
        subst (OverAt tokens b.count) (sym (over-now n)) (omega (arith, n, more), ap (λ k. (nth tokens k).1) (let i : 4096 ≡ a.count + 0 = omega (arith, n) in i) ∙ ap (λ x. x.1) first))
        (λ e. let n = eqb-false _ _ e in subst (OverAt tokens b.count) (sym (over-other n)) (go a.over n old))
        (cases_Bool (eqb a.count 4096))
      where
        go : (o : Option ℕ) → (a.count ≡ 4096 → ⊥) → OverAt tokens a.count o → OverAt tokens b.count o
        go (Some p) n h = (omega arith, h.1)
        go None n h = omega (arith, n)

    left : (o : Option Token) (us : List Tok) (p : ℕ) → BrokenLine sheet (tok ∷ us) p → BrokenLine sheet (joined o (tok ∷ us)) p
    left None us p x = x
    left (Some s) us p x = further x

    lines : (o : Option Token) → IfSome o (λ s. text sheet (tok_of s) ≡ s.text.now) → EndsAt at o → (Breaks o sheet at t → Seen b t.at) → (us : List Tok) (p : ℕ) →
        BrokenLine sheet (joined o (tok ∷ us)) p → Seen b p ⊎ BrokenLine sheet (tok ∷ us) p
    lines None k ends see us p x = inr x
    lines (Some s) k ends see us p (broken_line _ _ next_here o f e) =
        inl (subst (Seen b) (sym e) (see (⊎_elim (λ x. inl (sym k ∙ x)) (λ x. inr (sym worded ∙ x)) o, subst (λ n. FeedBetween sheet n t.at) ends f)))
    lines (Some s) k ends see us p (broken_line v u (next_later m) o f e) = inr (broken_line v u m o f e)

    at_token : (o : Option Token) → IfSome o (λ s. text sheet (tok_of s) ≡ s.text.now) → EndsAt at o → (us : List Tok) → Breaks o sheet at t → BrokenLine sheet (joined o (tok ∷ us)) t.at
    at_token None k ends us h = absurd h
    at_token (Some s) k ends us h =
        broken_line (tok_of s) tok next_here (⊎_elim (λ x. inl (k ∙ x)) (λ x. inr (worded ∙ x)) h.0) (subst (λ n. FeedBetween sheet n t.at) (sym ends) h.1) refl

    whole : (us : List Tok) (fin : Ending) → Whole sheet a (tok ∷ us) fin → Whole sheet b us fin
    whole us fin w = record {
      tokens = w.tokens;
      lexes = w.lexes;
      long = omega (arith, w.long);
      same = λ j. let i : b.count + j ≡ a.count + suc j = omega arith in ap (nth w.tokens) i ∙ w.same (suc j);
      over = over_at w.tokens (w.same 0) w.over;
      lines = λ p x. ⊎_elim (λ s. inl (still_seen p s)) (lines a.last was.worded was.ends now_seen us p) (w.lines p x);
      seen = λ p e. seen p e kept;
      left = λ p x. w.left p (left a.last us p x);
    }
      where
        seen : (p : ℕ) → line ≡ Some p → Recorded a sheet at t line → BrokenLine sheet w.tokens p
        seen p e (before q x f) = w.seen p (x ∙ ap Some (some_once f e))
        seen p e (here x h f) = subst (BrokenLine sheet w.tokens) (some_once f e) (w.left t.at (at_token a.last was.worded was.ends us h))
        seen p e (nowhere x h f) = absurd (not_both f e)

    reads : (us : List Tok) (fin : Ending) → Lexes sheet next us fin → Lexes sheet at (tok ∷ us) fin
    reads us fin l =
        subst (λ i. Lexes sheet at ((t.kind, i, length t.text.now) ∷ us) fin) (sym g.place)
        (token g.gap (length t.text.now) g.past g.token (subst (Small t.kind) g.text g.small) (subst (λ i. Lexes sheet i us fin) g.on l))

    pub tallied : Tallied sheet next b
    tallied = record {
      few = omega (arith, on.0, was.few);
      ends = omega (arith, g.place, g.on);
      worded = worded;
      early = λ p e. grind (arith, token_some);
      rest = λ us fin l. whole us fin (was.rest (tok ∷ us) fin (reads us fin l));
    }

pub tallied_none : (sheet : List ℕ) (a : Tally) → a.count ≡ 0 → a.over ≡ None → a.line ≡ None → a.last ≡ None → Tallied sheet 0 a
tallied_none sheet a z v n l = record {
  few = omega arith;
  ends = subst (EndsAt 0) (sym l) tt;
  worded = subst (λ o. IfSome o (λ t. text sheet (tok_of t) ≡ t.text.now)) (sym l) tt;
  early = λ p e. grind arith;
  rest = λ us fin x. record {
    tokens = us;
    lexes = x;
    long = omega arith;
    same = λ j. let i : a.count + j ≡ j = omega arith in ap (nth us) i;
    over = subst (OverAt us a.count) (sym v) (omega arith);
    lines = λ p b. inr (subst (λ o. BrokenLine sheet (joined o us) p) (sym l) b);
    seen = λ p e. grind arith;
    left = λ p b. subst (λ o. BrokenLine sheet (joined o us) p) l b;
  };
}

-- all tokens are counted

module _ (sheet : List ℕ) (at : ℕ) (a : Tally) (short : length sheet ≤ 16384) (s : Tallied sheet at a) (f : Finished sheet at) where
  abbrev all : Whole sheet a [] finished
  all = s.rest [] finished (done f.gap f.past f.all)

  every_line : (p : ℕ) → BrokenLine sheet all.tokens p → Seen a p
  every_line p b = ⊎_elim (λ x. x) (λ x. absurd (none a.last x)) (all.lines p b)
    where
      none : (o : Option Token) → BrokenLine sheet (joined o []) p → ⊥
      none None x = none_seen x
      none (Some t) x = last_seen x

  pub line_told : (p : ℕ) → a.line ≡ Some p → FirstFault (TokenFault sheet) (record { reason = LineFeed; place = p })
  line_told p e = line_first sheet short all.tokens all.lexes p (all.seen p e) (λ q b. let x = every_line q b in let same = some_once e x.1 in omega (arith, x.2))

  module _ (n : a.line ≡ None) where
    unbroken : (p : ℕ) → BrokenLine sheet all.tokens p → ⊥
    unbroken p b = not_both n (every_line p b).1

    pub many_told : (p : ℕ) → a.over ≡ Some p → FirstFault (TokenFault sheet) (record { reason = ManyTokens; place = p })
    many_told p e = let many = subst (OverAt all.tokens a.count) e all.over in many_first sheet short all.tokens all.lexes unbroken p (omega (arith, all.long, many.0)) many.1

    pub clean_told : a.over ≡ None → Clean sheet a.count
    clean_told e = clean sheet short all.tokens all.lexes unbroken a.count (omega (arith, all.long)) (subst (OverAt all.tokens a.count) e all.over)

-- the tokens end in a refusal
pub stopped_told : (sheet : List ℕ) (at : ℕ) (a : Tally) (e : Refusal) → length sheet ≤ 16384 → Tallied sheet at a → Stopped sheet at e → FirstFault (TokenFault sheet) e
stopped_told sheet at a e short s f = search (rules, refused, stopped_first)

-- no token is left
pub all_counted : (s : Scanner) {after : Scanner} (o : Option Token) → is_some o ≡ false → Counts s (Ok o) after → Counted after × Finished after.reader.sheet.now after.reader.at
all_counted s None e h = h
all_counted s (Some t) e h = absurd (false≢true (sym e))

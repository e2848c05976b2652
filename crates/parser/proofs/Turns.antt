-- One lemma for each turn of the reader. Assumes nothing.
use Rattle.std.proofs.Common.{◌≡◌, ℕ, suc, ◌≤◌, List, [], ◌∷◌, ◌++◌, Some, None, Option, sym, refl, ap, ◌∙◌, subst, append_assoc, append-nil, le_refl, arith, lit≤}
use Rattle.std.proofs.lemmas.Option.{none-some, same_Some}
use Rattle.parser.specs.declared.symbols.Leaf.{Leaf as AnyLeaf}
use Rattle.parser.specs.declared.symbols.Leaf.TheVariants.{Null}
use Rattle.parser.specs.declared.symbols.Prefix.{Prefix as AnyPrefix}
use Rattle.parser.specs.declared.symbols.Operator.{Operator}
use Rattle.parser.specs.declared.symbols.Symbol.{Symbol}
use Rattle.parser.specs.declared.symbols.Symbol.TheVariants.{Leaf, Open, Close, Colon, Semicolon}
use Rattle.parser.specs.declared.symbols.Token.{Token}
use Rattle.parser.specs.declared.symbols.Follow.{Follow}
use Rattle.parser.specs.declared.symbols.Follow.TheVariants.{Infix, Choice}
use Rattle.parser.specs.Syntax.{Expr, leaf, choice}
use Rattle.parser.specs.Grammar.{leaf_of, before, follow, binding, prefix, atom, left, level, Phrase, begins, goes_on, Operand, a_leaf, brackets, prefixed, Suffix, by_operator, by_choice, Statements, none, more}
use Rattle.parser.specs.Machine.{Onward, stop, step, Right, right_infix, right_prefix, otherwise, wanted, tightness, built, Part, right, bracket, consequent, wants, Closes, ends, shuts, applies, turns, State, start, want, after, Completes, Ready, Same, Dead}
use Rattle.parser.proofs.Corner.{tight_wanted, wanted_prefix, right_shut, onto, split}

pub wants_prefix : (ps : List Part) → wants ps ≤ prefix
wants_prefix [] = lit≤ tt
wants_prefix (right r ∷ ps) = wanted_prefix r
wants_prefix (bracket ∷ ps) = lit≤ tt
wants_prefix (consequent a ∷ ps) = lit≤ tt

pub wants_atom : (ps : List Part) → wants ps ≤ atom
wants_atom ps = omega (arith, wants_prefix ps)

pub never : {A B : Type 0} {o : Option B} (p : B) → o ≡ None → o ≡ Some p → A
never p h k = absurd (none-some p (sym h ∙ k))

-- before a statement

pub begin : (b : List Expr) (t : Token) (ts : List Token) → Same start b [] (t ∷ ts) want b [] (t ∷ ts)
begin b t ts all = (λ h. from h.1 h.2 h.3, λ h. back h.3 h.2)
  where
    from : (ss : List Expr) → Statements (t ∷ ts) ss [] → all ≡ b ++ ss → Completes want b [] (t ∷ ts) all
    from _ (more i d s) q = (_, _, d, ends i s q)

    back : {e : Expr} {us : List Token} → Closes b [] e us all → Phrase 0 (t ∷ ts) e us → Completes start b [] (t ∷ ts) all
    back (ends i s q) d = (refl, _, more i d s, q)

-- before an operand

pub record Headed (b : List Expr) (ps : List Part) (ts : List Token) (all : List Expr) : Type 0 where
  pub tight : ℕ
  pub first : Expr
  pub then : List Token
  pub head : Operand tight ts first then
  pub rest : Completes (after tight first) b ps then all

heads : {b : List Expr} {ps : List Part} {ts : List Token} {all : List Expr} → Completes want b ps ts all → Headed b ps ts all
heads h = let s = split h.2 in record { tight = s.tight; first = s.first; then = s.then; head = s.head; rest = (h.0, h.1, s.onward, h.3) }

-- a first operand, and then what follows it
led : {b : List Expr} {ps : List Part} {k : ℕ} {e : Expr} {ts us : List Token} {all : List Expr} → Operand k ts e us → Completes (after k e) b ps us all → Completes want b ps ts all
led p h = (h.0, h.1, onto (begins (le_refl _) p) h.2, h.3)

pub at_leaf : (b : List Expr) (ps : List Part) (l : AnyLeaf) (t : Token) (ts : List Token) → t.symbol ≡ Leaf l → Same want b ps (t ∷ ts) (after atom (leaf l t.place t.len)) b ps ts
at_leaf b ps l t ts is all = (λ h. let s = heads h in from s.head s.rest, led (a_leaf (ap leaf_of is)))
  where
    from : {k : ℕ} {p : Expr} {us : List Token} → Operand k (t ∷ ts) p us → Completes (after k p) b ps us all → Completes (after atom (leaf l t.place t.len)) b ps ts all
    from (a_leaf {l = m} q) h = subst (λ x. Completes (after atom (leaf x t.place t.len)) b ps ts all) (same_Some m l (sym q ∙ ap leaf_of is)) h
    from (brackets o c d) h = never l (ap leaf_of o) (ap leaf_of is)
    from (prefixed {op = op} q d) h = never op (ap before is) q

pub at_open : (b : List Expr) (ps : List Part) (t : Token) (ts : List Token) → t.symbol ≡ Open → Same want b ps (t ∷ ts) want b (bracket ∷ ps) ts
at_open b ps t ts is all = (λ h. let s = heads h in from s.head s.rest, λ h. back h.2 h.3)
  where
    from : {k : ℕ} {p : Expr} {us : List Token} → Operand k (t ∷ ts) p us → Completes (after k p) b ps us all → Completes want b (bracket ∷ ps) ts all
    from (a_leaf {l = l} q) h = never l (ap leaf_of is) q
    from (brackets o c d) h = (_, _, d, shuts c h.2 h.3)
    from (prefixed {op = op} q d) h = never op (ap before is) q

    back : {e : Expr} {us : List Token} → Phrase 0 ts e us → Closes b (bracket ∷ ps) e us all → Completes want b ps (t ∷ ts) all
    back d (shuts c x r) = led (brackets is c d) (_, _, x, r)

pub at_prefix : (b : List Expr) (ps : List Part) (op : AnyPrefix) (t : Token) (ts : List Token) → before t.symbol ≡ Some op → (leaf_of t.symbol ≡ None) → Same want b ps (t ∷ ts) want b (right (right_prefix op t.place) ∷ ps) ts
at_prefix b ps op t ts is other all = (λ h. let s = heads h in from s.head s.rest, λ h. back h.2 h.3)
  where
    from : {k : ℕ} {p : Expr} {us : List Token} → Operand k (t ∷ ts) p us → Completes (after k p) b ps us all → Completes want b (right (right_prefix op t.place) ∷ ps) ts all
    from (a_leaf {l = l} q) h = never l other q
    from (brackets o c d) h = never op (ap before o) is
    from (prefixed {op = q} p d) h =
        subst (λ x. Completes want b (right (right_prefix x t.place) ∷ ps) ts all) (same_Some q op (sym p ∙ is)) (_, _, d, applies h.2 h.3)

    back : {e : Expr} {us : List Token} → Phrase prefix ts e us → Closes b (right (right_prefix op t.place) ∷ ps) e us all → Completes want b ps (t ∷ ts) all
    back d (applies x c) = led (prefixed is d) (_, _, x, c)

-- a token that no operand begins with
pub no_operand : (b : List Expr) (ps : List Part) (t : Token) → leaf_of t.symbol ≡ None → (t.symbol ≡ Open → ⊥) → before t.symbol ≡ None → Dead want b ps t
no_operand b ps t no_leaf shut no-prefix ts all h = from (heads h).head
  where
    from : {k : ℕ} {p : Expr} {us : List Token} → Operand k (t ∷ ts) p us → ⊥
    from (a_leaf {l = l} q) = never l no_leaf q
    from (brackets o c d) = shut o
    from (prefixed {op = op} q d) = never op no-prefix q

-- after an operand

-- what waits for no tighter operand than a token's way to go on is not closed by that token
unclosed : {b : List Expr} {ps : List Part} {e : Expr} {t : Token} {ts : List Token} {all : List Expr} (f : Follow) → follow t.symbol ≡ Some f → wants ps ≤ level f → Closes b ps e (t ∷ ts) all → ⊥
unclosed f o h (ends i s q) = never f (ap follow i) o
unclosed f o h (shuts i x c) = never f (ap follow i) o
unclosed f o h (turns i d x c) = never f (ap follow i) o
unclosed f o h (applies {r = r} (stop l) c) = unclosed f o (omega (arith, tight_wanted r)) c
unclosed f o h (applies {r = r} (step g p l k s x) c) = right_shut r f h (subst (λ q. left q ≤ tightness r) (same_Some g f (sym p ∙ o)) k)

-- a token that goes on, with the part that it opens
module _ (b : List Expr) (ps : List Part) (k : ℕ) (e : Expr) (t : Token) (f : Follow) (ts : List Token) (o : follow t.symbol ≡ Some f) (low : wants ps ≤ level f) (high : left f ≤ k) where
  on : {all : List Expr} → Completes (after k e) b ps (t ∷ ts) all → (a : Expr) × (us : List Token) × Suffix f e ts a us × Completes (after (level f) a) b ps us all
  on {all} h = go h.2 h.3
    where
      go : {e' : Expr} {us : List Token} → Onward k (wants ps) e (t ∷ ts) e' us → Closes b ps e' us all → (a : Expr) × (us : List Token) × Suffix f e ts a us × Completes (after (level f) a) b ps us all
      go (stop l) c = absurd (unclosed f o low c)
      go (step g p l k' s x) c = subst (λ q. (a : Expr) × (us : List Token) × Suffix q e ts a us × Completes (after (level q) a) b ps us all) (same_Some g f (sym p ∙ o)) (_, _, s, (_, _, x, c))

  off : {all : List Expr} {a : Expr} {us : List Token} → Suffix f e ts a us → Completes (after (level f) a) b ps us all → Completes (after k e) b ps (t ∷ ts) all
  off s h = (_, _, step f o low high s h.2, h.3)

pub at_infix : (b : List Expr) (ps : List Part) (k : ℕ) (e : Expr) (t : Token) (op : Operator) (ts : List Token) → follow t.symbol ≡ Some (Infix op) → wants ps ≤ binding op → binding op ≤ k → Same (after k e) b ps (t ∷ ts) want b (right (right_infix op e) ∷ ps) ts
at_infix b ps k e t op ts o low high all = (λ h. let s = on b ps k e t (Infix op) ts o low high h in from s.2 s.3, λ h. back h.2 h.3)
  where
    from : {a : Expr} {us : List Token} → Suffix (Infix op) e ts a us → Completes (after (binding op) a) b ps us all → Completes want b (right (right_infix op e) ∷ ps) ts all
    from (by_operator d) h = (_, _, d, applies h.2 h.3)

    back : {a : Expr} {us : List Token} → Phrase (suc (binding op)) ts a us → Closes b (right (right_infix op e) ∷ ps) a us all → Completes (after k e) b ps (t ∷ ts) all
    back d (applies x c) = off b ps k e t (Infix op) ts o low high (by_operator d) (_, _, x, c)

pub at_question : (b : List Expr) (ps : List Part) (k : ℕ) (e : Expr) (t : Token) (ts : List Token) → follow t.symbol ≡ Some Choice → wants ps ≤ 0 → 1 ≤ k → Same (after k e) b ps (t ∷ ts) want b (consequent e ∷ ps) ts
at_question b ps k e t ts o low high all = (λ h. let s = on b ps k e t Choice ts o low high h in from s.2 s.3, λ h. back h.2 h.3)
  where
    from : {a : Expr} {us : List Token} → Suffix Choice e ts a us → Completes (after 0 a) b ps us all → Completes want b (consequent e ∷ ps) ts all
    from (by_choice i d c) h = (_, _, d, turns i c h.2 h.3)

    back : {a : Expr} {us : List Token} → Phrase 0 ts a us → Closes b (consequent e ∷ ps) a us all → Completes (after k e) b ps (t ∷ ts) all
    back d (turns i c x h) = off b ps k e t Choice ts o low high (by_choice i d c) (_, _, x, h)

pub reduce : (b : List Expr) (ps : List Part) (k : ℕ) (r : Right) (e : Expr) (t : Token) (ts : List Token) → ((f : Follow) → follow t.symbol ≡ Some f → suc (level f) ≤ wanted r) → wanted r ≤ k → Same (after k e) b (right r ∷ ps) (t ∷ ts) (after (tightness r) (built r e)) b ps (t ∷ ts)
reduce b ps k r e t ts y high all = (λ h. from h.2 h.3, λ h. (_, _, stop high, applies h.2 h.3))
  where
    shut : Closes b (right r ∷ ps) e (t ∷ ts) all → Completes (after (tightness r) (built r e)) b ps (t ∷ ts) all
    shut (applies x c) = (_, _, x, c)

    from : {e' : Expr} {us : List Token} → Onward k (wanted r) e (t ∷ ts) e' us → Closes b (right r ∷ ps) e' us all → Completes (after (tightness r) (built r e)) b ps (t ∷ ts) all
    from (stop l) c = shut c
    from (step f o l k' s x) c = absurd (omega (arith, y f o))

-- a token that does not go on ends an operand
stopped : {k ℓ : ℕ} {e e' : Expr} {t : Token} {ts us : List Token} (b : List Expr) (ps : List Part) (all : List Expr) → follow t.symbol ≡ None → Onward k ℓ e (t ∷ ts) e' us → Closes b ps e' us all → Closes b ps e (t ∷ ts) all
stopped b ps all n (stop l) c = c
stopped b ps all n (step f o l k s x) c = never f n o

pub at_close : (b : List Expr) (ps : List Part) (k : ℕ) (e : Expr) (t : Token) (ts : List Token) → t.symbol ≡ Close → Same (after k e) b (bracket ∷ ps) (t ∷ ts) (after atom e) b ps ts
at_close b ps k e t ts is all = (λ h. from (stopped b (bracket ∷ ps) all (ap follow is) h.2 h.3), λ h. (_, _, stop (omega arith), shuts is h.2 h.3))
  where
    from : Closes b (bracket ∷ ps) e (t ∷ ts) all → Completes (after atom e) b ps ts all
    from (shuts i x c) = (_, _, x, c)

pub at_end : (b : List Expr) (k : ℕ) (e : Expr) (t : Token) (ts : List Token) → t.symbol ≡ Semicolon → Same (after k e) b [] (t ∷ ts) start (b ++ e ∷ []) [] ts
at_end b k e t ts is all = (λ h. from (stopped b [] all (ap follow is) h.2 h.3), λ h. (_, _, stop (omega arith), ends is h.2 (h.3 ∙ append_assoc b (e ∷ []) h.1)))
  where
    from : Closes b [] e (t ∷ ts) all → Completes start (b ++ e ∷ []) [] ts all
    from (ends {ss = ss} i s q) = (refl, ss, s, q ∙ sym (append_assoc b (e ∷ []) ss))

pub at_colon : (b : List Expr) (ps : List Part) (a : Expr) (k : ℕ) (e : Expr) (t : Token) (ts : List Token) → t.symbol ≡ Colon → Same (after k e) b (consequent a ∷ ps) (t ∷ ts) want b (right (otherwise a e) ∷ ps) ts
at_colon b ps a k e t ts is all = (λ h. from (stopped b (consequent a ∷ ps) all (ap follow is) h.2 h.3), λ h. back h.2 h.3)
  where
    from : Closes b (consequent a ∷ ps) e (t ∷ ts) all → Completes want b (right (otherwise a e) ∷ ps) ts all
    from (turns i d x c) = (_, _, d, applies x c)

    back : {d : Expr} {us : List Token} → Phrase 0 ts d us → Closes b (right (otherwise a e) ∷ ps) d us all → Completes (after k e) b (consequent a ∷ ps) (t ∷ ts) all
    back d (applies x c) = (_, _, stop (omega arith), turns is d x c)

-- the tokens that close what is open
abbrev pub Closer : List Part → Symbol → Type 0
Closer [] s = s ≡ Semicolon
Closer (right r ∷ ps) s = Unit {0}
Closer (bracket ∷ ps) s = s ≡ Close
Closer (consequent a ∷ ps) s = s ≡ Colon

closer : {b : List Expr} {ps : List Part} {e : Expr} {t : Token} {ts : List Token} {all : List Expr} → Closes b ps e (t ∷ ts) all → Closer ps t.symbol
closer (ends i s q) = i
closer (shuts i x c) = i
closer (applies x c) = tt
closer (turns i d x c) = i

pub not_closed : (b : List Expr) (ps : List Part) (k : ℕ) (e : Expr) (t : Token) → follow t.symbol ≡ None → (Closer ps t.symbol → ⊥) → Dead (after k e) b ps t
not_closed b ps k e t n other ts all h = other (closer (stopped b ps all n h.2 h.3))

-- at the end of the tokens

no_phrase : {ℓ : ℕ} {e : Expr} {us : List Token} → Phrase ℓ [] e us → ⊥
no_phrase (begins l p) = elim p [ ]
no_phrase (goes_on f o l d s) = no_phrase d

no_close : {b : List Expr} {ps : List Part} {e : Expr} {all : List Expr} → Closes b ps e [] all → ⊥
no_close (applies (stop l) c) = no_close c

pub finish : (b all : List Expr) (ps : List Part) → Completes start b ps [] all → all ≡ b
finish b all ps h = h.3 ∙ (ap (λ s. b ++ s) (nothing h.2) ∙ append-nil b)
  where
    nothing : {ss : List Expr} → Statements [] ss [] → ss ≡ []
    nothing none = refl
    nothing (more i d s) = absurd (no_phrase d)

pub finished : (b : List Expr) → Completes start b [] [] b
finished b = (refl, [], none, sym (append-nil b))

pub want_more : (b all : List Expr) (ps : List Part) → Completes want b ps [] all → ⊥
want_more b all ps h = no_phrase h.2

pub after_more : (b all : List Expr) (ps : List Part) (k : ℕ) (e : Expr) → Completes (after k e) b ps [] all → ⊥
after_more b all ps k e h = go h.2 h.3
  where
    go : {e' : Expr} {us : List Token} → Onward k (wants ps) e [] e' us → Closes b ps e' us all → ⊥
    go (stop l) c = no_close c

-- every configuration has a completion

abbrev a_token : Symbol → Token
a_token s = record { symbol = s; place = 0; len = 0 }

some_phrase : {ℓ : ℕ} {us : List Token} → ℓ ≤ atom → Phrase ℓ (a_token (Leaf Null) ∷ us) (leaf Null 0 0) us
some_phrase h = begins h (a_leaf refl)

closable : (b : List Expr) (ps : List Part) (e : Expr) → Ready ps → (ts : List Token) × (all : List Expr) × Closes b ps e ts all
closable b [] e r = (a_token Semicolon ∷ [], b ++ e ∷ [], ends refl none refl)
closable b (right q ∷ ps) e r = let s = closable b ps (built q e) r.1 in (s.0, s.1, applies (stop r.0) s.2)
closable b (bracket ∷ ps) e r = let s = closable b ps e r in (a_token Close ∷ s.0, s.1, shuts refl (stop (wants_atom ps)) s.2)
closable b (consequent a ∷ ps) e r =
    let s = closable b ps (choice a e (leaf Null 0 0)) r.1 in
    (a_token Colon ∷ (a_token (Leaf Null) ∷ s.0), s.1, turns refl (some_phrase (lit≤ tt)) (stop r.0) s.2)

abbrev pub Alive : State → List Expr → List Part → Type 0
Alive s b ps = (ts : List Token) × (all : List Expr) × Completes s b ps ts all

pub want_alive : (b : List Expr) (ps : List Part) → Ready ps → Alive want b ps
want_alive b ps r = let s = closable b ps (leaf Null 0 0) r in (a_token (Leaf Null) ∷ s.0, s.1, (_, _, some_phrase (wants_atom ps), s.2))

pub after_alive : (b : List Expr) (ps : List Part) (k : ℕ) (e : Expr) → wants ps ≤ k → Ready ps → Alive (after k e) b ps
after_alive b ps k e h r = let s = closable b ps e r in (s.0, s.1, (_, _, stop h, s.2))

-- Every place that is told lies in the sheet, or at its end, and has four bytes. Assumes nothing.
use Rattle.std.proofs.Common.{◌≡◌, ℕ, ◌+◌, ◌^◌, ◌<◌, ◌≤◌, ◌⊎◌, List, [], ◌∷◌, ◌++◌, length, sym, refl, ap, subst, inl, inr, ⊎_elim, arith, length-drop}
use Rattle.std.specs.List.{AllByRecursion}
use Rattle.std.proofs.ByRecursion.{All-append, All-get_or, All-map, All-weaker}
use Rattle.std.proofs.lemmas.Bool.{cases_lt}
use Rattle.lexer.specs.Faults.{FirstFault}
use Rattle.lexer.specs.Refusals.{turn}
use Rattle.lexer.specs.Reading.{Lexes, done, refused, token, Ending, stopped, no_token, too_large}
use Rattle.lexer.specs.Scanning.{Tok, NextTo, next_here, next_later, broken_line, TokenFault, too_long, not_lexed, line_broken, too_many}
use Rattle.lexer.specs.declared.kinds.Kind.TheVariants.{Name}
use Rattle.lexer.specs.declared.reasons.Reason.{Reason}
use Rattle.lexer.specs.declared.reasons.Reason.TheVariants.{LongSheet}
use Rattle.lexer.specs.declared.refusal.Refusal.{Refusal}
use Rattle.lexer.proofs.Firsts.{token_some}
use Rattle.types.specs.Types.{Ty, boolean}
use Rattle.registers.specs.Meaning.{Meaning}
use Rattle.parser.specs.declared.symbols.Leaf.{Leaf as AnyLeaf}
use Rattle.parser.specs.declared.symbols.Prefix.{Prefix}
use Rattle.parser.specs.declared.symbols.Operator.{Operator}
use Rattle.parser.specs.declared.symbols.Token.{Token}
use Rattle.parser.specs.declared.symbols.Follow.{Follow}
use Rattle.parser.specs.Syntax.{Expr, leaf, unary, binary, choice, place}
use Rattle.parser.specs.Grammar.{Phrase, begins, goes_on, Operand, a_leaf, brackets, prefixed, Suffix, by_operator, by_choice, Statements, none, more}
use Rattle.parser.specs.Reading.{token_of, BreaksOff, at_token, at_end, Sizes, Fault, short_table, in_tokens, not_program}
use Rattle.checker.specs.declared.finding.Finding.{Finding}
use Rattle.checker.specs.Conditions.{Condition, fits}
use Rattle.checker.specs.Rules.{LeafRule, a_number, a_string, a_true, a_false, a_null, a_name, PrefixRule, a_not, a_negation, a_typeof, InfixRule, arithmetic, comparison, logical, left_number, left_string, right_number, right_string, both_open, Note, ends, conditions, Typed, typed_leaf, typed_unary, typed_binary, typed_choice, AllTyped, typed_none, typed_more}
use Rattle.checker.specs.Findings as findings
use Rattle.checker.specs.Findings.{Findings, met, unmet, finding}
use Rattle.checker.specs.declared.run.Refused.{Refused}
use Rattle.checker.specs.declared.run.Refused.TheVariants.{Read, Check}
use Rattle.checker.specs.Runs.{Readable, AnswersTo, read_refused, too_heavy}
use Rattle.checker.specs.Outcomes.{refusal_in, refusing}
use Rattle.checker.proofs.Logging.{conditions_append}

-- the expression and its parts stand before n
abbrev Placed : ℕ → Expr → Type 0
Placed n (leaf l p k) = p < n
Placed n (unary op p e) = (p < n) × Placed n e
Placed n (binary op a b) = Placed n a × Placed n b
Placed n (choice a b c) = Placed n a × Placed n b × Placed n c

at_place : {n : ℕ} (e : Expr) → Placed n e → place e < n
at_place (leaf l p k) h = h
at_place (unary op p e) h = h.0
at_place (binary op a b) h = at_place a h.0
at_place (choice a b c) h = at_place a h.0

-- from tokens that stand before n come expressions that do, and then tokens that do
module _ (n : ℕ) where
  abbrev Before : Token → Type 0
  Before t = t.place < n

  mutual
    phrase_in : {ℓ : ℕ} {ts us : List Token} {e : Expr} → Phrase ℓ ts e us → AllByRecursion Before ts → Placed n e × AllByRecursion Before us
    phrase_in (begins l p) h = operand_in p h
    phrase_in (goes_on f o l d s) h = let x = phrase_in d h in suffix_in s x.0 x.1.1

    operand_in : {k : ℕ} {ts us : List Token} {e : Expr} → Operand k ts e us → AllByRecursion Before ts → Placed n e × AllByRecursion Before us
    operand_in (a_leaf is) h = h
    operand_in (brackets o c d) h = let x = phrase_in d h.1 in (x.0, x.1.1)
    operand_in (prefixed is d) h = let x = phrase_in d h.1 in ((h.0, x.0), x.1)

    suffix_in : {f : Follow} {a e : Expr} {ts us : List Token} → Suffix f a ts e us → Placed n a → AllByRecursion Before ts → Placed n e × AllByRecursion Before us
    suffix_in (by_operator d) p h = let x = phrase_in d h in ((p, x.0), x.1)
    suffix_in (by_choice is d c) p h = let x = phrase_in d h in let y = phrase_in c x.1.1 in ((p, x.0, y.0), y.1)

  statements_in : {ts us : List Token} {ss : List Expr} → Statements ts ss us → AllByRecursion Before ts → AllByRecursion (Placed n) ss
  statements_in none h = tt
  statements_in (more is d s) h = let x = phrase_in d h in (x.0, statements_in s x.1.1)

-- the conditions are told at places before n
abbrev Near : ℕ → List Condition → Type 0
Near n cs = AllByRecursion (λ c. (finding c).place < n) cs

ends_are : (cs : List Condition) (t : Ty) → conditions (ends cs t) ≡ cs
ends_are [] t = refl
ends_are (c ∷ cs) t = ap (λ ds. c ∷ ds) (ends_are cs t)

module _ (n : ℕ) where
  near_append : (ms ns : List Note) → Near n (conditions ms) → Near n (conditions ns) → Near n (conditions (ms ++ ns))
  near_append ms ns p q = subst (Near n) (sym (conditions_append ms ns)) (All-append (λ c. (finding c).place < n) (conditions ms) (conditions ns) p q)

  near_ends : (cs : List Condition) (t : Ty) → Near n cs → Near n (conditions (ends cs t))
  near_ends cs t h = subst (Near n) (sym (ends_are cs t)) h

  leaf_near : {p k : ℕ} {sheet : List ℕ} {Γ : Meaning} {l : AnyLeaf} {t : Ty} {cs : List Condition} → LeafRule sheet Γ p k l t cs → p < n → Near n cs
  leaf_near (a_number x) h = tt
  leaf_near (a_string x) h = tt
  leaf_near a_true h = tt
  leaf_near a_false h = tt
  leaf_near a_null h = tt
  leaf_near a_name h = (h, tt)

  prefix_near : {p : ℕ} {t u : Ty} {op : Prefix} {cs : List Condition} → PrefixRule p t op u cs → p < n → Near n cs
  prefix_near a_not h = (h, tt)
  prefix_near a_negation h = (h, tt)
  prefix_near a_typeof h = tt

  infix_near : {p q : ℕ} {s t u : Ty} {op : Operator} {cs : List Condition} → InfixRule p s q t op u cs → p < n → q < n → Near n cs
  infix_near (arithmetic a) g h = (g, (h, tt))
  infix_near (comparison a) g h = (h, tt)
  infix_near (logical a x) g h = (g, tt)
  infix_near (left_number a) g h = (h, tt)
  infix_near (left_string a) g h = (h, tt)
  infix_near (right_number a b) g h = (g, tt)
  infix_near (right_string a b) g h = (g, tt)
  infix_near (both_open a b) g h = (g, (h, tt))

  typed_near : {sheet : List ℕ} {Γ : Meaning} {e : Expr} {t : Ty} {ns : List Note} → Typed sheet Γ e t ns → Placed n e → Near n (conditions ns)
  typed_near (typed_leaf {t} {cs} r) h = near_ends cs t (leaf_near r h)
  typed_near (typed_unary {e} {u} {ns} {cs} x r) h = near_append ns (ends cs u) (typed_near x h.1) (near_ends cs u (prefix_near r (at_place e h.1)))
  typed_near (typed_binary {a} {b} {u} {ms} {ns} {cs} x y r) h =
      near_append ms (ns ++ ends cs u) (typed_near x h.0)
      (near_append ns (ends cs u) (typed_near y h.1) (near_ends cs u (infix_near r (at_place a h.0) (at_place b h.1))))
  typed_near (typed_choice {a} {r} {u} {ls} {ms} {ns} x y z w) h =
      let last = ends (fits (place a) r boolean ∷ []) u in
      near_append ls (ms ++ (ns ++ last)) (typed_near x h.0)
      (near_append ms (ns ++ last) (typed_near y h.1)
      (near_append ns last (typed_near z h.2) (near_ends (fits (place a) r boolean ∷ []) u (at_place a h.0, tt))))

  all_near : {sheet : List ℕ} {Γ : Meaning} {es : List Expr} {ns : List Note} → AllTyped sheet Γ es ns → AllByRecursion (Placed n) es → Near n (conditions ns)
  all_near typed_none h = tt
  all_near (typed_more {ms} {ns} x xs) h = near_append ms ns (typed_near x h.0) (all_near xs h.1)

  found_near : {cs : List Condition} {fs : List Finding} → Findings cs fs → Near n cs → AllByRecursion (λ f. f.place < n) fs
  found_near findings.none h = tt
  found_near (met m f) h = found_near f h.1
  found_near (unmet m f) h = (h.0, found_near f h.1)

module _ {sheet : List ℕ} where
  lexed_near : {at : ℕ} {ts : List Tok} {end : Ending} → Lexes sheet at ts end → AllByRecursion (λ t. t.1 < length sheet) ts
  lexed_near (done g p h) = tt
  lexed_near (refused g p w) = tt
  lexed_near {at} (token g {k} n p t s l) = (omega (arith, token_some _ k n t, t.within, length-drop (at + g) sheet), lexed_near l)

  stopped_near : {at p : ℕ} {ts : List Tok} {r : Reason} → Lexes sheet at ts (stopped r p) → (p ≤ length sheet) × (3 ≤ turn r)
  stopped_near {at} (refused g q (no_token h m)) = (omega (arith, length-drop (at + g) sheet), omega arith)
  stopped_near {at} (refused g q (too_large {k} {n} t l)) = (omega (arith, token_some _ k n t, t.within, length-drop (at + g) sheet), omega arith)
  stopped_near (token g n p t s l) = stopped_near l

-- a sheet that breaks no rule is short, and the findings stand in it
module _ {s : Sizes} {sheet : List ℕ} {ss : List Expr} (r : Readable s sheet ss) where
  short_sheet : length sheet ≤ 16384
  short_sheet = ⊎_elim (λ long. absurd (r.faultless _ _ (in_tokens (too_long long)))) (λ ok. ok) (cases_lt 16384 (length sheet))

  placed : AllByRecursion (Placed (length sheet)) ss
  placed = statements_in (length sheet) r.written.program (All-map (λ (t : Token). t.place < length sheet) (token_of sheet) r.written.lexed (lexed_near r.written.lexes))

  -- the places of the findings have four bytes
  pub findings_near : {Γ : Meaning} {ns : List Note} {fs : List Finding} → AllTyped sheet Γ ss ns → Findings (conditions ns) fs → AllByRecursion (λ f. f.place < 2 ^ 32) fs
  findings_near {fs = fs} t f =
      All-weaker (λ f. f.place < length sheet) (λ f. f.place < 2 ^ 32) (λ f l. omega (arith, short_sheet)) fs (found_near (length sheet) f (all_near (length sheet) t placed))

next_in : (P : Tok → Type 0) {ts : List Tok} {t u : Tok} → NextTo ts t u → AllByRecursion P ts → P u
next_in P next_here h = h.1.0
next_in P (next_later x) h = next_in P x h.1

middle_in : (P : Token → Type 0) (xs : List Token) (y : Token) (ys : List Token) → AllByRecursion P (xs ++ (y ∷ ys)) → P y
middle_in P [] y ys h = h.0
middle_in P (x ∷ xs) y ys h = middle_in P xs y ys h.1

breaks_in : {sheet : List ℕ} {ts : List Token} {p : ℕ} → BreaksOff sheet ts p → AllByRecursion (λ t. t.place < length sheet) ts → p ≤ length sheet
breaks_in {sheet} (at_token before t rest e b) h =
    let P : Token → Type 0 = λ x. x.place < length sheet in
    let low : t.place < length sheet = middle_in P before t rest (subst (AllByRecursion P) e h) in
    omega arith
breaks_in (at_end b) h = omega arith

-- where a rule of reading is broken: within the first 16,384 bytes, or in the sheet where its length is within them
tokens_near : {sheet : List ℕ} {r : Reason} {p : ℕ} → TokenFault sheet r p → (p ≤ 16384) ⊎ ((p ≤ length sheet) × (3 ≤ turn r))
tokens_near (too_long h) = inl (omega arith)
tokens_near (not_lexed l) = inr (stopped_near l)
tokens_near {sheet} (line_broken l (broken_line t u x o f e)) =
    let low : u.1 < length sheet = next_in (λ z. z.1 < length sheet) x (lexed_near l) in
    inr (omega arith, omega arith)
tokens_near {sheet} (too_many {ts} l h) =
    let low = All-get_or (λ z. z.1 < length sheet) ts 4096 (Name, 0, 0) h (lexed_near l) in
    inr (omega arith, omega arith)

fault_near : {s : Sizes} {sheet : List ℕ} {r : Reason} {p : ℕ} → Fault s sheet r p → (p ≤ 16384) ⊎ ((p ≤ length sheet) × (3 ≤ turn r))
fault_near (short_table x) = inl (omega arith)
fault_near (in_tokens x) = tokens_near x
fault_near {sheet = sheet} (not_program x) =
    inr (breaks_in x.place (All-map (λ (t : Token). t.place < length sheet) (token_of sheet) x.lexed (lexed_near x.lexes)), omega arith)

-- the place of a refusal has four bytes: where the sheet is over 16,384 bytes, no later rule is tried
pub first_near : {s : Sizes} {sheet : List ℕ} {e : Refusal} → FirstFault (Fault s sheet) e → e.place < 2 ^ 32
first_near {s} {sheet} {e} f =
    ⊎_elim (λ a. omega arith)
    (λ b. ⊎_elim (λ long. absurd (omega (arith, f.no_earlier LongSheet 16384 (in_tokens (too_long long)), b.1))) (λ ok. omega (arith, b.0)) (cases_lt 16384 (length sheet)))
    (fault_near f.is_fault)

pub refusal_near : {s : Sizes} {Γ : Meaning} {sheet : List ℕ} (r : Refused) → AnswersTo s Γ sheet (refusing r) → (refusal_in r).place < 2 ^ 32
refusal_near (Read e) (read_refused f) = first_near f
refusal_near (Check e) (too_heavy ss r w) = omega arith

-- Token lists that are one program and no other, turn by turn. Assumes nothing.
use Rattle.std.proofs.Common.{◌≡◌, ℕ, zero, suc, ◌≤◌, Bool, true, not, ◌&&◌, eqb, List, [], ◌∷◌, ◌++◌, length, get_or, Some, None, sym, refl, ap, subst, arith, eq-eqb}
use Rattle.std.proofs.lemmas.Bool.{and_parts, both_ways}
use Rattle.lexer.specs.Reading.{Lexes, finished}
use Rattle.lexer.specs.Scanning.{Tok, BrokenLine, broken_line}
use Rattle.lexer.proofs.Unique.{lexes_once}
use Rattle.lexer.proofs.Verdicts.{clean}
use Rattle.parser.specs.declared.symbols.Leaf.{Leaf as AnyLeaf}
use Rattle.parser.specs.declared.symbols.Operator.{Operator}
use Rattle.parser.specs.declared.symbols.Symbol.TheVariants.{Leaf, Open, Close, Colon, Semicolon}
use Rattle.parser.specs.declared.symbols.Token.{Token}
use Rattle.parser.specs.declared.symbols.Follow.TheVariants.{Infix, Choice}
use Rattle.parser.specs.Syntax.{Expr, leaf}
use Rattle.parser.specs.Grammar.{follow, binding, atom, Program}
use Rattle.parser.specs.Reading.{tokens, Written, Sizes, Short}
use Rattle.parser.specs.Machine.{Right, right_infix, otherwise, wanted, tightness, built, Part, right, bracket, consequent, wants, State, start, want, after, Completes, Same}
use Rattle.parser.proofs.Faults.{faultless}
use Rattle.parser.proofs.Turns as turns
use Rattle.parser.proofs.Turns.{never}
use Rattle.checker.specs.Runs.{Readable}

-- the tokens complete what is open, and to this program alone
pub record Leads (s : State) (b : List Expr) (ps : List Part) (ts : List Token) (goal : List Expr) : Type 0 where
  pub there : Completes s b ps ts goal
  pub only : (all : List Expr) → Completes s b ps ts all → all ≡ goal

via : {s s' : State} {b b' : List Expr} {ps ps' : List Part} {ts us : List Token} {goal : List Expr} → Same s b ps ts s' b' ps' us → Leads s' b' ps' us goal → Leads s b ps ts goal
via {goal = goal} same r = record { there = (same goal).1 r.there; only = λ all h. r.only all ((same all).0 h) }

pub done : {b : List Expr} → Leads start b [] [] b
done {b} = record { there = turns.finished b; only = λ all h. turns.finish b all [] h }

module _ {goal : List Expr} {b : List Expr} where
  pub begin : {t : Token} {ts : List Token} → Leads want b [] (t ∷ ts) goal → Leads start b [] (t ∷ ts) goal
  begin r = via (turns.begin b _ _) r

  pub end : {k : ℕ} {e : Expr} {t : Token} {ts : List Token} → t.symbol ≡ Semicolon → Leads start (b ++ e ∷ []) [] ts goal → Leads (after k e) b [] (t ∷ ts) goal
  end is r = via (turns.at_end b _ _ _ _ is) r

  module _ {ps : List Part} {t : Token} {ts : List Token} where
    pub operand : {l : AnyLeaf} → t.symbol ≡ Leaf l → Leads (after atom (leaf l t.place t.len)) b ps ts goal → Leads want b ps (t ∷ ts) goal
    operand is r = via (turns.at_leaf b ps _ t ts is) r

    pub opened : t.symbol ≡ Open → Leads want b (bracket ∷ ps) ts goal → Leads want b ps (t ∷ ts) goal
    opened is r = via (turns.at_open b ps t ts is) r

    module _ {k : ℕ} {e : Expr} where
      pub operator : (op : Operator) → follow t.symbol ≡ Some (Infix op) → wants ps ≤ binding op → binding op ≤ k → Leads want b (right (right_infix op e) ∷ ps) ts goal → Leads (after k e) b ps (t ∷ ts) goal
      operator op is low high r = via (turns.at_infix b ps k e t op ts is low high) r

      pub asked : follow t.symbol ≡ Some Choice → wants ps ≤ 0 → 1 ≤ k → Leads want b (consequent e ∷ ps) ts goal → Leads (after k e) b ps (t ∷ ts) goal
      asked is low high r = via (turns.at_question b ps k e t ts is low high) r

      pub turned : {a : Expr} → t.symbol ≡ Colon → Leads want b (right (otherwise a e) ∷ ps) ts goal → Leads (after k e) b (consequent a ∷ ps) (t ∷ ts) goal
      turned is r = via (turns.at_colon b ps _ k e t ts is) r

      pub closed : t.symbol ≡ Close → Leads (after atom e) b ps ts goal → Leads (after k e) b (bracket ∷ ps) (t ∷ ts) goal
      closed is r = via (turns.at_close b ps k e t ts is) r

      -- a token that does not go on ends the part
      pub reduced : {r : Right} → follow t.symbol ≡ None → wanted r ≤ k → Leads (after (tightness r) (built r e)) b ps (t ∷ ts) goal → Leads (after k e) b (right r ∷ ps) (t ∷ ts) goal
      reduced {r} is high more = via (turns.reduce b ps k r e t ts (λ f on. never f is on) high) more

-- no byte is a line feed
abbrev no_feed : List ℕ → Bool
no_feed [] = true
no_feed (b ∷ bs) = not (eqb b 10) && no_feed bs

feedless : (bs : List ℕ) → no_feed bs ≡ true → (i : ℕ) → get_or bs i 0 ≡ 10 → ⊥
feedless [] h i e = absurd (omega arith)
feedless (b ∷ bs) h zero e = let p = and_parts (not (eqb b 10)) (no_feed bs) h in both_ways (not (eqb b 10)) (ap not (eq-eqb b 10 e)) p.0
feedless (b ∷ bs) h (suc i) e = feedless bs (and_parts (not (eqb b 10)) (no_feed bs) h).1 i e

-- the sheet breaks no rule, and is this program and no other
abbrev pub Reading : List ℕ → List Expr → Type 0
Reading sheet es = (s : Sizes) → (Short s → ⊥) → Readable s sheet es

program_of : {ts : List Token} {all : List Expr} → Completes start [] [] ts all → Program ts all
program_of {ts} h = subst (λ ss. Program ts ss) (sym h.3) h.2

pub reading : {sheet : List ℕ} {ls : List Tok} {es : List Expr} → length sheet ≤ 16384 → no_feed sheet ≡ true → length ls ≤ 4096 → Lexes sheet 0 ls finished → Leads start [] [] (tokens sheet ls) es → Reading sheet es
reading {sheet} {ls} {es} short feeds few l r s long = record {
  faultless = faultless s sheet long (length ls) (clean sheet short ls l unbroken (length ls) refl few) written;
  written = written;
  only = λ other w. r.only other (refl, other, subst (λ ts. Program (tokens sheet ts) other) (lexes_once sheet 0 w.lexed ls finished finished w.lexes l).0 w.program, refl);
}
  where
    unbroken : (q : ℕ) → BrokenLine sheet ls q → ⊥
    unbroken q (broken_line t u n o f at) = feedless sheet feeds f.0 f.3

    written : Written sheet es
    written = record { lexed = ls; lexes = l; program = program_of r.there }

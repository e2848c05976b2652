-- A turn at each position, and the whole run. Assumes nothing.
use Rattle.std.proofs.Common.{◌≡◌, ℕ, ◌+◌, ◌≤◌, List, [], ◌∷◌, ◌++◌, length, Some, None, Option, sym, refl, ap, ◌∙◌, subst, append_assoc, append-nil, arith, MatchOption}
use Rattle.parser.specs.declared.symbols.Token.{Token}
use Rattle.parser.specs.declared.tree.TreeEntry.{TreeEntry}
use Rattle.parser.specs.declared.tree.OperatorEntry.{OperatorEntry}
use Rattle.parser.specs.declared.builder.Position.{Position}
use Rattle.parser.specs.declared.builder.Position.TheVariants.{Start, Want, After}
use Rattle.lexer.specs.Reading.{Lexes, finished as all-tokens}
use Rattle.lexer.specs.Scanning.{Tok}
use Rattle.lexer.proofs.Unique.{lexes_once}
use Rattle.parser.specs.declared.reading.Read.{Read}
use Rattle.parser.specs.Syntax.{Expr, sizes}
use Rattle.parser.specs.Grammar.{atom, Program, Begins}
use Rattle.parser.specs.Table.{last_of, Listed, no_more}
use Rattle.parser.specs.Machine.{Ready, Part, State, start, want, after, Completes, Dead}
use Rattle.parser.specs.Holds.{Progress, spent, Before, Frames, no_frame, Ended, Stage, at_start, at_want, at_after, Holds, Next, Sofar}
use Rattle.parser.specs.Reading.{tokens, Represents, NotProgram, at_end}
use Rattle.parser.proofs.Turns.{wants_atom, begin, finish, finished, want_more, after_more, Alive, want_alive, after_alive}

module _ {A : Type 0} (told : A → Progress) (sheet : ℕ) (old table : List TreeEntry) (fs gs : List OperatorEntry) (t : Token) (p : Progress) (r : Option A) (s : State) (b : List Expr) (ps : List Part) (h : Holds sheet old fs p s b ps) where
  pub from_start : p.position ≡ Start → (Before sheet old fs p.used p.last b ps × (p.used ≡ sizes b + spent ps) → MatchOption r (Dead want b ps t) (λ n. Next sheet table gs (told n) want b ps t)) → MatchOption r (Dead s b ps t) (λ n. Next sheet table gs (told n) s b ps t)
  from_start is k = go (subst (λ q. Stage old p.used p.last b q s ps) is h.stage) r (λ n. k (h.before, n))
    where
      go : {s : State} {ps : List Part} → Stage old p.used p.last b Start s ps → (r : Option A) → (p.used ≡ sizes b + spent ps → MatchOption r (Dead want b ps t) (λ n. Next sheet table gs (told n) want b ps t)) → MatchOption r (Dead s b ps t) (λ n. Next sheet table gs (told n) s b ps t)
      go (at_start n l) None d = λ ts all x. d (omega arith) ts all ((begin b t ts all).0 x)
      go (at_start n l) (Some q) d =
          let m = d (omega arith) in
          record {
            state = m.state;
            statements = m.statements;
            parts = m.parts;
            holds = m.holds;
            same = λ ts all. (λ x. (m.same ts all).0 ((begin b t ts all).0 x), λ x. (begin b t ts all).1 ((m.same ts all).1 x));
          }

  pub from_want : p.position ≡ Want → (Before sheet old fs p.used p.last b ps × (p.used ≡ sizes b + spent ps) → MatchOption r (Dead want b ps t) (λ n. Next sheet table gs (told n) want b ps t)) → MatchOption r (Dead s b ps t) (λ n. Next sheet table gs (told n) s b ps t)
  from_want is k = go (subst (λ q. Stage old p.used p.last b q s ps) is h.stage) (λ n. k (h.before, n))
    where
      go : {s : State} {ps : List Part} → Stage old p.used p.last b Want s ps → (p.used ≡ sizes b + spent ps → MatchOption r (Dead want b ps t) (λ n. Next sheet table gs (told n) want b ps t)) → MatchOption r (Dead s b ps t) (λ n. Next sheet table gs (told n) s b ps t)
      go (at_want n) d = d n

  pub from_after : (i : ℕ) → p.position ≡ After i → ((e : Expr) → Ended sheet old fs (record { at = i; used = p.used }) p.last atom b ps e → MatchOption r (Dead (after atom e) b ps t) (λ n. Next sheet table gs (told n) (after atom e) b ps t)) → MatchOption r (Dead s b ps t) (λ n. Next sheet table gs (told n) s b ps t)
  from_after i is k = go (subst (λ q. Stage old p.used p.last b q s ps) is h.stage) h.before k
    where
      go : {s : State} {ps : List Part} → Stage old p.used p.last b (After i) s ps → Before sheet old fs p.used p.last b ps → ((e : Expr) → Ended sheet old fs (record { at = i; used = p.used }) p.last atom b ps e → MatchOption r (Dead (after atom e) b ps t) (λ n. Next sheet table gs (told n) (after atom e) b ps t)) → MatchOption r (Dead s b ps t) (λ n. Next sheet table gs (told n) s b ps t)
      go (at_after {ps = ps} {e = e} low tree n) h k = k e (record { before = h; fits = wants_atom ps; low = low; tree = tree; exact = n })

-- the run

pub sofar_none : (sheet : ℕ) (table : List TreeEntry) (fs : List OperatorEntry) → fs ≡ [] → Sofar sheet [] table fs (record { used = 0; last = None; position = Start })
sofar_none sheet table fs e = record {
  state = start;
  statements = [];
  parts = [];
  holds = record {
    before = record { frames = subst (λ f. Frames sheet table 0 f []) (sym e) no_frame; ready = tt; listed = no_more; low = tt; proper = λ i l. absurd (omega arith) };
    stage = at_start refl refl;
  };
  means = λ rest all. (λ x. (refl, all, x, refl), λ x. subst (λ ss. Program rest ss) (sym x.3) x.2);
}

module _ (sheet : ℕ) (before : List Token) (t : Token) {old : List TreeEntry} {fs : List OperatorEntry} {p : Progress} (h : Sofar sheet before old fs p) where
  pub sofar_more : {new : List TreeEntry} {gs : List OperatorEntry} {q : Progress} → Next sheet new gs q h.state h.statements h.parts t → Sofar sheet (before ++ t ∷ []) new gs q
  sofar_more n = record {
    state = n.state;
    statements = n.statements;
    parts = n.parts;
    holds = n.holds;
    means = λ rest all. (
      λ x. (n.same rest all).0 ((h.means (t ∷ rest) all).0 (subst (λ ts. Program ts all) (append_assoc before (t ∷ []) rest) x)),
      λ x. subst (λ ts. Program ts all) (sym (append_assoc before (t ∷ []) rest)) ((h.means (t ∷ rest) all).1 ((n.same rest all).1 x)),
    );
  }

  pub no_start : Dead h.state h.statements h.parts t → Begins (before ++ t ∷ []) → ⊥
  no_start dead x = dead x.0 x.1 ((h.means (t ∷ x.0) x.1).0 (subst (λ ts. Program ts x.1) (append_assoc before (t ∷ []) x.0) x.2))

-- all the tokens are read
module _ {sheet : List ℕ} {ls : List Tok} {table : List TreeEntry} {fs : List OperatorEntry} {p : Progress} (l : Lexes sheet 0 ls all-tokens) (h : Sofar (length sheet) (tokens sheet ls) table fs p) where
  -- what the end of the tokens completes, they complete
  ending : (ss : List Expr) → (Program (tokens sheet ls) ss → Completes h.state h.statements h.parts [] ss) × (Completes h.state h.statements h.parts [] ss → Program (tokens sheet ls) ss)
  ending ss =
      let same = append-nil (tokens sheet ls) in
      (λ x. (h.means [] ss).0 (subst (λ ts. Program ts ss) (sym same) x), λ x. subst (λ ts. Program ts ss) same ((h.means [] ss).1 x))

  pub accepted : (read : Read) → read.used ≡ p.used → length ls ≤ 4096 → p.used ≤ length ls → p.position ≡ Start → (ss : List Expr) × Represents sheet table read ss
  accepted read used few below is = go h.state h.parts (subst (λ q. Stage table p.used p.last h.statements q h.state h.parts) is h.holds.stage) ending
    where
      go : (s : State) (ps : List Part) → Stage table p.used p.last h.statements Start s ps → ((ss : List Expr) → (Program (tokens sheet ls) ss → Completes s h.statements ps [] ss) × (Completes s h.statements ps [] ss → Program (tokens sheet ls) ss)) → (ss : List Expr) × Represents sheet table read ss
      go _ _ (at_start n last) m = (
        h.statements,
        record {
          written = record { lexed = ls; lexes = l; program = (m h.statements).1 (finished h.statements) };
          only = λ other w. finish h.statements other [] ((m other).0 (subst (λ ts. Program (tokens sheet ts) other) (lexes_once sheet 0 w.lexed ls all-tokens all-tokens w.lexes l).0 w.program));
          listed = subst (λ i. Listed table i h.statements) (last ∙ ap last_of (sym used)) h.holds.before.listed;
          exact = used ∙ n;
          proper = λ i lt. h.holds.before.proper i (omega arith);
          small = omega arith;
        },
      )

  unfinished : (q : Position) (s : State) (ps : List Part) → (q ≡ Start → ⊥) → Stage table p.used p.last h.statements q s ps → Ready ps → ((all : List Expr) → Completes s h.statements ps [] all → ⊥) × Alive s h.statements ps
  unfinished _ _ _ open-still (at_start n l) r = absurd (open-still refl)
  unfinished _ _ _ open-still (at_want {ps} n) r = (λ all. want_more h.statements all ps, want_alive h.statements ps r)
  unfinished _ _ _ open-still (at_after {ps} {e = e} low tree n) r = (λ all. after_more h.statements all ps atom e, after_alive h.statements ps atom e (wants_atom ps) r)

  pub refused_at_end : (p.position ≡ Start → ⊥) → NotProgram sheet (length sheet)
  refused_at_end open-still =
      let u = unfinished p.position h.state h.parts open-still h.holds.stage h.holds.before.ready in
      let a = u.1 in
      record {
        lexed = ls;
        lexes = l;
        none = λ ss x. u.0 ss ((ending ss).0 x);
        place = at_end (a.0, a.1, (h.means a.0 a.1).1 a.2);
      }

-- no program takes more entries than a table has
pub few : {sheet : List ℕ} {table : List TreeEntry} {read : Read} {ss : List Expr} → Represents sheet table read ss → read.used ≤ 4096
few r = omega (arith, r.exact, r.small)

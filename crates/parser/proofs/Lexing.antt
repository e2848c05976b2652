-- The tokens that are read, among those of the whole sheet. Assumes nothing.
use Rattle.std.proofs.Common.{◌≡◌, ℕ, ◌+◌, ◌<◌, ◌≤◌, List, [], ◌∷◌, ◌++◌, length, None, take, drop, sym, refl, ap, ◌∙◌, subst, append_assoc, append-nil, arith, length-append, length-drop}
use Rattle.std.proofs.lemmas.List.{map-append}
use Rattle.lexer.specs.Tokens.{TokenAt}
use Rattle.lexer.specs.Sizes.{Small}
use Rattle.lexer.specs.Reading.{Lexes, done, token, finished, Given, Finished}
use Rattle.lexer.specs.Scanning.{Tok}
use Rattle.lexer.specs.Tallies.{Counted}
use Rattle.lexer.specs.declared.scan.Scanner.{Scanner}
use Rattle.lexer.specs.declared.read.Token.{Token as Text}
use Rattle.lexer.proofs.Firsts.{token_some}
use Rattle.lexer.proofs.Unique.{gap_once, lexes_once}
use Rattle.parser.specs.declared.symbols.Token.{Token}
use Rattle.parser.specs.declared.tree.TreeEntry.{TreeEntry}
use Rattle.parser.specs.declared.tree.OperatorEntry.{OperatorEntry}
use Rattle.parser.specs.declared.builder.Builder.{Builder}
use Rattle.parser.specs.declared.builder.Position.TheVariants.{Start}
use Rattle.parser.specs.Building.{IsEmpty, progress}
use Rattle.stack.specs.Items.{held}
use Rattle.parser.specs.Symbols.{symbol_of}
use Rattle.parser.specs.Grammar.{Program, Begins}
use Rattle.parser.specs.Machine.{Dead}
use Rattle.parser.specs.Holds.{Progress, Within, Next, Sofar}
use Rattle.parser.specs.Reading.{token_of, tokens, NotProgram, BreaksOff, at_token}
use Rattle.parser.proofs.Whole.{sofar_none, sofar_more, no_start}

-- a token that was found, by its kind, place and length
abbrev pub found : Text → Tok
found t = (t.kind, t.at, length t.text.now)

module _ (sheet : List ℕ) (at next : ℕ) (t : Text) (g : Given sheet at t next) where
  pub within : (place len : ℕ) → place ≡ t.at → len ≡ length t.text.now → (place < length sheet) × (place + len ≤ length sheet)
  within place len p n =
      let some_bytes = token_some _ _ _ g.token in
      let room = g.token.within in
      let left = length-drop (at + g.gap) sheet in
      (omega (arith, g.place), omega (arith, g.place))

  -- it is the next of the sheet's tokens
  pub advance : {rest : List Tok} → Lexes sheet at rest finished → (us : List Tok) × (rest ≡ found t ∷ us) × Lexes sheet next us finished
  advance (done h p a) =
      let same = gap_once _ h g.gap p g.past in
      let some_bytes = token_some _ _ _ g.token in
      let room = g.token.within in
      absurd (omega (arith, length-drop (at + g.gap) sheet))
  advance (token h {k = k} n {ts = ts} p tok s l) =
      let same = gap_once _ h g.gap p g.past in
      let tok' = subst (λ i. TokenAt (drop (at + i) sheet) k n) same tok in
      let long : n ≡ length t.text.now = omega (arith, tok'.longest t.kind _ g.token.within g.token.spelled, g.token.longest k n tok'.within tok'.spelled) in
      let there : at + h + n ≡ at + g.gap + length t.text.now = omega arith in
      let l' = subst (λ i. Lexes sheet i ts finished) there l in
      let again : Lexes sheet at ((t.kind, at + g.gap, length t.text.now) ∷ ts) finished =
      token g.gap (length t.text.now) g.past g.token (subst (Small t.kind) g.text g.small) l' in
      let whole = (lexes_once sheet at _ _ finished finished (token h n p tok s l) again).0 in
      (ts, whole ∙ ap (λ i. (t.kind, i, length t.text.now) ∷ ts) (sym g.place), subst (λ i. Lexes sheet i ts finished) (sym g.on) l')

  pub same_token : (x : Token) → x ≡ record { symbol = symbol_of t.kind t.text.now; place = t.at; len = length t.text.now } → x ≡ token_of sheet (found t)
  same_token x e =
      e
      ∙ ap (λ b. record { symbol = symbol_of t.kind b; place = t.at; len = length t.text.now }) (g.text ∙ ap (λ i. take (length t.text.now) (drop i sheet)) (sym g.place))

-- what a step of a scanner gave: a token, and after it one token more is counted
pub record Stepped (sheet : List ℕ) (s : Scanner) (t : Text) (after : Scanner) : Type 0 where
  pub given : Given sheet s.reader.at t after.reader.at
  pub same : after.reader.sheet.now ≡ sheet
  pub counted : Counted after
  pub more : after.tally.count ≡ s.tally.count + 1

-- the sheet's tokens ls are those that the scanner has counted, and then what is left
pub record Along (sheet : List ℕ) (ls : List Tok) (s : Scanner) (table : List TreeEntry) (fs : List OperatorEntry) (p : Progress) : Type 0 where
  pub before : List Tok
  pub rest : List Tok
  pub whole : ls ≡ before ++ rest
  pub lexes : Lexes sheet s.reader.at rest finished
  pub count : length before ≡ s.tally.count
  pub sofar : Sofar (length sheet) (tokens sheet before) table fs p

module _ {sheet : List ℕ} {ls : List Tok} {s after : Scanner} {table : List TreeEntry} {fs : List OperatorEntry} {p : Progress} (t : Text) (d : Stepped sheet s t after) (h : Along sheet ls s table fs p) where
  on : (us : List Tok) × (h.rest ≡ found t ∷ us) × Lexes sheet after.reader.at us finished
  on = advance sheet s.reader.at after.reader.at t d.given h.lexes

  -- no more are counted than there are
  pub not_over : after.tally.count ≤ length ls
  not_over = omega (arith, h.count, d.more, ap length h.whole, length-append h.before h.rest, ap length on.1)

  -- as the grammar has it
  module _ (x : Token) (is : x ≡ record { symbol = symbol_of t.kind t.text.now; place = t.at; len = length t.text.now }) where
    pub lies_within : Within (length sheet) x
    lies_within = within sheet s.reader.at after.reader.at t d.given x.place x.len (ap (λ y. y.place) is) (ap (λ y. y.len) is)

    same : x ≡ token_of sheet (found t)
    same = same_token sheet s.reader.at after.reader.at t d.given x is

    pub along_more : {table' : List TreeEntry} {fs' : List OperatorEntry} {q : Progress} → Next (length sheet) table' fs' q h.sofar.state h.sofar.statements h.sofar.parts x → Along sheet ls after table' fs' q
    along_more {table'} {fs'} {q} n = record {
      before = h.before ++ (found t ∷ []);
      rest = on.0;
      whole = h.whole ∙ (ap (λ r. h.before ++ r) on.1 ∙ sym (append_assoc h.before (found t ∷ []) on.0));
      lexes = on.2;
      count = omega (arith, d.more, h.count, length-append h.before (found t ∷ []));
      sofar = subst (λ ts. Sofar (length sheet) ts table' fs' q)
          (ap (λ y. tokens sheet h.before ++ (y ∷ [])) same ∙ sym (map-append (token_of sheet) h.before (found t ∷ [])))
          (sofar_more (length sheet) (tokens sheet h.before) x h.sofar n);
    }

    pub refused_here : Lexes sheet 0 ls finished → Dead h.sofar.state h.sofar.statements h.sofar.parts x → NotProgram sheet t.at
    refused_here l dead =
        let split : tokens sheet ls ≡ tokens sheet h.before ++ (x ∷ tokens sheet on.0) =
        ap (tokens sheet) (h.whole ∙ ap (λ r. h.before ++ r) on.1) ∙ (map-append (token_of sheet) h.before (found t ∷ on.0) ∙ ap (λ y. tokens sheet h.before ++ (y ∷ tokens sheet on.0)) (sym same)) in
        let none : Begins (tokens sheet h.before ++ (x ∷ [])) → ⊥ = no_start (length sheet) (tokens sheet h.before) x h.sofar dead in
        record {
          lexed = ls;
          lexes = l;
          none = λ ss y. none (tokens sheet on.0, ss, subst (λ ts. Program ts ss) (split ∙ sym (append_assoc (tokens sheet h.before) (x ∷ []) (tokens sheet on.0))) y);
          place = subst (BreaksOff sheet (tokens sheet ls)) (ap (λ y. y.place) is) (at_token (tokens sheet h.before) x (tokens sheet on.0) split none);
        }

pub along_none : {sheet : List ℕ} {ls : List Tok} {s : Scanner} (b : Builder) → s.reader.at ≡ 0 → s.tally.count ≡ 0 → IsEmpty b → Lexes sheet 0 ls finished → Along sheet ls s b.tree.now (held b.parts) (progress b Start)
along_none {sheet} {ls} b a z e l =
    let none : progress b Start ≡ record { used = 0; last = None; position = Start } = let u = e.used in let s = e.last in cc in
    record {
      before = [];
      rest = ls;
      whole = refl;
      lexes = subst (λ i. Lexes sheet i ls finished) (sym a) l;
      count = sym z;
      sofar = subst (λ p. Sofar (length sheet) [] b.tree.now (held b.parts) p) (sym none) (sofar_none (length sheet) b.tree.now (held b.parts) e.parts);
    }

-- nothing is left
pub all_along : {sheet : List ℕ} {ls : List Tok} {s : Scanner} {table : List TreeEntry} {fs : List OperatorEntry} {p : Progress} → Finished sheet s.reader.at → Along sheet ls s table fs p → (length ls ≡ s.tally.count) × Sofar (length sheet) (tokens sheet ls) table fs p
all_along {sheet} {ls} {s} {table} {fs} {p} f h =
    let end = (lexes_once sheet s.reader.at _ _ finished finished h.lexes (done f.gap f.past f.all)).0 in
    let all = sym (h.whole ∙ (ap (λ r. h.before ++ r) end ∙ append-nil h.before)) in
    (sym (ap length all) ∙ h.count, subst (λ ts. Sofar (length sheet) (tokens sheet ts) table fs p) all h.sofar)

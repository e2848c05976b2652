-- The numbers and strings of a program that a sheet writes can be read. Assumes nothing.
use Rattle.std.proofs.Common.{◌≡◌, ℕ, Bool, true, false, ◌&&◌, List, [], ◌∷◌, Some, None, Option, refl, subst}
use Rattle.std.specs.Str.{bytes_eq}
use Rattle.std.proofs.lemmas.Bool.{both_ways, and_parts, cond_both}
use Rattle.lexer.specs.declared.kinds.Kind.{Kind}
use Rattle.lexer.specs.declared.kinds.Kind.TheVariants as kind
use Rattle.lexer.specs.Sizes.{Small}
use Rattle.lexer.specs.Scanning.{Tok}
use Rattle.lexer.specs.Reading.{Ending, Lexes, done, refused, token}
use Rattle.building.proofs.LiteralsMade.{literal_laws}
use Rattle.parser.specs.declared.symbols.Leaf.{Leaf}
use Rattle.parser.specs.declared.symbols.Leaf.TheVariants as symbol
use Rattle.parser.specs.declared.symbols.Symbol.{Symbol}
use Rattle.parser.specs.declared.symbols.Token.{Token}
use Rattle.parser.specs.declared.symbols.Follow.{Follow}
use Rattle.parser.specs.Symbols.{words, marks, symbol_in, symbol_of}
use Rattle.parser.specs.Syntax.{Expr}
use Rattle.parser.specs.Grammar.{leaf_of, Phrase, begins, goes_on, Operand, a_leaf, brackets, prefixed, Suffix, by_operator, by_choice, Statements, none, more}
use Rattle.parser.specs.Reading.{tokens, Written}
use Rattle.checker.specs.Rules.{part}
use Rattle.checker.specs.Legible.{Legible, LegibleExpr, legible_leaf, legible_unary, legible_binary, legible_choice, AllLegible, legible_none, legible_more}

-- a leaf that is no number and no string
abbrev other : Option Leaf → Bool
other None = true
other (Some symbol.Number) = false
other (Some symbol.Text) = false
other (Some symbol.Name) = true
other (Some symbol.True) = true
other (Some symbol.False) = true
other (Some symbol.Null) = true

other_legible : (text : List ℕ) (l : Leaf) → other (Some l) ≡ true → Legible text l
other_legible text symbol.Number e = absurd (both_ways false refl e)
other_legible text symbol.Text e = absurd (both_ways false refl e)
other_legible text symbol.Name e = tt
other_legible text symbol.True e = tt
other_legible text symbol.False e = tt
other_legible text symbol.Null e = tt

-- of the words and marks none is a number or a string
abbrev others : List (List ℕ × Symbol) → Bool
others [] = true
others (r ∷ rs) = other (leaf_of r.1) && others rs

other_in : (rs : List (List ℕ × Symbol)) (text : List ℕ) → others rs ≡ true → other (leaf_of (symbol_in rs text)) ≡ true
other_in [] text e = refl
other_in (r ∷ rs) text e =
    let p = and_parts (other (leaf_of r.1)) (others rs) e in
    cond_both (bytes_eq text r.0) r.1 (symbol_in rs text) (λ s. other (leaf_of s) ≡ true) (λ q. p.0) (λ q. other_in rs text p.1)

legible_in : (rs : List (List ℕ × Symbol)) (text : List ℕ) (l : Leaf) → others rs ≡ true → leaf_of (symbol_in rs text) ≡ Some l → Legible text l
legible_in rs text l e is = other_legible text l (subst (λ o. other o ≡ true) is (other_in rs text e))

same_leaf : {k l : Leaf} (text : List ℕ) → Some k ≡ Some l → Legible text k → Legible text l
same_leaf {k} {l} text is x = let e : k ≡ l = cc in subst (λ m. Legible text m) e x

-- the leaf of a token that is not too large
legible_token : (k : Kind) (text : List ℕ) (l : Leaf) → Small k text → leaf_of (symbol_of k text) ≡ Some l → Legible text l
legible_token kind.Name text l small is = same_leaf text is tt
legible_token kind.Word text l small is = legible_in words text l refl is
legible_token kind.Number text l small is = same_leaf text is (literal_laws.2 text small.0 small.1)
legible_token kind.String text l small is = let s = literal_laws.3 text small.0 small.1 in same_leaf text is (s.0, s.1)
legible_token kind.Mark text l small is = legible_in marks text l refl is

-- tokens whose leaves can be read
data LegibleTokens (sheet : List ℕ) : List Token → Type 0 where
  no_token : LegibleTokens sheet []
  one_token : {t : Token} {ts : List Token} → ((l : Leaf) → leaf_of t.symbol ≡ Some l → Legible (part sheet t.place t.len) l) → LegibleTokens sheet ts → LegibleTokens sheet (t ∷ ts)

rest : {sheet : List ℕ} {t : Token} {ts : List Token} → LegibleTokens sheet (t ∷ ts) → LegibleTokens sheet ts
rest (one_token x xs) = xs

lexed_legible : {sheet : List ℕ} {at : ℕ} {ls : List Tok} {end : Ending} → Lexes sheet at ls end → LegibleTokens sheet (tokens sheet ls)
lexed_legible (done g p l) = no_token
lexed_legible (refused g p w) = no_token
lexed_legible {sheet} (token g {k} n p t small l) = one_token (λ m is. legible_token k _ m small is) (lexed_legible l)

mutual
  phrase_legible : {sheet : List ℕ} {ℓ : ℕ} {ts us : List Token} {e : Expr} → Phrase ℓ ts e us → LegibleTokens sheet ts → LegibleExpr sheet e × LegibleTokens sheet us
  phrase_legible (begins le o) x = operand_legible o x
  phrase_legible (goes_on f is le p s) x = let r = phrase_legible p x in suffix_legible s r.0 (rest r.1)

  operand_legible : {sheet : List ℕ} {k : ℕ} {ts us : List Token} {e : Expr} → Operand k ts e us → LegibleTokens sheet ts → LegibleExpr sheet e × LegibleTokens sheet us
  operand_legible (a_leaf is) (one_token x xs) = (legible_leaf (x _ is), xs)
  operand_legible (brackets o c p) (one_token x xs) = let r = phrase_legible p xs in (r.0, rest r.1)
  operand_legible (prefixed is p) (one_token x xs) = let r = phrase_legible p xs in (legible_unary r.0, r.1)

  suffix_legible : {sheet : List ℕ} {f : Follow} {a e : Expr} {ts us : List Token} → Suffix f a ts e us → LegibleExpr sheet a → LegibleTokens sheet ts → LegibleExpr sheet e × LegibleTokens sheet us
  suffix_legible (by_operator p) a x = let r = phrase_legible p x in (legible_binary a r.0, r.1)
  suffix_legible (by_choice is p q) a x =
      let r = phrase_legible p x in
      let s = phrase_legible q (rest r.1) in
      (legible_choice a r.0 s.0, s.1)

statements_legible : {sheet : List ℕ} {ts us : List Token} {ss : List Expr} → Statements ts ss us → LegibleTokens sheet ts → AllLegible sheet ss
statements_legible none x = legible_none
statements_legible (more is p s) x = let r = phrase_legible p x in legible_more r.0 (statements_legible s (rest r.1))

pub written_legible : {sheet : List ℕ} {ss : List Expr} → Written sheet ss → AllLegible sheet ss
written_legible w = statements_legible w.program (lexed_legible w.lexes)

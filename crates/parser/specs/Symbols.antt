-- What each token is to the grammar. Assumes nothing.
use Rattle.std.specs.Prelude.{ℕ, cond, List, [], ◌∷◌, codes}
use Rattle.std.specs.Str.{bytes_eq}
use Rattle.lexer.specs.declared.kinds.Kind.{Kind}
use Rattle.lexer.specs.declared.kinds.Kind.TheVariants as kind
use Rattle.parser.specs.declared.symbols.Leaf.TheVariants.{Number, Text, Name, True, False, Null}
use Rattle.parser.specs.declared.symbols.Prefix.TheVariants.{Not, Typeof}
use Rattle.parser.specs.declared.symbols.Operator.TheVariants.{Multiply, Divide, Remainder, Add, Subtract, Less, Greater, AtMost, AtLeast, Same, Differs, And, Or}
use Rattle.parser.specs.declared.symbols.Symbol.{Symbol}
use Rattle.parser.specs.declared.symbols.Symbol.TheVariants.{Other, Leaf, Prefix, Infix, Open, Close, Question, Colon, Semicolon}

-- the words that the language, as far as it is in, has
abbrev pub words : List (List ℕ × Symbol)
words = (codes "true", Leaf True) ∷ (codes "false", Leaf False) ∷ (codes "null", Leaf Null) ∷ (codes "typeof", Prefix Typeof) ∷ []

-- and the marks
abbrev pub marks : List (List ℕ × Symbol)
marks =
    (codes "*", Infix Multiply) ∷ (codes "/", Infix Divide) ∷ (codes "%", Infix Remainder) ∷
    (codes "+", Infix Add) ∷ (codes "-", Infix Subtract) ∷
    (codes "<", Infix Less) ∷ (codes ">", Infix Greater) ∷ (codes "<=", Infix AtMost) ∷ (codes ">=", Infix AtLeast) ∷
    (codes "===", Infix Same) ∷ (codes "!==", Infix Differs) ∷
    (codes "&&", Infix And) ∷ (codes "||", Infix Or) ∷
    (codes "!", Prefix Not) ∷ (codes "(", Open) ∷ (codes ")", Close) ∷
    (codes "?", Question) ∷ (codes ":", Colon) ∷ (codes ";", Semicolon) ∷ []

-- the symbol that the list has for a text
abbrev pub symbol_in : List (List ℕ × Symbol) → List ℕ → Symbol
symbol_in [] t = Other
symbol_in (r ∷ rs) t = cond (bytes_eq t r.0) r.1 (symbol_in rs t)

-- the symbol of a token, by its kind and its text
abbrev pub symbol_of : Kind → List ℕ → Symbol
symbol_of kind.Name t = Leaf Name
symbol_of kind.Word t = symbol_in words t
symbol_of kind.Number t = Leaf Number
symbol_of kind.String t = Leaf Text
symbol_of kind.Mark t = symbol_in marks t

-- The tokens of the sheets, and their one program each. Assumes nothing.
use Rattle.std.proofs.Common.{ℕ, List, [], ◌∷◌, refl, lit<, lit≤}
use Rattle.lexer.specs.Reading as lexing
use Rattle.lexer.specs.Reading.{Lexes, finished, token}
use Rattle.lexer.specs.Sizes.{Small}
use Rattle.lexer.specs.Strings.{Plain}
use Rattle.lexer.specs.declared.kinds.Kind.TheVariants as kind
use Rattle.types.specs.Values.{Decimal}
use Rattle.building.specs.Literals.{Numeral}
use Rattle.registers.specs.Library.{library}
use Rattle.parser.specs.declared.symbols.Operator.TheVariants.{Add, Less}
use Rattle.checker.specs.Rules.{typed_none}
use Rattle.checker.specs.Findings as findings
use Rattle.cases.specs.Tried.{no_statement, Sheets}
use Rattle.cases.proofs.Fronts.{no_gap, one_blank, end_gap, a_name, a_word, a_digit, a_string, one_unit, semicolon, plus, opening, closing, question, colon, less}
use Rattle.cases.proofs.Parsed.{Reading, reading, begin, operand, opened, operator, asked, turned, closed, reduced, end, done}
use Rattle.cases.proofs.Typed.{told, one_numeral, two_numeral, three_numeral, plain_a, plain_five, sum_sheet, sum, sum_told, chosen_sheet, chosen, chosen_told, lesser_sheet, lesser, lesser_told, unbound_sheet, unbound, unbound_told}

-- a numeral is in range, and a string of one unit is short
in_range : {t : List ℕ} {d : Decimal} → Numeral t d → Small kind.Number t
in_range n = (n.as_read, n.stands)

one_short : {b : ℕ} → Plain 34 b → Small kind.String (34 ∷ b ∷ 34 ∷ [])
one_short p = (_, one_unit p, lit≤ tt)

sum_lexes : Lexes sum_sheet 0 ((kind.Number, 0, 1) ∷ (kind.Mark, 2, 1) ∷ (kind.String, 4, 3) ∷ (kind.Mark, 7, 1) ∷ []) finished
sum_lexes =
    token 0 1 (no_gap _ _ refl refl) (a_digit _ _ _ refl refl refl) (in_range one_numeral)
    (token 1 1 (one_blank _ _ refl refl) (plus _) tt
    (token 1 3 (one_blank _ _ refl refl) (a_string _ _ plain_a) (one_short plain_a)
    (token 0 1 (no_gap _ _ refl refl) (semicolon _) tt
    (lexing.done 0 end_gap (lit≤ tt)))))

sum_read : Reading sum_sheet (sum ∷ [])
sum_read = reading (lit≤ tt) refl (lit≤ tt) sum_lexes (begin (operand refl (operator Add refl (lit≤ tt) (lit≤ tt) (operand refl (reduced refl (lit≤ tt) (end refl done))))))

chosen_lexes : Lexes chosen_sheet 0
    ((kind.Mark, 0, 1) ∷ (kind.Word, 1, 4) ∷ (kind.Mark, 6, 1) ∷ (kind.Number, 8, 1) ∷ (kind.Mark, 10, 1) ∷ (kind.String, 12, 3) ∷ (kind.Mark, 15, 1) ∷ (kind.Mark, 17, 1) ∷ (kind.Number, 19, 1) ∷ (kind.Mark, 20, 1) ∷ []) finished
chosen_lexes =
    token 0 1 (no_gap _ _ refl refl) (opening _) tt
    (token 0 4 (no_gap _ _ refl refl) (a_word _ 4 40 refl refl (lit< tt) refl) tt
    (token 1 1 (one_blank _ _ refl refl) (question _) tt
    (token 1 1 (one_blank _ _ refl refl) (a_digit _ _ _ refl refl refl) (in_range one_numeral)
    (token 1 1 (one_blank _ _ refl refl) (colon _) tt
    (token 1 3 (one_blank _ _ refl refl) (a_string _ _ plain_a) (one_short plain_a)
    (token 0 1 (no_gap _ _ refl refl) (closing _) tt
    (token 1 1 (one_blank _ _ refl refl) (plus _) tt
    (token 1 1 (one_blank _ _ refl refl) (a_digit _ _ _ refl refl refl) (in_range two_numeral)
    (token 0 1 (no_gap _ _ refl refl) (semicolon _) tt
    (lexing.done 0 end_gap (lit≤ tt)))))))))))

chosen_read : Reading chosen_sheet (chosen ∷ [])
chosen_read =
    reading (lit≤ tt) refl (lit≤ tt) chosen_lexes
    (begin (opened refl
    (operand refl (asked refl (lit≤ tt) (lit≤ tt) (operand refl (turned refl (operand refl (reduced refl (lit≤ tt)
    (closed refl (operator Add refl (lit≤ tt) (lit≤ tt) (operand refl (reduced refl (lit≤ tt)
    (end refl done)))))))))))))

lesser_lexes : Lexes lesser_sheet 0 ((kind.String, 0, 3) ∷ (kind.Mark, 4, 1) ∷ (kind.Number, 6, 1) ∷ (kind.Mark, 7, 1) ∷ []) finished
lesser_lexes =
    token 0 3 (no_gap _ _ refl refl) (a_string _ _ plain_five) (one_short plain_five)
    (token 1 1 (one_blank _ _ refl refl) (less _) tt
    (token 1 1 (one_blank _ _ refl refl) (a_digit _ _ _ refl refl refl) (in_range three_numeral)
    (token 0 1 (no_gap _ _ refl refl) (semicolon _) tt
    (lexing.done 0 end_gap (lit≤ tt)))))

lesser_read : Reading lesser_sheet (lesser ∷ [])
lesser_read = reading (lit≤ tt) refl (lit≤ tt) lesser_lexes (begin (operand refl (operator Less refl (lit≤ tt) (lit≤ tt) (operand refl (reduced refl (lit≤ tt) (end refl done))))))

unbound_lexes : Lexes unbound_sheet 0 ((kind.Name, 0, 3) ∷ (kind.Mark, 3, 1) ∷ []) finished
unbound_lexes =
    token 0 3 (no_gap _ _ refl refl) (a_name _ 3 refl refl refl) (lit≤ tt)
    (token 0 1 (no_gap _ _ refl refl) (semicolon _) tt
    (lexing.done 0 end_gap (lit≤ tt)))

unbound_read : Reading unbound_sheet (unbound ∷ [])
unbound_read = reading (lit≤ tt) refl (lit≤ tt) unbound_lexes (begin (operand refl (end refl done)))

empty_read : Reading [] []
empty_read = reading {ls = []} (lit≤ tt) refl (lit≤ tt) (lexing.done 0 end_gap (lit≤ tt)) done

pub sheets : Sheets
sheets = (
  λ Γ. told empty_read no_statement typed_none findings.none,
  λ Γ. sum_told Γ sum_read,
  λ Γ. chosen_told Γ chosen_read,
  λ Γ. lesser_told Γ lesser_read,
  λ Γ e. unbound_told Γ e unbound_read,
  unbound_told library refl unbound_read,
)

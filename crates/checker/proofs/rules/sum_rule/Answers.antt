use Rattle.std.proofs.Common.{sym, ◌∙◌}
use Rattle.std.proofs.lemmas.Bool.{false≢true}
use Rattle.checker.proofs.Ruling.{by_left_number, by_left_string, by_right_number, by_right_string, by_neither}
use Rattle.checker.proofs.rules.sum_rule.Goals as goal

pub returns-then-is_numeric : goal.returns-then-is_numeric
returns-then-is_numeric c es n p q s t u cs a b r = by_left_number ((c.is_numeric.ensures es n s a).0 c.if-is_numeric.true) r

pub returns-then-is_textual : goal.returns-then-is_textual
returns-then-is_textual c es n p q s t u cs a b r = by_left_string ((c.is_textual.ensures es n s a).0 c.if-is_textual.true) r

pub returns-then-is_numeric-2 : goal.returns-then-is_numeric-2
returns-then-is_numeric-2 c es n p q s t u cs a b r =
    by_right_number (λ x. false≢true (sym c.if-is_numeric.false ∙ (c.is_numeric.ensures es n s a).1 x)) (λ x. false≢true (sym c.if-is_textual.false ∙ (c.is_textual.ensures es n s a).1 x))
    ((c.is_numeric-2.ensures es n t b).0 c.if-is_numeric-2.true) r

pub returns-then-is_textual-2 : goal.returns-then-is_textual-2
returns-then-is_textual-2 c es n p q s t u cs a b r =
    by_right_string (λ x. false≢true (sym c.if-is_numeric.false ∙ (c.is_numeric.ensures es n s a).1 x)) (λ x. false≢true (sym c.if-is_textual.false ∙ (c.is_textual.ensures es n s a).1 x))
    ((c.is_textual-2.ensures es n t b).0 c.if-is_textual-2.true) r

pub returns : goal.returns
returns c es n p q s t u cs a b r =
    by_neither (λ x. false≢true (sym c.if-is_numeric.false ∙ (c.is_numeric.ensures es n s a).1 x)) (λ x. false≢true (sym c.if-is_textual.false ∙ (c.is_textual.ensures es n s a).1 x))
    (λ x. false≢true (sym c.if-is_numeric-2.false ∙ (c.is_numeric-2.ensures es n t b).1 x)) (λ x. false≢true (sym c.if-is_textual-2.false ∙ (c.is_textual-2.ensures es n t b).1 x)) r

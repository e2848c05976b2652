use Rattle.std.proofs.Common.{◌≡◌, ◌⊎◌, inl, inr, sym, subst}
use Rattle.parser.specs.declared.symbols.Operator.{Operator}
use Rattle.parser.specs.declared.symbols.Operator.TheVariants.{Multiply, Divide, Remainder, Subtract, Less, Greater, AtMost, AtLeast, Same, Differs, And, Or}
use Rattle.checker.specs.Rules.{Arithmetic, by_minus, by_times, by_over, by_remainder, Comparison, by_less, by_greater, by_at_most, by_at_least, by_same, by_differs, Logical, by_and, by_or}
use Rattle.checker.proofs.Ruling.{by_arithmetic, by_comparison, by_logical}
use Rattle.checker.proofs.rules.rule_of.Goals as goal

is_arithmetic : {op : Operator} → (op ≡ Subtract) ⊎ ((op ≡ Multiply) ⊎ ((op ≡ Divide) ⊎ (op ≡ Remainder))) → Arithmetic op
is_arithmetic (inl e) = subst Arithmetic (sym e) by_minus
is_arithmetic (inr (inl e)) = subst Arithmetic (sym e) by_times
is_arithmetic (inr (inr (inl e))) = subst Arithmetic (sym e) by_over
is_arithmetic (inr (inr (inr e))) = subst Arithmetic (sym e) by_remainder

is_logical : {op : Operator} → (op ≡ And) ⊎ (op ≡ Or) → Logical op
is_logical (inl e) = subst Logical (sym e) by_and
is_logical (inr e) = subst Logical (sym e) by_or

is_comparison : {op : Operator} → (op ≡ Less) ⊎ ((op ≡ Greater) ⊎ ((op ≡ AtMost) ⊎ ((op ≡ AtLeast) ⊎ ((op ≡ Same) ⊎ (op ≡ Differs))))) → Comparison op
is_comparison (inl e) = subst Comparison (sym e) by_less
is_comparison (inr (inl e)) = subst Comparison (sym e) by_greater
is_comparison (inr (inr (inl e))) = subst Comparison (sym e) by_at_most
is_comparison (inr (inr (inr (inl e)))) = subst Comparison (sym e) by_at_least
is_comparison (inr (inr (inr (inr (inl e))))) = subst Comparison (sym e) by_same
is_comparison (inr (inr (inr (inr (inr e))))) = subst Comparison (sym e) by_differs

pub returns-in-Subtract : goal.returns-in-Subtract
returns-in-Subtract c es n p q s t u cs a b r = by_arithmetic (is_arithmetic c.in-Subtract.is) r

pub returns-in-And : goal.returns-in-And
returns-in-And c es n p q s t u cs a b r = by_logical (is_logical c.in-And.is) r

pub returns-in-Less : goal.returns-in-Less
returns-in-Less c es n p q s t u cs a b r = by_comparison (is_comparison c.in-Less.is) r

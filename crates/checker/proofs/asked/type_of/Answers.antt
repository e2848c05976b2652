use Rattle.std.proofs.Common.{arith}
use Rattle.std.proofs.lemmas.Bool.Decides.{not_from_Decides}
use Rattle.checker.specs.Orders.{short_table, no_expression, damaged}
use Rattle.checker.proofs.Ordered.{told_at}
use Rattle.checker.proofs.asked.type_of.Goals as goal

pub returns-then-types-lt-TYPES : goal.returns-then-types-lt-TYPES
returns-then-types-lt-TYPES c = rw c.at.ensures (short_table c.if-types-lt-TYPES.true)

pub returns-then-number-expressions : goal.returns-then-number-expressions
returns-then-number-expressions c =
    rw c.at-then-number-expressions.ensures (no_expression c.if-types-lt-TYPES.false (omega (arith, c.if-number-expressions.true, c.expressions.ensures)))

pub returns-then-not-in_order : goal.returns-then-not-in_order
returns-then-not-in_order c =
    rw c.at-then-not-in_order.ensures (
    damaged c.if-types-lt-TYPES.false (omega (arith, c.if-number-expressions.false, c.expressions.ensures))
    (not_from_Decides _ c.in_order.ensures c.if-not-in_order.true)
    )

pub returns : goal.returns
returns c = told_at _ _ _ _ c.if-types-lt-TYPES.false (omega (arith, c.if-number-expressions.false, c.expressions.ensures)) (c.in_order.ensures.0 c.if-not-in_order.false) c.head_of.ensures

use Rattle.std.proofs.Common.{arith}
use Rattle.std.proofs.lemmas.Bool.Decides.{not_from_Decides}
use Rattle.lexer.proofs.Tables.{by_three, by_two, by_one, by_none}
use Rattle.lexer.proofs.marks.mark_len.Goals as goal

pub returns-then-is_three : goal.returns-then-is_three
returns-then-is_three c = (omega arith, by_three _ _ _ _ c.byte_at-a.ensures c.byte_at-b.ensures c.byte_at.ensures (c.is_three.ensures.0 c.if-is_three.true))

pub returns-then-is_two : goal.returns-then-is_two
returns-then-is_two c =
    let no_three = not_from_Decides _ c.is_three.ensures c.if-is_three.false in
    (omega arith, by_two _ _ _ _ c.byte_at-a.ensures c.byte_at-b.ensures c.byte_at.ensures no_three (c.is_two.ensures.0 c.if-is_two.true))

pub returns-then-a-eq38 : goal.returns-then-a-eq38
returns-then-a-eq38 c =
    let no_three = not_from_Decides _ c.is_three.ensures c.if-is_three.false in
    let no_two = not_from_Decides _ c.is_two.ensures c.if-is_two.false in
    by_none _ _ _ _ c.byte_at-a.ensures c.byte_at-b.ensures c.byte_at.ensures no_three no_two c.if-a-eq38.true

pub returns-else-a-eq38 : goal.returns-else-a-eq38
returns-else-a-eq38 c =
    let no_three = not_from_Decides _ c.is_three.ensures c.if-is_three.false in
    let no_two = not_from_Decides _ c.is_two.ensures c.if-is_two.false in
    (omega arith, by_one _ _ _ _ c.byte_at-a.ensures c.byte_at-b.ensures c.byte_at.ensures no_three no_two (omega arith) c.requires c.if-a-eq38.false)

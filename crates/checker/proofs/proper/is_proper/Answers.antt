use Rattle.std.proofs.Common.{sym, ◌∙◌}
use Rattle.std.proofs.lemmas.Bool.{false≢true}
use Rattle.checker.proofs.Orderly.{known, leaf_told, unary_told, binary_told, choice_told, statement_told}
use Rattle.checker.proofs.proper.is_proper.Goals as goal
use Rattle.checker.proofs.proper.is_proper.Goals.{then-is_part-2, else-is_part-2}

pub returns-in-Leaf : goal.returns-in-Leaf
returns-in-Leaf c = known c.in-Leaf.ensures (leaf_told c.lies_in.ensures)

pub returns-then-place-sheet_len : goal.returns-then-place-sheet_len
returns-then-place-sheet_len c = known c.in-Unary.ensures (unary_told c.if-place-sheet_len.true c.is_part.ensures)

pub returns-then-is_part : goal.returns-then-is_part
returns-then-is_part c = known c.in-Binary.ensures (binary_told c.if-is_part.ensures c.is_part-then-is_part.ensures)

pub returns-then-is_part-3 : goal.returns-then-is_part-3
returns-then-is_part-3 c =
    elim c.if-is_part-2.branch [
      | then-is_part-2 w ↦ known c.in-Choice.ensures (choice_told (c.is_part-in-Choice.ensures.0 w.if-is_part-2.true) (w.is_part-then-is_part-2.ensures.0 (sym w.value-is ∙ c.if-is_part-3.true)) c.is_part-then-is_part-3.ensures)
      | else-is_part-2 w ↦ absurd (false≢true (sym w.if-is_part-2.false ∙ (sym w.value-is ∙ c.if-is_part-3.true)))
    ]

pub returns-then-is_earlier : goal.returns-then-is_earlier
returns-then-is_earlier c = known c.in-Statement.ensures (statement_told c.if-is_earlier.ensures c.is_part-then-is_earlier.ensures)

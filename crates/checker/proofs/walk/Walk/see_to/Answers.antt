use Rattle.std.proofs.Common.{refl}
use Rattle.checker.proofs.Stepping.{not_blank, as_frame, seen}
use Rattle.checker.proofs.walk.Walk.see_to.Goals as goal

pub returns-in-Blank : goal.returns-in-Blank
returns-in-Blank g c = record { lent = (refl, refl); onward = λ whole left sound h. absurd (not_blank (as_frame c.in-Blank.is h)) }

pub returns-in-Statements : goal.returns-in-Statements
returns-in-Statements g c = seen c.in-Statements.is (c.visit_statements.ensures _ _ _ _)

pub returns-in-Unary : goal.returns-in-Unary
returns-in-Unary g c = seen c.in-Unary.is (c.finish_unary.ensures _ _ _)

pub returns-in-Binary : goal.returns-in-Binary
returns-in-Binary g c = seen c.in-Binary.is (c.finish_binary.ensures _ _ _)

pub returns-in-Choice : goal.returns-in-Choice
returns-in-Choice g c = seen c.in-Choice.is (c.finish_choice.ensures _ _ _)

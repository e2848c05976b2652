use Rattle.std.proofs.Common.{arith}
use Rattle.std.proofs.lemmas.Bool.Decides.{nat_tests}
use Rattle.lexer.specs.Marks.{marks}
use Rattle.lexer.proofs.Tables.{has_told}
use Rattle.lexer.proofs.marks.is_two.Goals as goal

pub returns-in-60-eq61 : goal.returns-in-60-eq61
returns-in-60-eq61 c = has_told marks _ _ (grind (arith, nat_tests))

pub returns-in-60-eq61-2 : goal.returns-in-60-eq61-2
returns-in-60-eq61-2 c = has_told marks _ _ (grind (arith, nat_tests))

pub returns-in-60-eq61-3 : goal.returns-in-60-eq61-3
returns-in-60-eq61-3 c = has_told marks _ _ (grind (arith, nat_tests))

pub returns-in-60-eq61-4 : goal.returns-in-60-eq61-4
returns-in-60-eq61-4 c = has_told marks _ _ (grind (arith, nat_tests))

pub returns-in_default : goal.returns-in_default
returns-in_default c = has_told marks _ _ (grind (arith, nat_tests))

pub returns-in_default-2 : goal.returns-in_default-2
returns-in_default-2 c = has_told marks _ _ (grind (arith, nat_tests))

pub returns-in_default-3 : goal.returns-in_default-3
returns-in_default-3 c = has_told marks _ _ (grind (arith, nat_tests))

pub returns-in_default-4 : goal.returns-in_default-4
returns-in_default-4 c = has_told marks _ _ (grind (arith, nat_tests))

pub returns-in_default-5 : goal.returns-in_default-5
returns-in_default-5 c = has_told marks _ _ (grind (arith, nat_tests))

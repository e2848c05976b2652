use Rattle.std.proofs.Common.{inl, inr, arith}
use Rattle.std.proofs.lemmas.Grind.{common_steps}
use Rattle.building.proofs.Held.{hold_count}
use Rattle.building.proofs.FunctionsMade.{function_made}
use Rattle.building.proofs.functions.function_of.Goals as goal

pub returns-then-not-is_few-clause-made : goal.returns-then-not-is_few-clause-made
returns-then-not-is_few-clause-made c ts t hs ht = let all = hold_count hs in inl (grind arith)

pub returns-then-not-run_below-clause-made : goal.returns-then-not-run_below-clause-made
returns-then-not-run_below-clause-made c ts t hs ht = let all = hold_count hs in inr (grind arith)

pub returns-in_err-result_at-clause-made : goal.returns-in_err-result_at-clause-made
returns-in_err-result_at-clause-made c ts t hs ht = let all = hold_count hs in grind (arith, common_steps, inr, c.in_err-result_at.ensures.written)

pub returns-in_err-end-clause-made : goal.returns-in_err-end-clause-made
returns-in_err-end-clause-made c ts t hs ht = let all = hold_count hs in grind (arith, common_steps, inr, c.in_err-end.ensures.written)

pub returns-clause-made : goal.returns-clause-made
returns-clause-made c = function_made _ _ _ _ _ _ _ _ (omega arith) c.in_ok-result_at.ensures.written c.in_ok-end.ensures.written c.in_ok-result_at.ensures.kept c.in_ok-end.ensures.kept

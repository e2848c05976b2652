use Rattle.std.proofs.lemmas.Grind.{common_steps}
use Rattle.std.proofs.Common.{arith, rules}
use Rattle.std.proofs.lemmas.Iterator.{first_from_Range}
use Rattle.lexer.proofs.Pieces.{Stands, closed_told}
use Rattle.lexer.proofs.gaps.block_len.Goals as goal

pub returns : goal.returns
returns c =
    let bs = c.args.bytes.now in
    closed_told _ _ (first_from_Range _ _ _ _ (Stands bs) (λ n. Stands bs n → ⊥) c.find.ensures.ran (λ x q k. search rules) (λ x q k. (search rules, grind (arith, common_steps))))

use Rattle.std.proofs.Common.{rules, arith}
use Rattle.lexer.proofs.Steps.{onward, given_some}
use Rattle.lexer.proofs.Tallying.{all_counted}
use Rattle.lexer.proofs.scan.Scanner.rest.Goals as goal

pub loop-smaller : goal.loop-smaller
loop-smaller c = grind (arith, onward, given_some)

pub returns : goal.returns
returns c = search (rules, all_counted)

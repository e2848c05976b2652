use Rattle.std.proofs.Common.{rules}
use Rattle.lexer.proofs.Tallying.{line_told, many_told, clean_told}
use Rattle.lexer.proofs.scan.Tally.verdict.Goals as goal

pub returns-in-Some : goal.returns-in-Some
returns-in-Some c sheet at short s f = rw c.at.ensures (line_told _ at _ short s f _ c.in-Some.is)

pub returns-in-Some-over : goal.returns-in-Some-over
returns-in-Some-over c sheet at short s f = rw c.at-in-Some-over.ensures (many_told _ at _ short s f c.in_default.is _ c.in-Some-over.is)

pub returns : goal.returns
returns c = search (rules, clean_told)

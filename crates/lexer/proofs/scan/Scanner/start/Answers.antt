use Rattle.std.proofs.Common.{rules}
use Rattle.lexer.proofs.Verdicts.{long_first}
use Rattle.lexer.proofs.Tallying.{tallied_none}
use Rattle.lexer.proofs.scan.Scanner.start.Goals as goal

pub returns-then-sheet-gt-SHEET_LIMIT : goal.returns-then-sheet-gt-SHEET_LIMIT
returns-then-sheet-gt-SHEET_LIMIT c = rw c.at.ensures (long_first _ c.if-sheet-gt-SHEET_LIMIT.true)

pub returns : goal.returns
returns c = search (rules, tallied_none)

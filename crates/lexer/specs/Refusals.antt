-- The number and the words of each refusal. Assumes nothing.
use Rattle.std.specs.Prelude.{ℕ, List, codes}
use Rattle.lexer.specs.declared.reasons.Reason.{Reason}
use Rattle.lexer.specs.declared.reasons.Reason.TheVariants.{ShortTable, LongSheet, NoToken, LargeToken, LineFeed, ManyTokens, NoProgram, HeavySheet, Damaged, NoExpression}

abbrev pub number_of : Reason → ℕ
number_of ShortTable = 1
number_of LongSheet = 2
number_of NoToken = 3
number_of LargeToken = 4
number_of LineFeed = 5
number_of ManyTokens = 6
number_of NoProgram = 7
number_of HeavySheet = 12
number_of Damaged = 13
number_of NoExpression = 14

-- what a refusal says to the person who reads it
abbrev pub words_of : Reason → List ℕ
words_of ShortTable = codes "a table is too short"
words_of LongSheet = codes "the sheet has over 16,384 bytes"
words_of NoToken = codes "no token begins here, or a string or comment is not closed"
words_of LargeToken = codes "a name over 32 bytes, a string over 255 code units, or a number out of range"
words_of LineFeed = codes "a line feed after `return`, or before `=>`"
words_of ManyTokens = codes "the sheet has over 4,096 tokens"
words_of NoProgram = codes "not a program, or a part of the language that is not in yet"
words_of HeavySheet = codes "the sheet's types are too large"
words_of Damaged = codes "a table was altered"
words_of NoExpression = codes "no such expression"

-- In which turn a reason is tried while a sheet is read: by number, but 3 with 4 in one turn.
abbrev pub turn : Reason → ℕ
turn ShortTable = 1
turn LongSheet = 2
turn NoToken = 3
turn LargeToken = 3
turn LineFeed = 5
turn ManyTokens = 6
turn NoProgram = 7
turn HeavySheet = 12
turn Damaged = 13
turn NoExpression = 14

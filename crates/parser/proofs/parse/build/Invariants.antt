use Rattle.std.proofs.Common.{◌≡◌, ◌+◌, ◌-◌, ◌≤◌, List, length}
use Rattle.lexer.specs.Reading.{Lexes, finished}
use Rattle.lexer.specs.Scanning.{Tok}
use Rattle.lexer.specs.Tallies.{Counted}
use Rattle.stack.specs.Items.{held, room}
use Rattle.parser.specs.Building.{progress}
use Rattle.parser.proofs.Lexing.{Along}
use Rattle.parser.proofs.parse.build.Given as goal

abbrev pub invariant-loop-t : goal.invariant-loop-t
invariant-loop-t l =
    (l.scanner.reader.sheet.now ≡ l.sheet)
    × Counted l.scanner
    × (l.builder.tree.ghost_name ≡ l.initial.builder.tree.ghost_name)
    × (length l.builder.tree.now ≡ length l.initial.builder.tree.now)
    × (room l.builder.parts ≡ room l.initial.builder.parts)
    × (l.builder.used + length (held l.builder.parts) ≤ l.scanner.tally.count)
    × ((ls : List Tok) → Lexes l.sheet 0 ls finished → Along l.sheet ls l.scanner l.builder.tree.now (held l.builder.parts) (progress l.builder l.position))

abbrev pub decreases-loop-t : goal.decreases-loop-t
decreases-loop-t l = length l.sheet - l.scanner.reader.at

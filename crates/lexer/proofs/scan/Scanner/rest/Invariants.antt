use Rattle.std.proofs.Common.{◌≡◌, ◌-◌, length}
use Rattle.lexer.specs.Tallies.{Counted}
use Rattle.lexer.proofs.scan.Scanner.rest.Given as goal

abbrev pub invariant-loop : goal.invariant-loop
invariant-loop l = (l.self.reader.sheet.now ≡ l.initial.self.reader.sheet.now) × (Counted l.initial.self → Counted l.self)

abbrev pub decreases-loop : goal.decreases-loop
decreases-loop l = length l.initial.self.reader.sheet.now - l.self.reader.at

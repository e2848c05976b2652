use Rattle.std.proofs.Common.{length}
use Rattle.parser.specs.Lending.{Lent, sizes_of}
use Rattle.checker.specs.Runs.{Lawful}
use Rattle.checker.proofs.run.run.Given as goal

abbrev pub invariant-loop-i : goal.invariant-loop-i
invariant-loop-i g l = record {
  lawful :
      Lawful (sizes_of (length l.initial.tree) l.initial.tables) (g.F.Register.meaning l.first) (g.S.Register.meaning l.second)
      l.calls l.initial.said l.said l.i l.initial.findings l.findings l.tables.types.now l.last;
  lent : Lent l.initial.tables l.tables;
}

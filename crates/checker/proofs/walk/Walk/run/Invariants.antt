use Rattle.std.proofs.Common.{◌-◌, List}
use Rattle.stack.specs.Items.{held}
use Rattle.registers.specs.Meaning.{Sound}
use Rattle.checker.specs.Rules.{Note}
use Rattle.checker.specs.Standing.{SameLoans, state, Goes}
use Rattle.checker.proofs.walk.Walk.run.Given as goal

abbrev pub invariant-loop : goal.invariant-loop
invariant-loop g l = record {
  lent : SameLoans (state l.initial.self l.initial.findings l.initial.store) (state l.self l.findings l.store);
  goes : (whole : List Note) → Sound (g.R.Register.meaning l.source.names.now)
      → Goes l.source.sheet.now (g.R.Register.meaning l.source.names.now) l.source.tree.now whole 8192 (held l.initial.self.frames) (state l.initial.self l.initial.findings l.initial.store)
      → Goes l.source.sheet.now (g.R.Register.meaning l.source.names.now) l.source.tree.now whole (8192 - l.counter) (held l.self.frames) (state l.self l.findings l.store);
}

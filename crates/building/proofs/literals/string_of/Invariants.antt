use Rattle.std.proofs.Common.{◌≡◌}
use Rattle.building.proofs.LiteralsMade.{Filling}
use Rattle.building.proofs.literals.string_of.Given as goal

-- the units so far stand in the table
abbrev pub invariant-loop-unit : goal.invariant-loop-unit
invariant-loop-unit l = (l.unit-iterator.text.now ≡ l.text) × Filling l.initial.types l.types l.used l.end l.text l.unit-iterator.at

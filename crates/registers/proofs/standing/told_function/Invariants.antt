use Rattle.std.proofs.Common.{◌≡◌, length}
use Rattle.registers.proofs.Basics.{ParametersAt}
use Rattle.registers.proofs.standing.told_function.Given as goal

-- the parameters so far stand in the room
abbrev pub invariant-loop-i : goal.invariant-loop-i
invariant-loop-i l = record { long : length l.room ≡ 128; written : ParametersAt l.room l.parameters l.i }

use Rattle.std.proofs.Common.{◌≡◌, ◌+◌, ◌≤◌, ◌++◌, reverse, length, take}
use Rattle.stack.specs.Items.{held, room}
use Rattle.checker.proofs.walk.Walk.wait.Given as goal

abbrev pub invariant-loop-frame : goal.invariant-loop-frame
invariant-loop-frame l = record {
  frames : length (held l.initial.self.frames) + length l.frames ≤ room l.initial.self.frames → held l.self.frames ≡ reverse (take l.frame-index l.frames) ++ held l.initial.self.frames;
  space : room l.self.frames ≡ room l.initial.self.frames;
  rest : l.self ≡ record l.initial.self { frames = l.self.frames };
}

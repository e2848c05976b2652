use Rattle.std.proofs.Common.{◌≡◌, take}
use Rattle.host.specs.Layout.{rows, replaced}
use Rattle.host.proofs.layout.put_findings.Given as goal

abbrev pub invariant-loop-i : goal.invariant-loop-i
invariant-loop-i l = l.out ≡ replaced l.initial.out 8 (rows (take l.i l.finding-items))

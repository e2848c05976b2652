use Rattle.std.proofs.Common.{arith}
use Rattle.tables.proofs.Lengths.{holds_all}
use Rattle.tables.proofs.findings_list.Goals as goal

pub returns : goal.returns
returns c = holds_all _ (let e = c.in_ok-vec.ensures.len in omega arith)

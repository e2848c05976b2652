use Rattle.checker.proofs.Unmet.{findings_tell_lem}
use Rattle.checker.proofs.laws.findings_tell.Goals as goal

pub returns : goal.returns
returns c = findings_tell_lem

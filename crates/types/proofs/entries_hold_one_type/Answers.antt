use Rattle.types.proofs.OneType.{one_type}
use Rattle.types.proofs.entries_hold_one_type.Goals as goal

pub returns : goal.returns
returns c = one_type

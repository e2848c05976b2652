use Rattle.types.proofs.Lower.{lower_only}
use Rattle.types.proofs.entries_rest_on_lower_ones.Goals as goal

pub returns : goal.returns
returns c = lower_only

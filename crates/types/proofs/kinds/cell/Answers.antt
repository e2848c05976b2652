use Rattle.types.proofs.Verdicts.{right_at}
use Rattle.types.proofs.kinds.cell.Goals as goal

pub returns : goal.returns
returns c = right_at c.args.table.now c.requires c.args.a c.args.b _ _ c.rank_of.ensures.ranked c.rank_of-2.ensures.ranked

use Rattle.std.proofs.Common.{sym, refl, subst}
use Rattle.types.specs.Kinds.{Says}
use Rattle.types.proofs.Verdicts.{right_all}
use Rattle.types.proofs.Meaning.{says}
use Rattle.types.proofs.kinds.verdict_of.Goals as goal

pub cell-requires : goal.cell-requires
cell-requires c = right_all _ refl

pub returns : goal.returns
returns c = record {
  known = c.cell.ensures;
  means = subst (Says c.args.a c.args.b) (sym c.cell.ensures) (says c.args.a c.args.b);
}

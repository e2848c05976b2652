use Rattle.std.proofs.Common.{length, sym, ap, ◌∙◌, arith, length-set}
use Rattle.stack.specs.Items.{held, room}
use Rattle.parser.specs.Holds.{Reduced}
use Rattle.parser.specs.Building.{operand}
use Rattle.parser.proofs.Reductions.{popped, reduced_top, added}
use Rattle.parser.proofs.builder.Builder.reduce_top.Goals as goal

pub returns : goal.returns
returns c =
    let b = c.args.self.now in
    let seen = c.in_ok-top.ensures in
    let took = popped _ _ seen.0 _ c.pop.result seen.1 c.pop.ensures.holds in
    let put = c.add.ensures in
    let left = ap (λ s. length (held s)) put.parts in (
      record {
        grown = record {
          lent = put.lent;
          long = ap length put.tree ∙ length-set _ _ _;
          space = ap room put.parts ∙ c.pop.ensures.space;
          few = omega (arith, put.used, left, ap length took);
        };
        last = put.last;
        reduced =
            added (λ table fs used last at. Reduced b.tree.now (held b.parts) (operand b c.args.at) c.args.least table fs (record { at = at; used = used })) put
            (reduced_top _ _ _ seen.0 _ _ c.pop.result _ _ seen.1 c.pop.ensures.holds (sym c.in_ok-entry.ensures) (omega (arith, c.awaits.ensures)) (omega (arith, c.requires.in_tree)));
      },
      omega (arith, left, ap length took),
    )

use Rattle.std.proofs.Common.{◌<◌, ◌∙◌, length, length-set, arith}
use Rattle.std.proofs.lemmas.List.{get_or-set_same, get_or-set_other}
use Rattle.types.specs.declared.entries.TypeEntry.TheVariants.{Unused}
use Rattle.registers.proofs.Basics.{parameters_more, function_made}
use Rattle.registers.proofs.standing.told_function.Goals as goal

pub loop-i-preserved : goal.loop-i-preserved
loop-i-preserved c = record {
  long = length-set _ _ _ ∙ c.loop-i.invariant.long;
  written = parameters_more c.loop-i.room c.args.parameters.now c.loop-i.i c.from.result c.loop-i.invariant.written c.from.ensures (omega arith) (omega arith);
}

pub returns : goal.returns
returns c =
    let n = length c.args.parameters.now in
    let room : n < length c.loop-i.room = omega arith in
    function_made _ c.args.parameters.now c.args.last
    (λ k l d. get_or-set_other c.loop-i.room n k c.from-2.result Unused (omega arith) ∙ c.loop-i.invariant.written k (omega arith) d)
    (get_or-set_same c.loop-i.room n c.from-2.result Unused room ∙ c.from-2.ensures)
    c.requires

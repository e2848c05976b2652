-- `copied`: what it writes is the type by `CopiesMade`. Assumes nothing.
use Rattle.std.proofs.Common.{◌∙◌, arith}
use Rattle.std.proofs.lemmas.Grind.{common_steps}
use Rattle.types.specs.Table.{entry_at}
use Rattle.building.specs.Entries.{shift}
use Rattle.building.proofs.Written.{kept_more, written_more}
use Rattle.building.proofs.CopiesMade.{copy_written}
use Rattle.building.proofs.copies.copied.Goals as goal

pub loop-k-preserved : goal.loop-k-preserved
loop-k-preserved c = (
  kept_more _ _ _ _ _ c.loop-k.invariant.0,
  written_more _ _ _ (λ j. shift c.args.used (entry_at c.in_ok-entries.entries.now j)) (grind (arith, common_steps)) c.shifted.ensures c.loop-k.invariant.1,
)

pub returns-clause-made : goal.returns-clause-made
returns-clause-made c =
    let f = c.in_ok-entries.ensures.lookup.0 in
    copy_written c.args.types.now _ _ _ _ _ _ (omega arith) (omega (arith, c.loop-k.auto.types)) (omega arith) (f.2 ∙ grind (arith, common_steps)) c.shifted-2.ensures (λ j lt. c.loop-k.invariant.1 j (grind (arith, common_steps)))

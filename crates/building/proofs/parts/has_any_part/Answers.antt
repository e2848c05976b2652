use Rattle.std.proofs.Common.{rules, true, false}
use Rattle.types.specs.Table.{entry_at}
use Rattle.building.specs.Entries.{SaysPartAny}
use Rattle.building.proofs.Ranges.{any_in_range}
use Rattle.building.proofs.PartsMade.{any_part_told}
use Rattle.building.proofs.parts.has_any_part.Goals as goal

pub returns : goal.returns
returns c =
    any_part_told c.any.result (any_in_range _ _ c.any.result (λ k. SaysPartAny c.args.types.now k (entry_at c.args.types.now k) c.args.side true) (λ k. SaysPartAny c.args.types.now k (entry_at c.args.types.now k) c.args.side false) c.any.ensures.ran (λ k q d. search rules) (λ k q d. search rules))

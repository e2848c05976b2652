use Rattle.std.proofs.Common.{sym}
use Rattle.parser.specs.Grammar.{atom}
use Rattle.parser.specs.Building.{progress}
use Rattle.parser.proofs.Arms.{fits_atom, ends_other, via, relast, goes_on_at}
use Rattle.parser.proofs.builder.Builder.follow.Goals as goal

pub returns-in-Some-clause-turns : goal.returns-in-Some-clause-turns
returns-in-Some-clause-turns c =
    let told = c.reduce-at.ensures.completes in
    λ sheet b ps e h.
    goes_on_at _ _ _ c.in-Some.ensures c.level.ensures.value told.reduced c.reduce-at.ensures.lower h (λ qs k d t o low high g. c.open.ensures.turns sheet b qs k d t o low high (relast told.last g))

pub returns-in-None-clause-turns : goal.returns-in-None-clause-turns
returns-in-None-clause-turns c =
    let told = c.reduce-at-in-None.ensures.completes in
    λ sheet b ps e h.
    let a = told.reduced.turns sheet _ atom b ps e c.args.t h (fits_atom c.args.t) (ends_other c.args.t 0 (sym c.in-None.ensures)) in
    via _ _ (progress c.close.new.self) a c.close.result (c.close.ensures.turns _ sheet b _ _ (relast told.last a.ended))

use Rattle.std.proofs.Common.{◌≡◌, Some, ap, ◌∙◌, arith}
use Rattle.types.specs.Table.{is_any}
use Rattle.registers.specs.declared.told.Told.{Told}
use Rattle.checker.proofs.Madely.{plain_as, told_any, told_typed}
use Rattle.checker.proofs.store.Store.told_made.Goals as goal

pub returns-in-None-clause-makes : goal.returns-in-None-clause-makes
returns-in-None-clause-makes c = λ ts o tabled long told.
    plain_as _ _ _ _ c.plain.ensures (told_any o c.args.found c.args.room.now told (λ m e. let w = c.in-None.is in cc)) tabled is_any

pub returns-in-Some-Scheme-clause-makes : goal.returns-in-Some-Scheme-clause-makes
returns-in-Some-Scheme-clause-makes c = λ ts o tabled long told.
    plain_as _ _ _ _ c.plain-in-Some-Scheme.ensures
    (told_any o c.args.found c.args.room.now told (λ m e. let w = rw c.in-Some-Scheme.is at c.in-Some-Scheme.field-0-is in let v = c.in-Some-Scheme.is in cc)) tabled is_any

pub returns-in-Some-Typed-clause-makes : goal.returns-in-Some-Typed-clause-makes
returns-in-Some-Typed-clause-makes c = λ ts o tabled long told.
    let is : c.args.found ≡ Some (Told.Typed c.in-Some-Typed.made) = c.in-Some-Typed.is ∙ ap Some (rw c.in-Some-Typed.is at c.in-Some-Typed.field-0-is) in
    let h = told_typed o c.args.found c.in-Some-Typed.made c.args.room.now told is in
    c.brought.ensures.brought ts _ tabled (omega (arith, h.within, long)) h.filled h.light h.holds

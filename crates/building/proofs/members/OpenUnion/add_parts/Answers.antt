-- `add_parts`: each way out of it by one lemma of `PartsMade`. Assumes nothing.
use Rattle.std.proofs.Common.{Some, None, sym, refl, ◌∙◌, subst}
use Rattle.types.specs.Table.{entry_at}
use Rattle.building.specs.Entries.{AddsPart, AddsParts, counted}
use Rattle.building.proofs.PartsMade.{Parting, none_parted, more_parted, parts_none_fit, all_parted}
use Rattle.building.proofs.members.OpenUnion.add_parts.Goals as goal

pub loop-member-init : goal.loop-member-init
loop-member-init c =
    let u = c.args.self.now in
    ((refl, refl), λ e. subst (λ n. Parting u.parts.now u.slots.now c.args.members.now c.args.side 0 n) (sym e) (none_parted u.parts.now u.slots.now _ _))

pub loop-member-preserved : goal.loop-member-preserved
loop-member-preserved c =
    let i = c.loop-member.invariant in
    let w = c.in_ok-add_part.ensures in
    let u = c.loop-member.self in
    let v = c.add_part.new.self in
    ((w.lent.0 ∙ i.0.0, w.lent.1 ∙ i.0.1), λ e. more_parted _ _ _ _ _ _ c.loop-member-test.true (i.1 e) _ _ (subst (λ ps. AddsPart ps u.slots.now v.slots.now u.count (entry_at c.args.members.now c.loop-member.member-index) c.args.side (Some v.count)) i.0.1 w.added))

pub returns-in_err-add_part-clause-added : goal.returns-in_err-add_part-clause-added
returns-in_err-add_part-clause-added c e =
    let i = c.loop-member.invariant in
    let w = c.in_err-add_part.ensures in
    let u = c.loop-member.self in
    let v = c.add_part.new.self in
    subst (λ r. AddsParts c.args.self.now.parts.now v.slots.now c.args.members.now c.args.side (counted r v.count)) (sym c.from_residual.ensures) (parts_none_fit _ _ _ _ _ _ c.loop-member-test.true (i.1 e) _ _ refl (subst (λ ps. AddsPart ps u.slots.now v.slots.now u.count (entry_at c.args.members.now c.loop-member.member-index) c.args.side None) i.0.1 w.added))

pub returns-clause-added : goal.returns-clause-added
returns-clause-added c e = all_parted _ _ _ _ _ _ c.loop-member-test.false (c.loop-member.invariant.1 e)

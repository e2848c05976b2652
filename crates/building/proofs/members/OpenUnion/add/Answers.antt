-- `add`: each way out of it by one lemma of `AllMembers`. Assumes nothing.
use Rattle.std.proofs.Common.{Some, None, sym, refl, ◌∙◌, subst}
use Rattle.types.specs.Table.{entry_at}
use Rattle.building.specs.Entries.{Adds, AddsAll, counted}
use Rattle.building.proofs.AllMembers.{none_added, more_added, none_fits, all_added, not_all_added, one_added}
use Rattle.building.proofs.members.OpenUnion.add.Goals as goal

pub returns-in_default-clause-added : goal.returns-in_default-clause-added
returns-in_default-clause-added c = one_added _ _ _ _ _ c.in_default.not-Union c.add_member.ensures.added

pub loop-member-init : goal.loop-member-init
loop-member-init c = ((refl, refl), none_added _ _ _ _)

pub loop-member-preserved : goal.loop-member-preserved
loop-member-preserved c =
    let i = c.loop-member.invariant in
    let w = c.in_ok-add_member.ensures in
    ((w.lent.0 ∙ i.0.0, w.lent.1 ∙ i.0.1), more_added _ _ _ _ _ _ _ c.loop-member-test.true i.1 _ _ (subst (λ ps. Adds ps c.loop-member.self.slots.now c.add_member-in-loop-member.new.self.slots.now c.loop-member.self.count (entry_at c.in_ok-member-items.member-items.now c.loop-member.member-index) (Some c.add_member-in-loop-member.new.self.count)) i.0.1 w.added))

pub returns-in_err-add_member-clause-lent : goal.returns-in_err-add_member-clause-lent
returns-in_err-add_member-clause-lent c =
    let i = c.loop-member.invariant in
    let w = c.in_err-add_member.ensures in
    (w.lent.0 ∙ i.0.0, w.lent.1 ∙ i.0.1)

pub returns-in_err-add_member-clause-added : goal.returns-in_err-add_member-clause-added
returns-in_err-add_member-clause-added c =
    let i = c.loop-member.invariant in
    let w = c.in_err-add_member.ensures in
    let u = c.args.self.now in
    let v = c.add_member-in-loop-member.new.self in
    subst (λ r. AddsAll u.parts.now u.slots.now v.slots.now u.count c.args.e (counted r v.count)) (sym c.from_residual-in_err-add_member.ensures) (not_all_added _ _ _ _ _ _ _ _ c.in-Union.is c.in_ok-end.ensures.1 c.in_ok-member-items.ensures.lookup.0.2 (none_fits _ _ _ _ _ _ _ c.loop-member-test.true i.1 _ (subst (λ ps. Adds ps c.loop-member.self.slots.now v.slots.now c.loop-member.self.count (entry_at c.in_ok-member-items.member-items.now c.loop-member.member-index) None) i.0.1 w.added)))

pub returns-clause-lent : goal.returns-clause-lent
returns-clause-lent c = c.loop-member.invariant.0

pub returns-clause-added : goal.returns-clause-added
returns-clause-added c = all_added _ _ _ _ _ _ _ _ c.in-Union.is c.in_ok-end.ensures.1 c.in_ok-member-items.ensures.lookup.0.2 _ _ c.loop-member-test.false c.loop-member.invariant.1

-- `add_member`: each way out of it by one lemma of `OneMore`. Assumes nothing.
use Rattle.std.proofs.Common.{◌+◌, ◌≤◌, take, set, ap, ◌∙◌, arith}
use Rattle.std.proofs.lemmas.Grind.{common_steps}
use Rattle.building.proofs.OneMore.{member_already, no_room, one_more_member, put_in}
use Rattle.building.proofs.members.OpenUnion.add_member.Goals as goal

pub returns-then-has_member-clause-added : goal.returns-then-has_member-clause-added
returns-then-has_member-clause-added c = member_already _ _ _ c.members-members.ensures c.if-has_member.ensures

pub returns-then-count-self-clause-added : goal.returns-then-count-self-clause-added
returns-then-count-self-clause-added c = no_room _ _ _ _ _ c.members-members.ensures c.if-has_member.ensures c.rank_of_entry.ensures c.place_of-place.ensures c.if-count-self.true

pub returns-clause-added : goal.returns-clause-added
returns-clause-added c =
    let w = c.copy_within.ensures in
    let m = c.args.self.now in
    let p = c.place_of-place.result in
    let le : p ≤ m.count = grind (arith, common_steps, c.members-members.ensures, c.place_of-place.ensures.within) in
    one_more_member _ _ _ _ _ c.members-members.ensures c.if-has_member.ensures c.rank_of_entry.ensures c.place_of-place.ensures _ (grind (arith, common_steps, w.len)) (ap (λ z. take (m.count + 1) (set z p c.args.e)) w.after ∙ put_in m.slots.now m.count p c.args.e le (omega arith))

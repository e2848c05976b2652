use Rattle.checker.proofs.Visiting.{name_made, literal_made, token_as, token_failed, token_ended}
use Rattle.checker.proofs.walk.Walk.visit_leaf.Goals as goal
use Rattle.checker.proofs.walk.Walk.visit_leaf.Goals.{in-Name+in_ok-made-in-Name, in_default+in_ok-made-in_default}

pub returns-in_err-made-in-Name : goal.returns-in_err-made-in-Name
returns-in_err-made-in-Name g c table i q =
    let e = c.name_made.ensures in
    token_failed c.args.self.now _ q (name_made c.part-text.ensures c.args.self.now _ c.in-Name.is e.rest e.lent e.asked c.in_err-made-in-Name.ensures.makes) c.from_residual.ensures.0

pub returns-in_err-made-in_default : goal.returns-in_err-made-in_default
returns-in_err-made-in_default g c table i q =
    token_failed c.args.self.now _ q (literal_made c.part-text.ensures c.args.self.now c.in_default.not-Name c.literal_made.ensures.lent c.in_err-made-in_default.ensures.makes) c.from_residual-in_err-made-in_default.ensures.0

pub returns : goal.returns
returns g c table i q = elim c.match-leaf.branch [
  | in-Name+in_ok-made-in-Name w ↦
      let e = w.name_made.ensures in
      token_ended c.args.self.now _ q
      (token_as w.self-is w.findings-is w.store-is w.made-is
      (name_made c.part-text.ensures c.args.self.now _ w.in-Name.is e.rest e.lent e.asked w.in_ok-made-in-Name.ensures.makes))
      c.ended.ensures
  | in_default+in_ok-made-in_default w ↦
      token_ended c.args.self.now _ q
      (token_as w.self-is w.findings-is w.store-is w.made-is
      (literal_made c.part-text.ensures c.args.self.now w.in_default.not-Name w.literal_made.ensures.lent w.in_ok-made-in_default.ensures.makes))
      c.ended.ensures
]

use Rattle.std.proofs.Common.{refl, ◌∙◌}
use Rattle.checker.proofs.Visiting.{visiting, unary_visit, binary_visit, choice_visit, no_visit, pushed_goes}
use Rattle.checker.proofs.walk.Walk.wait_for_parts.Goals as goal

pub returns-in-Unary : goal.returns-in-Unary
returns-in-Unary c sheet Γ table i f s at other = record {
  lent = (refl, refl);
  onward = λ whole left sound h. pushed_goes _ _ _ _ _ h c.wait.ensures (unary_visit h.notes (visiting h.notes _ (at ∙ c.in-Unary.is) h.goes));
}

pub returns-in-Binary : goal.returns-in-Binary
returns-in-Binary c sheet Γ table i f s at other = record {
  lent = (refl, refl);
  onward = λ whole left sound h. pushed_goes _ _ _ _ _ h c.wait-in-Binary.ensures (binary_visit h.notes (visiting h.notes _ (at ∙ c.in-Binary.is) h.goes));
}

pub returns-in-Choice : goal.returns-in-Choice
returns-in-Choice c sheet Γ table i f s at other = record {
  lent = (refl, refl);
  onward = λ whole left sound h. pushed_goes _ _ _ _ _ h c.wait-in-Choice.ensures (choice_visit h.notes (visiting h.notes _ (at ∙ c.in-Choice.is) h.goes));
}

pub returns-in_default : goal.returns-in_default
returns-in_default c sheet Γ table i f s at other = record {
  lent = (refl, refl);
  onward = λ whole left sound h. absurd (no_visit h.notes (visiting h.notes _ at h.goes) other c.in_default.not-Unary c.in_default.not-Binary c.in_default.not-Choice);
}

use Rattle.std.proofs.Common.{refl}
use Rattle.checker.specs.Standing.{Stands}
use Rattle.checker.proofs.Walking.{failed, ended_heavy, ended_kept}
use Rattle.checker.proofs.walk.Walk.ended.Goals as goal

pub returns-in_err-keep : goal.returns-in_err-keep
returns-in_err-keep c = record {
  lent = c.keep.ensures.lent;
  ends = λ sheet Γ table whole left f u h i. failed (Stands sheet Γ table whole left _) c.from_residual.ensures.0 (λ e. ended_heavy h (c.in_err-keep.ensures.kept _ u h.tabled i));
}

pub returns : goal.returns
returns c = record {
  lent = c.keep.ensures.lent;
  ends = λ sheet Γ table whole left f u h i. ended_kept _ _ _ u c.args.made h i (c.in_ok-keep.ensures.kept _ u h.tabled i) c.push.ensures.holds c.push.ensures.space refl refl;
}

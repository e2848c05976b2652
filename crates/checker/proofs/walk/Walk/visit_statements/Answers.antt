use Rattle.std.proofs.Common.{sym, refl, ◌∙◌}
use Rattle.checker.proofs.Visiting.{statements_done, statement_visit, no_statement, pushed_goes, goes_with}
use Rattle.checker.proofs.walk.Walk.visit_statements.Goals as goal

pub returns-in_default : goal.returns-in_default
returns-in_default g c sheet Γ f s = record { lent = (refl, refl); onward = λ whole left sound h. goes_with h (statements_done h.notes _ c.in_default.is h.goes) }

pub returns-in-Statement : goal.returns-in-Statement
returns-in-Statement g c sheet Γ f s = record {
  lent = (refl, refl);
  onward = λ whole left sound h. pushed_goes _ _ _ _ _ h c.wait.ensures (statement_visit h.notes _ _ _ _ c.in-Some.is (sym c.in-Statement.ensures) h.goes);
}

pub returns-in_default-entry_at : goal.returns-in_default-entry_at
returns-in_default-entry_at g c sheet Γ f s = record {
  lent = (refl, refl);
  onward = λ whole left sound h. absurd (no_statement h.notes _ _ c.in-Some.is (λ b j q. c.in_default-entry_at.not-Statement b j (c.entry_at.ensures ∙ q)) h.goes);
}

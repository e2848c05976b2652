-- Which fault is told, of those that there are. Assumes nothing.
use Rattle.std.specs.Prelude.{◌≡◌, ℕ, ◌≤◌, ◌⊎◌}
use Rattle.lexer.specs.Refusals.{turn}
use Rattle.lexer.specs.declared.reasons.Reason.{Reason}
use Rattle.lexer.specs.declared.reasons.Reason.TheVariants.{NoProgram}
use Rattle.lexer.specs.declared.refusal.Refusal.{Refusal}

-- e is a fault; there is none of an earlier turn, and none of the same turn at a lower place, but where the reason is that
-- there is no program, the place is any that this fault has
pub record FirstFault (Fault : Reason → ℕ → Type 0) (e : Refusal) : Type 0 where
  pub is_fault : Fault e.reason e.place
  pub no_earlier : (r : Reason) (p : ℕ) → Fault r p → turn e.reason ≤ turn r
  pub no_lower : (r : Reason) (p : ℕ) → Fault r p → turn r ≡ turn e.reason → (r ≡ NoProgram) ⊎ (e.place ≤ p)

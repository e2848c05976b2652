-- How many findings a program has at most. Assumes nothing.
use Rattle.std.proofs.Common.{ℕ, ◌≤◌, arith}
use Rattle.checker.proofs.Logging.{few_found}
use Rattle.checker.proofs.Notes.{few_by_load}
use Rattle.tables.specs.Answered.{HoldsAll}

pub holds_all : (n : ℕ) → 16384 ≤ n → HoldsAll n
holds_all n long sheet Γ ss notes found j = omega (arith, few_by_load j.typed, few_found j.findings, j.load, long)

-- Entries that stand for something. Assumes nothing.
use Rattle.std.proofs.Common.{◌≡◌, ℕ, ◌+◌, ◌<◌, List, sym, ◌∙◌, subst, ⊎_elim, arith}
use Rattle.std.proofs.lemmas.Bool.{cases_eq, cases_lt}
use Rattle.types.specs.declared.entries.TypeEntry.{TypeEntry}
use Rattle.types.specs.Types.{Types}
use Rattle.types.specs.Table.{Is, Run, run_end, run_more}
use Rattle.building.specs.Made.{Kept, StandsFor, a_type, a_unit, Filled}
use Rattle.building.proofs.Written.{kept_held}

pub filled_none : (es : List TypeEntry) (n : ℕ) → Filled es n n
filled_none es n j le lt = absurd (omega arith)

-- one entry more
pub filled_more : {es : List TypeEntry} (from at : ℕ) {to : ℕ} → to ≡ at + 1 → Filled es from at → StandsFor es at → Filled es from to
filled_more {es} from at e before here j le lt = ⊎_elim (λ q. subst (λ i. StandsFor es i) (sym q) here) (λ ne. before j le (omega arith)) (cases_eq j at)

-- one run of entries after another
pub filled_joined : {es : List TypeEntry} (from mid to : ℕ) → Filled es from mid → Filled es mid to → Filled es from to
filled_joined from mid to before after j le lt = ⊎_elim (λ low. before j le low) (λ high. after j high lt) (cases_lt j mid)

pub run_filled : {es : List TypeEntry} {first size : ℕ} {ts : Types} → Run es first size ts → Filled es first (first + size)
run_filled run_end j le lt = absurd (omega arith)
run_filled {es} (run_more {first} x r) j le lt = ⊎_elim (λ q. subst (λ i. StandsFor es i) (sym q) (a_type x)) (λ ne. run_filled r j (omega arith) (omega arith)) (cases_eq j first)

-- an entry that is kept, with those below it, stands for what it stood for
stands_kept : {es fs : List TypeEntry} (n j : ℕ) → Kept es fs n → j < n → StandsFor es j → StandsFor fs j
stands_kept {fs} n j kept lt (a_type {t} h) = a_type (subst (λ x. Is fs j x t) (sym (kept j lt)) (kept_held n kept (omega arith) h))
stands_kept n j kept lt (a_unit e) = a_unit (kept j lt ∙ e)

pub filled_kept : {es fs : List TypeEntry} (from to : ℕ) → Kept es fs to → Filled es from to → Filled fs from to
filled_kept from to kept f j le lt = stands_kept to j kept lt (f j le lt)

-- new entries after those that are kept
pub filled_on : {es fs : List TypeEntry} (from used to : ℕ) → Kept es fs used → Filled es from used → Filled fs used to → Filled fs from to
filled_on from used to kept before after = filled_joined from used to (filled_kept from used kept before) after

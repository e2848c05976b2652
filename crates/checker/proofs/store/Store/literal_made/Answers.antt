use Rattle.types.specs.Table.{is_true, is_false, is_null}
use Rattle.checker.proofs.Madely.{plain_as, ready_as, as_literal}
use Rattle.checker.proofs.store.Store.literal_made.Goals as goal

pub returns-in-Number-clause-makes : goal.returns-in-Number-clause-makes
returns-in-Number-clause-makes c ts sheet Γ p n t cs tabled same other rule =
    let form = as_literal sheet Γ p n _ t cs c.in-Number.is same rule in
    ready_as _ _ _ form.2 (c.number_made.ensures ts form.0 tabled form.1)

pub returns-in-Text-clause-makes : goal.returns-in-Text-clause-makes
returns-in-Text-clause-makes c ts sheet Γ p n t cs tabled same other rule =
    let form = as_literal sheet Γ p n _ t cs c.in-Text.is same rule in
    ready_as _ _ _ form.2 (c.spelled.ensures.spelled ts form.0 tabled form.1)

pub returns-in-True-clause-makes : goal.returns-in-True-clause-makes
returns-in-True-clause-makes c ts sheet Γ p n t cs tabled same other rule = plain_as _ _ _ t c.plain.ensures (as_literal sheet Γ p n _ t cs c.in-True.is same rule) tabled is_true

pub returns-in-False-clause-makes : goal.returns-in-False-clause-makes
returns-in-False-clause-makes c ts sheet Γ p n t cs tabled same other rule = plain_as _ _ _ t c.plain-in-False.ensures (as_literal sheet Γ p n _ t cs c.in-False.is same rule) tabled is_false

pub returns-in-Null-clause-makes : goal.returns-in-Null-clause-makes
returns-in-Null-clause-makes c ts sheet Γ p n t cs tabled same other rule = plain_as _ _ _ t c.plain-in-Null.ensures (as_literal sheet Γ p n _ t cs c.in-Null.is same rule) tabled is_null

use Rattle.std.proofs.Common.{◌≡◌, ℕ, ◌⊎◌, List, inl, inr}
use Rattle.types.specs.Types.{Ty, number, string}
use Rattle.types.specs.Table.{is_number, is_string, is_boolean}
use Rattle.building.specs.Forms.{form_number, form_string, form_boolean}
use Rattle.checker.specs.declared.rules.Rule.{Rule}
use Rattle.checker.specs.declared.rules.Rule.TheVariants.{Arithmetic, LeftNumber, LeftString, RightNumber, RightString}
use Rattle.checker.specs.Conditions.{Condition}
use Rattle.checker.specs.Forms.{Form}
use Rattle.checker.proofs.Madely.{plain_as, ready_as, both_kinds}
use Rattle.checker.proofs.Ruling.{as_form}
use Rattle.checker.proofs.store.Store.infix_made.Goals as goal

gives_number : {r : Rule} (p : ℕ) (t : Ty) (q : ℕ) (u v : Ty) (cs : List Condition) → (r ≡ Arithmetic) ⊎ ((r ≡ LeftNumber) ⊎ (r ≡ RightNumber)) → Form r p t q u v cs → v ≡ number
gives_number p t q u v cs (inl e) form = (as_form p t q u v cs e form).0
gives_number p t q u v cs (inr (inl e)) form = (as_form p t q u v cs e form).0
gives_number p t q u v cs (inr (inr e)) form = (as_form p t q u v cs e form).0

gives_string : {r : Rule} (p : ℕ) (t : Ty) (q : ℕ) (u v : Ty) (cs : List Condition) → (r ≡ LeftString) ⊎ (r ≡ RightString) → Form r p t q u v cs → v ≡ string
gives_string p t q u v cs (inl e) form = (as_form p t q u v cs e form).0
gives_string p t q u v cs (inr e) form = (as_form p t q u v cs e form).0

pub returns-in-Arithmetic-clause-makes : goal.returns-in-Arithmetic-clause-makes
returns-in-Arithmetic-clause-makes c ts p q t u v cs tabled b f form = plain_as _ _ _ v c.plain.ensures (gives_number p t q u v cs c.in-Arithmetic.is form) tabled is_number

pub returns-in-LeftString-clause-makes : goal.returns-in-LeftString-clause-makes
returns-in-LeftString-clause-makes c ts p q t u v cs tabled b f form = plain_as _ _ _ v c.plain-in-LeftString.ensures (gives_string p t q u v cs c.in-LeftString.is form) tabled is_string

pub returns-in-Comparison-clause-makes : goal.returns-in-Comparison-clause-makes
returns-in-Comparison-clause-makes c ts p q t u v cs tabled b f form = plain_as _ _ _ v c.plain-in-Comparison.ensures (as_form p t q u v cs c.in-Comparison.is form).0 tabled is_boolean

pub returns-in-Logical-clause-makes : goal.returns-in-Logical-clause-makes
returns-in-Logical-clause-makes c ts p q t u v cs tabled b f form = c.united.ensures.united ts _ u v tabled is_boolean b form_boolean f (as_form p t q u v cs c.in-Logical.is form).0

pub returns-in-BothOpen-clause-makes : goal.returns-in-BothOpen-clause-makes
returns-in-BothOpen-clause-makes c ts p q t u v cs tabled b f form =
    ready_as _ _ _ (as_form p t q u v cs c.in-BothOpen.is form).0 (c.united-in-BothOpen.ensures.united ts _ _ _ tabled is_number is_string form_number form_string both_kinds)

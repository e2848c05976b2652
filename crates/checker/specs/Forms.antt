-- The rules of operators between operands, by the kind of rule. No public contract cites it. Assumes nothing.
use Rattle.std.specs.Prelude.{◌≡◌, ℕ, List, [], ◌∷◌}
use Rattle.types.specs.declared.entries.TypeEntry.{TypeEntry}
use Rattle.types.specs.Types.{Ty, number, string, boolean, no_types, ◌and◌}
use Rattle.types.specs.Table.{Is}
use Rattle.building.specs.Unions.{UnionOf}
use Rattle.parser.specs.declared.symbols.Prefix.{Prefix}
use Rattle.parser.specs.declared.symbols.Prefix.TheVariants.{Not, Negate, Typeof}
use Rattle.parser.specs.declared.symbols.Operator.{Operator}
use Rattle.parser.specs.declared.symbols.Operator.TheVariants.{Add}
use Rattle.checker.specs.declared.rules.Rule.{Rule}
use Rattle.checker.specs.declared.rules.Rule.TheVariants.{Arithmetic, Comparison, Logical, LeftNumber, LeftString, RightNumber, RightString, BothOpen}
use Rattle.checker.specs.Conditions.{Condition, fits, compares}
use Rattle.checker.specs.Rules.{InfixRule, number_or_string}

-- the type and the conditions of an operator before its operand
abbrev pub PrefixForm : Prefix → ℕ → Ty → Ty → List Condition → Type 0
PrefixForm Not q t u cs = (u ≡ boolean) × (cs ≡ fits q t boolean ∷ [])
PrefixForm Negate q t u cs = (u ≡ number) × (cs ≡ fits q t number ∷ [])
PrefixForm Typeof q t u cs = (u ≡ string) × (cs ≡ [])

-- the type and the conditions of a rule
abbrev pub Form : Rule → ℕ → Ty → ℕ → Ty → Ty → List Condition → Type 0
Form Arithmetic p s q t u cs = (u ≡ number) × (cs ≡ fits p s number ∷ fits q t number ∷ [])
Form Comparison p s q t u cs = (u ≡ boolean) × (cs ≡ compares q s t ∷ [])
Form Logical p s q t u cs = UnionOf (boolean and t and no_types) u × (cs ≡ fits p s boolean ∷ [])
Form LeftNumber p s q t u cs = (u ≡ number) × (cs ≡ fits q t number ∷ [])
Form LeftString p s q t u cs = (u ≡ string) × (cs ≡ fits q t string ∷ [])
Form RightNumber p s q t u cs = (u ≡ number) × (cs ≡ fits p s number ∷ [])
Form RightString p s q t u cs = (u ≡ string) × (cs ≡ fits p s string ∷ [])
Form BothOpen p s q t u cs = (u ≡ number_or_string) × (cs ≡ fits p s number_or_string ∷ fits q t number_or_string ∷ [])

-- an operator between operands of the types a and b has the form of the rule r
abbrev pub SaysRule : Operator → TypeEntry → TypeEntry → Rule → Type 0
SaysRule op a b r =
    (es : List TypeEntry) (n p q : ℕ) (s t u : Ty) (cs : List Condition) → Is es n a s → Is es n b t → InfixRule p s q t op u cs → Form r p s q t u cs

abbrev pub SaysSum : TypeEntry → TypeEntry → Rule → Type 0
SaysSum a b r = SaysRule Add a b r

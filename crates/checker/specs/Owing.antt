-- What the frames of a check still owe. No public contract cites it. Assumes nothing.
use Rattle.std.specs.Prelude.{◌≡◌, ℕ, suc, ◌+◌, ◌≤◌, List, [], ◌∷◌, ◌++◌, length, Option}
use Rattle.types.specs.Types.{Ty, boolean, no_types, ◌and◌}
use Rattle.building.specs.Unions.{UnionOf}
use Rattle.registers.specs.Meaning.{Meaning}
use Rattle.parser.specs.declared.symbols.Prefix.{Prefix}
use Rattle.parser.specs.declared.symbols.Operator.{Operator}
use Rattle.parser.specs.declared.tree.TreeEntry.{TreeEntry}
use Rattle.parser.specs.declared.tree.WalkFrame.{WalkFrame}
use Rattle.parser.specs.declared.tree.WalkFrame.TheVariants.{Statements, Expression, Unary, Binary, Choice}
use Rattle.parser.specs.Syntax.{Expr, place, size}
use Rattle.parser.specs.Table.{Tree, Listed}
use Rattle.checker.specs.Conditions.{Condition, fits}
use Rattle.checker.specs.Rules.{PrefixRule, InfixRule, Note, ends, Typed, AllTyped}

-- a finished operand: its place and its type
abbrev pub Opd : Type 0
Opd = ℕ × Ty

-- how many expressions there are, and how many steps they take
abbrev pub exprs : List Expr → ℕ
exprs [] = 0
exprs (e ∷ es) = size e + exprs es

abbrev pub turns : List Expr → ℕ
turns [] = 0
turns (e ∷ es) = suc (size e + size e) + turns es

-- Owes fs vs ns k n: with the operands vs, the frames fs still note ns, in at most k steps, and n bounds what they put on
-- the stacks
pub data Owes (sheet : List ℕ) (Γ : Meaning) (table : List TreeEntry) : List WalkFrame → List Opd → List Note → ℕ → ℕ → Type 0 where
  owes_none : {vs : List Opd} → Owes sheet Γ table [] vs [] 0 0
  owes_statements : {i : Option ℕ} {k n : ℕ} {es : List Expr} {ms ns : List Note} {fs : List WalkFrame} {vs : List Opd} →
      Listed table i es → AllTyped sheet Γ es ms → ((us : List Opd) → Owes sheet Γ table fs us ns k n) →
      Owes sheet Γ table (Statements i ∷ fs) vs (ms ++ ns) (suc (turns es) + k) (suc (exprs es) + n)
  owes_expression : {i k n : ℕ} {e : Expr} {t : Ty} {ms ns : List Note} {fs : List WalkFrame} {vs : List Opd} →
      Tree table i e → Typed sheet Γ e t ms → Owes sheet Γ table fs ((place e, t) ∷ vs) ns k n →
      Owes sheet Γ table (Expression i ∷ fs) vs (ms ++ ns) (size e + size e + k) (size e + n)
  owes_unary : {op : Prefix} {p q k n : ℕ} {t u : Ty} {cs : List Condition} {ns : List Note} {fs : List WalkFrame} {vs : List Opd} →
      PrefixRule q t op u cs → Owes sheet Γ table fs ((p, u) ∷ vs) ns k n →
      Owes sheet Γ table (Unary op p ∷ fs) ((q, t) ∷ vs) (ends cs u ++ ns) (suc k) (suc n)
  owes_binary : {op : Operator} {p q k n : ℕ} {s t u : Ty} {cs : List Condition} {ns : List Note} {fs : List WalkFrame} {vs : List Opd} →
      InfixRule p s q t op u cs → Owes sheet Γ table fs ((p, u) ∷ vs) ns k n →
      Owes sheet Γ table (Binary op ∷ fs) ((q, t) ∷ (p, s) ∷ vs) (ends cs u ++ ns) (suc k) (suc n)
  owes_choice : {p q o k n : ℕ} {r s t u : Ty} {ns : List Note} {fs : List WalkFrame} {vs : List Opd} →
      UnionOf (s and t and no_types) u → Owes sheet Γ table fs ((p, u) ∷ vs) ns k n →
      Owes sheet Γ table (Choice ∷ fs) ((o, t) ∷ (q, s) ∷ (p, r) ∷ vs) (ends (fits p r boolean ∷ []) u ++ ns) (suc k) (suc n)

-- with ms noted so far and at most left steps to go, the check comes to note whole
pub data Going (sheet : List ℕ) (Γ : Meaning) (table : List TreeEntry) (whole : List Note) (left : ℕ) (fs : List WalkFrame) (vs : List Opd) (ms : List Note) : Type 0 where
  going : {rest : List Note} {k n : ℕ} → Owes sheet Γ table fs vs rest k n → ms ++ rest ≡ whole → k ≤ left → length vs + n ≤ 4096 → length whole ≤ 16384 →
      Going sheet Γ table whole left fs vs ms

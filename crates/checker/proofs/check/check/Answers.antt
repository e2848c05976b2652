use Rattle.std.proofs.Common.{◌≤◌, List, sym, refl, ◌∙◌, subst, rules}
use Rattle.std.proofs.lemmas.Bool.Decides.{not_from_Decides}
use Rattle.parser.specs.Table.{last_of, Listed}
use Rattle.parser.specs.Syntax.{Expr, sizes}
use Rattle.checker.specs.Rules.{Note, AllTyped}
use Rattle.checker.specs.Walks.{WalkedOrHeavy}
use Rattle.checker.specs.Checks.{short_table, damaged}
use Rattle.checker.proofs.Checking.{enough, checks_heavy, checks_walked}
use Rattle.checker.proofs.check.check.Goals as goal
use Rattle.checker.proofs.check.check.Goals.{then-is_err, else-is_err}

pub returns-then-is_short-clause-checks : goal.returns-then-is_short-clause-checks
returns-then-is_short-clause-checks g c = rw c.at.ensures (short_table (c.is_short.ensures.0 c.if-is_short.true), refl, c.blank_out.ensures)

pub returns-then-not-tree_in_order-clause-checks : goal.returns-then-not-tree_in_order-clause-checks
returns-then-not-tree_in_order-clause-checks g c = rw c.at-then-not-tree_in_order.ensures (
  damaged (not_from_Decides _ c.is_short.ensures c.if-is_short.false) (not_from_Decides _ c.tree_in_order.ensures c.if-not-tree_in_order.true),
  refl,
  c.blank_out.ensures,
)

pub returns-clause-checks : goal.returns-clause-checks
returns-clause-checks g c =
    let long = not_from_Decides _ c.is_short.ensures c.if-is_short.false in
    let e = enough _ long in
    let ordered = c.tree_in_order.ensures.0 c.if-not-tree_in_order.false in
    let sound = g.F.Register.sound c.args.first.now in
    let r = c.walk_over-walked.result in
    let walk : (ss : List Expr) (ns : List Note) → Listed c.args.tree.now (last_of c.args.reading.used) ss → sizes ss ≤ 4096 → AllTyped c.args.sheet.now (g.F.Register.meaning c.args.first.now) ss ns
    → WalkedOrHeavy ns r c.walk_over-walked.new.findings c.walk_over-walked.new.types = λ ss ns listed small typed. c.walk_over-walked.ensures ss ns (subst (λ i. Listed c.args.tree.now i ss) (sym c.last.ensures) listed) small typed sound e.0 e.1 e.2 c.blank_out.ensures in
    elim c.if-is_err.branch [
      | then-is_err w ↦
          rw w.findings-is
          (checks_heavy _ _ _ _ _ r _ _ _ _ c.map_err.ensures.cases long ordered sound walk (sym c.is_err.ensures.value ∙ w.if-is_err.true) _ w.blank_out-then-is_err.ensures (λ e d k. search rules))
      | else-is_err w ↦ rw w.findings-is (checks_walked _ _ _ _ _ r _ _ _ _ c.map_err.ensures.cases long ordered sound walk (sym c.is_err.ensures.value ∙ w.if-is_err.false))
    ]

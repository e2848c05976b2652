use Rattle.std.proofs.Common.{◌≡◌, ◌∷◌, length, Some, ap, arith}
use Rattle.std.proofs.lemmas.Option.{MatchOption-at_none}
use Rattle.stack.specs.Items.{held}
use Rattle.parser.specs.declared.tree.OperatorEntry.TheVariants.{Bracket, Consequent}
use Rattle.parser.specs.declared.builder.Position.TheVariants.{Start}
use Rattle.parser.specs.Machine.{after}
use Rattle.parser.specs.Holds.{Next}
use Rattle.parser.proofs.Reductions.{added}
use Rattle.parser.proofs.Arms.{step_close, step_colon, step_end, unmet, not_end, not_shut, not_met}
use Rattle.parser.proofs.builder.Builder.close.Goals as goal

pub returns-in-None-Semicolon-clause-turns : goal.returns-in-None-Semicolon-clause-turns
returns-in-None-Semicolon-clause-turns c =
    let none = MatchOption-at_none _ _ c.in-None-Semicolon.is-0 c.pop.ensures.holds in
    λ k sheet b ps e h.
    added (λ table fs used last at. Next sheet table fs (record { used = used; last = Some at; position = Start }) (after k e) b ps c.args.t) c.add-i.ensures
    (step_end _ c.in-None-Semicolon.is-1 none.0 none.1 (omega (arith, c.requires.room.in_tree)) h)

pub returns-in-Some-Bracket-Close-clause-turns : goal.returns-in-Some-Bracket-Close-clause-turns
returns-in-Some-Bracket-Close-clause-turns c =
    let took : held c.args.self.now.parts ≡ Bracket ∷ held c.pop.new.self = grind arith in
    λ k sheet b ps e h. step_close _ c.in-Some-Bracket-Close.is-1 took h

pub returns-in-Some-Consequent-Colon-clause-turns : goal.returns-in-Some-Consequent-Colon-clause-turns
returns-in-Some-Consequent-Colon-clause-turns c =
    let took : held c.args.self.now.parts ≡ Consequent c.in-Some-Consequent-Colon.test ∷ held c.pop.new.self = grind arith in
    let put = c.push.ensures.holds (omega (arith, ap length took, c.pop.ensures.space, c.requires.room.in_parts)) in
    λ k sheet b ps e h. step_colon _ c.in-Some-Consequent-Colon.is-1 took put h

pub returns-in_default-clause-turns : goal.returns-in_default-clause-turns
returns-in_default-clause-turns c =
    let none = MatchOption-at_none _ _ c.in_default.is-0 c.pop.ensures.holds in
    λ k sheet b ps e h. unmet _ c.requires.ends (not_end _ c.in_default.not-Semicolon-1 none.0) h

pub returns-in_default-2-clause-turns : goal.returns-in_default-2-clause-turns
returns-in_default-2-clause-turns c =
    let took : held c.args.self.now.parts ≡ Bracket ∷ held c.pop.new.self = grind arith in
    λ k sheet b ps e h. unmet _ c.requires.ends (not_shut _ c.in_default.not-Close-1 took) h

pub returns-in_default-3-clause-turns : goal.returns-in_default-3-clause-turns
returns-in_default-3-clause-turns c = λ k sheet b ps e h.
    unmet _ c.requires.ends (not_met _ _ (grind arith) (λ l is. c.in_default.not-Colon-1) c.requires.lower c.in_default.ensures.holds) h

pub returns-in_default-4-clause-turns : goal.returns-in_default-4-clause-turns
returns-in_default-4-clause-turns c = λ k sheet b ps e h.
    unmet _ c.requires.ends (not_met _ _ (grind arith) (grind arith) c.requires.lower c.in_default.ensures.holds) h

use Rattle.std.proofs.Common.{inl, inr}
use Rattle.parser.specs.Building.{progress}
use Rattle.parser.proofs.Whole.{from_start, from_want, from_after}
use Rattle.parser.proofs.builder.Builder.step.Goals as goal

pub returns-in-Start : goal.returns-in-Start
returns-in-Start c =
    let told = c.operand.ensures in
    record {
      grown = told.grown;
      turns = λ sheet s b ps w h.
          elim c.in-Start.is [
            | inl start ↦ from_start (progress c.operand.new.self) sheet _ _ _ _ _ _ _ s b ps h start (told.turns sheet b ps w)
            | inr want ↦ from_want (progress c.operand.new.self) sheet _ _ _ _ _ _ _ s b ps h want (told.turns sheet b ps w)
          ];
    }

pub returns-in-After-clause-turns : goal.returns-in-After-clause-turns
returns-in-After-clause-turns c = λ sheet s b ps w h.
    from_after (progress c.follow.new.self) sheet _ _ _ _ _ _ _ s b ps h _ c.in-After.is (c.follow.ensures.turns sheet b ps)

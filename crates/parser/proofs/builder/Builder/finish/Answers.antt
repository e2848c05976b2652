use Rattle.std.proofs.Common.{sym, refl, ap, subst}
use Rattle.parser.specs.Reading.{NotProgram}
use Rattle.parser.proofs.Whole.{accepted, refused_at_end}
use Rattle.parser.proofs.builder.Builder.finish.Goals as goal

pub returns-in-Start : goal.returns-in-Start
returns-in-Start c =
    λ sheet ls end l few low h. accepted l h _ (ap (λ r. r.used) c.new.ensures) few low c.in-Start.is

pub returns-in_default : goal.returns-in_default
returns-in_default c = λ sheet ls end l few low h. rw c.at.ensures (refl, subst (NotProgram sheet) (sym end) (refused_at_end l h c.in_default.not-Start))

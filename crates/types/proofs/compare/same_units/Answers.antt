use Rattle.std.proofs.Common.{rules}
use borrow.Author.Tests.{tests}
use Rattle.std.proofs.lemmas.Iterator.{YieldsList-from_slice, YieldsList-from_zip, cases_from_all}
use Rattle.std.proofs.lemmas.Iterator.Consumers.{YieldsList-at}
use Rattle.types.proofs.Parts.{Equal, NoUnit, units_alike}
use Rattle.types.proofs.compare.same_units.Goals as goal

pub returns-then-run_below-2 : goal.returns-then-run_below-2
returns-then-run_below-2 c us vs p q low high u v =
    units_alike c.args.types.now c.args.first c.args.other c.args.count low high _ us vs p q u v
    (cases_from_all c.all.new.self _ _ Equal NoUnit c.all.ensures.ran (YieldsList-from_zip (YieldsList-at c.zip.ensures.first (YieldsList-from_slice _ c.iter.ensures.rest)) (YieldsList-from_slice _ (search rules)))
    (λ x q k. search (rules, tests)) (λ x q k. search (rules, tests)))

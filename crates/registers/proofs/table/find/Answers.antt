use Rattle.std.proofs.Common.{◌≡◌, ap, ◌∙◌, rules, tests, arith}
use Rattle.std.specs.Str.{bytes_eq}
use Rattle.std.specs.Option.{option_map}
use Rattle.std.proofs.lemmas.Grind.{common_steps}
use Rattle.std.proofs.lemmas.Iterator.{YieldsList-from_slice}
use Rattle.std.proofs.lemmas.Iterator.Search.{find_from_yields_List}
use Rattle.registers.specs.Standings.{stands}
use Rattle.registers.proofs.Rows.{meant, found_first}
use Rattle.registers.proofs.table.find.Goals as goal

pub returns : goal.returns
returns c =
    let name = c.args.name.now in
    let table = c.args.table.now in
    let found = find_from_yields_List (λ r. bytes_eq r.0.now name) _ _ c.find.result c.find.ensures.ran (YieldsList-from_slice table (cc)) (λ x b q k. search (rules, tests)) in
    let same : stands c.map.result ≡ meant (option_map (λ x. x.now) c.find.result) = grind (arith, common_steps) in
    same ∙ ap meant found ∙ found_first table name

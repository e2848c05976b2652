use Rattle.std.proofs.Common.{◌≡◌, length, arith}
use Rattle.checker.proofs.walk.Walk.name_made.Goals as goal

pub returns-clause-makes : goal.returns-clause-makes
returns-clause-makes g c ts tabled =
    let long : length c.ask-found.new.room ≡ 128 = omega arith in
    c.told_made.ensures.makes ts _ tabled long c.ask-found.ensures

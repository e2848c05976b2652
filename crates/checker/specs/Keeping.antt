-- What a list in a lent slice keeps. No public contract cites it. Assumes nothing.
use Rattle.std.specs.Prelude.{◌≡◌, List, length}
use Rattle.checker.specs.declared.first.First.{First}
use Rattle.checker.specs.Findings.{FirstOf}

pub record Keeps {T : Type 0} (d : T) (f : First T) (xs : List T) : Type 0 where
  pub counts : f.count ≡ length xs
  pub holds : FirstOf d f.slots.now xs

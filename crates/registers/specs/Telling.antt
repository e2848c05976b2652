-- What a register's answer tells of a binding. Assumes nothing.
use Rattle.std.specs.Prelude.{◌≡◌, ◌<◌, ◌≤◌, List, Some, None, Option}
use Rattle.types.specs.declared.entries.TypeEntry.{TypeEntry}
use Rattle.types.specs.Types.{Ty}
use Rattle.types.specs.Table.{Is}
use Rattle.types.specs.declared.entries.Root.{Root}
use Rattle.building.specs.Weights.{weight}
use Rattle.building.specs.Made.{Filled}
use Rattle.registers.specs.declared.told.Told.{Told}
use Rattle.registers.specs.Meaning.{Binding, typed, scheme}

-- m is the type t, whose parts are the first entries of the run, fewer than the type weighs
pub record MadeIn (es : List TypeEntry) (t : Ty) (m : Root) : Type 0 where
  pub holds : Is es m.used m.entry t
  pub within : m.used ≤ 128
  pub light : m.used < weight t
  pub filled : Filled es 0 m.used  -- each stands for something

-- the answer r, with the run es that was written, tells what a name is bound to
abbrev pub Tells : Option Binding → Option Told → List TypeEntry → Type 0
Tells None r es = r ≡ None
Tells (Some (scheme s)) r es = r ≡ Some (Told.Scheme s)
Tells (Some (typed t)) r es = (m : Root) × (r ≡ Some (Told.Typed m)) × MadeIn es t m

use Rattle.std.proofs.Common.{sym, ap, ◌∙◌}
use Rattle.registers.specs.Soundness.{library_sound}
use Rattle.registers.specs.Standings.{stands}
use Rattle.registers.proofs.library.LibraryRegister.ask.Goals as goal

pub told-requires : goal.told-requires
told-requires c = library_sound c.args.name.now _ (sym c.standing_of.ensures ∙ ap stands c.in_ok-standing.was)

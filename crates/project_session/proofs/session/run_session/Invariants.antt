use Rattle.std.specs.Prelude.{⊤}
use Rattle.project_session.proofs.session.run_session.Given as goal

abbrev pub ghosts-open_and_run : goal.ghosts-open_and_run
ghosts-open_and_run g a = record { known = ⊤; moment = g.D.Disk.clock a.disk; images = g.D.Disk.images a.disk; moments = g.D.Disk.moments a.disk }

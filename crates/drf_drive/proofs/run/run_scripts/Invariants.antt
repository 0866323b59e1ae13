use Rattle.drf_core.specs.Machine.{live}
use Rattle.drf_drive.proofs.run.run_scripts.Given as goal

-- its own slate, and the rows of its core
abbrev pub ghosts-run_named : goal.ghosts-run_named
ghosts-run_named g a = record { slate = a.slate.name; start = (live a.core).rows }

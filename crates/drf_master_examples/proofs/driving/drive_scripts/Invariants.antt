use Rattle.drf_rows.specs.Step.{opening}
use Rattle.drf_master_examples.proofs.driving.drive_scripts.Given as goal

-- its own slate, of an empty cluster
abbrev pub ghosts-drive_named : goal.ghosts-drive_named
ghosts-drive_named g a = record { slate = a.slate.name; start = opening }

use Rattle.drf_rows.specs.Step.{opening}
use Rattle.drf_master_examples.proofs.masters.run.Given as goal

-- its own slate, of an empty cluster
abbrev pub ghosts-run_named : goal.ghosts-run_named
ghosts-run_named g a = record { slate = a.slate.name; start = opening }

use Rattle.drf_rows.specs.Step.{opening}
use Rattle.drf_master_examples.proofs.desks.append_alone.Given as goal

-- its own slate, of an empty cluster
abbrev pub ghosts-open_and_use : goal.ghosts-open_and_use
ghosts-open_and_use g a = record { slate = a.slate.name; start = opening }

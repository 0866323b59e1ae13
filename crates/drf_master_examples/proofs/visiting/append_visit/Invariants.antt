use Rattle.drf_rows.specs.Step.{opening}
use Rattle.drf_master_examples.proofs.visiting.append_visit.Given as goal

-- its own slate, of an empty cluster
abbrev pub ghosts-visit_named : goal.ghosts-visit_named
ghosts-visit_named g a = record { slate = a.slate.name; start = opening }

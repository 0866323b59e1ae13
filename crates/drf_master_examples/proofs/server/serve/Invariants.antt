use Rattle.drf_rows.specs.Step.{opening}
use Rattle.drf_master_examples.proofs.server.serve.Given as goal

-- its own slate, of an empty cluster
abbrev pub ghosts-serve_named : goal.ghosts-serve_named
ghosts-serve_named g a = record { slate = a.slate.name; start = opening }

use Rattle.std.proofs.Common.{sym, ◌∙◌}
use Rattle.drf_drive.proofs.Releases.{begins-live}
use Rattle.drf_drive.proofs.run.run_scripts.Goals as goal

pub run_named-requires-clause-start : goal.run_named-requires-clause-start
run_named-requires-clause-start g c κs within =
    begins-live c.in_ok-slate.slate.name.limits c.args.core (c.requires.limits ∙ sym c.in_ok-slate.ensures.limits)

use Rattle.std.proofs.Common.{subst}
use Rattle.drf_rows.specs.Step.{live_rows}
use Rattle.drf_core.specs.Machine.{Engine, IsSafe}
use Rattle.drf_core.proofs.stepping.Safe.{safe_kept}
use Rattle.drf_core.proofs.allocator.Core.prove_safe.Goals as goal

pub returns : goal.returns
returns g c =
    subst (λ (m : Engine). IsSafe (live_rows m.rows)) c.self.view_is
    (safe_kept c.self.inside.limits c.self.inside.cluster.value.rows c.self.invariant.kept)

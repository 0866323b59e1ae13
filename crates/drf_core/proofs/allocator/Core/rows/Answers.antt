use Rattle.std.specs.Prelude.{◌≡◌}
use Rattle.std.proofs.Common.{subst, sym}
use Rattle.std.proofs.lemmas.Result.{IfOk-weaker}
use Rattle.drf_rows.specs.Step.{live_rows}
use Rattle.drf_core.specs.Machine.{Engine, IsSafe}
use Rattle.drf_core.proofs.stepping.Safe.{safe_kept}
use Rattle.drf_saved_laws.specs.SavedLaws.{IsSaveable}
use Rattle.drf_core.proofs.allocator.Core.rows.Goals as goal

pub returns-clause-safe : goal.returns-clause-safe
returns-clause-safe g c =
    IfOk-weaker _ (λ rows. rows ≡ live_rows c.self.inside.cluster.value.rows) IsSafe
    (λ rows is. subst IsSafe (sym is) (safe_kept c.self.inside.limits c.self.inside.cluster.value.rows c.self.invariant.kept))
    (rw c.deref.ensures at c.rows.ensures)

pub returns-clause-saveable : goal.returns-clause-saveable
returns-clause-saveable g c =
    IfOk-weaker _ (λ rows. rows ≡ live_rows c.self.inside.cluster.value.rows) (IsSaveable c.args.self.now.limits)
    (λ rows is. subst (λ (m : Engine). IsSaveable m.limits rows) c.self.view_is
    (subst (IsSaveable c.self.inside.limits) (sym is) c.self.invariant.saveable))
    (rw c.deref.ensures at c.rows.ensures)

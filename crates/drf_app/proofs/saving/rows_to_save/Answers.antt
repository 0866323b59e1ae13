use Rattle.std.proofs.Common.{sym, subst}
use Rattle.drf_saved_laws.specs.SavedLaws.{IsSaveable}
use Rattle.drf_saved_laws.proofs.theorems.Epochs.{epoch_saveable}
use Rattle.drf_app.proofs.saving.rows_to_save.Goals as goal

pub returns-clause-saveable : goal.returns-clause-saveable
returns-clause-saveable c =
    let limits = c.args.core.now.limits in
    subst (IsSaveable limits) (sym c.in_ok-begin_epoch.ensures.ok) (epoch_saveable limits c.in_ok-rows.rows c.in_ok-rows.ensures.saveable)

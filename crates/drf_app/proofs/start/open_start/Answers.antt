use Rattle.std.proofs.Common.{subst, ◌∙◌}
use Rattle.drf_core.specs.Machine.{IsOpened}
use Rattle.drf_rows.specs.LimitNumbers.{LimitNumbers}
use Rattle.drf_app.proofs.Started.{is_open}
use Rattle.drf_app.proofs.start.open_start.Goals as goal

pub returns-clause-ok : goal.returns-clause-ok
returns-clause-ok c =
    let core = c.in_ok-open_keyed.field-0 in
    is_open core (subst (λ (limits : LimitNumbers). IsOpened limits core) c.full.ensures c.in_ok-open_keyed.ensures)

pub returns-clause-limits : goal.returns-clause-limits
returns-clause-limits c = c.in_ok-open_keyed.ensures.limits ∙ c.full.ensures

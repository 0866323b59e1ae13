use Rattle.std.proofs.Common.{subst}
use Rattle.drf_gates.specs.quota.Allowance.{quota_under}
use Rattle.drf_rows.specs.declared.rows.Rows.{Rows}
use Rattle.drf_core.specs.cycle.Entitling.{IsQuotaOf}
use Rattle.drf_core.proofs.drafting.Cycle.{quota-borrowed}
use Rattle.drf_core.proofs.cycle.lend_consumption.Goals as goal

pub returns-clause-quota : goal.returns-clause-quota
returns-clause-quota c =
    subst (λ (rows : Rows). IsQuotaOf rows (quota_under rows.limits c.lend_consumption.result)) c.count_consumption.ensures.same
    (quota-borrowed c.count_consumption.new.self.rows c.lend_consumption.result c.count_consumption.new.self.counted
    c.lend_consumption.ensures.value c.lend_consumption.ensures.counted c.in_ok-count_consumption.ensures.counted)

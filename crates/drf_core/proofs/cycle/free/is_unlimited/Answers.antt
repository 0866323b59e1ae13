use Rattle.std.proofs.Common.{sym, subst, ◌∙◌}
use Rattle.std.specs.Option.{option_copied}
use Rattle.std.proofs.lemmas.Bool.{not-true}
use Rattle.drf_gates.specs.quota.Allowance.{IsAllowanceOf}
use Rattle.drf_core.specs.cycle.Entitling.{IsQuotaOf}
use Rattle.drf_core.proofs.drafting.Granted.{no_limits}
use Rattle.drf_core.proofs.cycle.free.is_unlimited.Goals as goal

pub returns-in-Some : goal.returns-in-Some
returns-in-Some c = λ reported rows counted.
    let its : IsAllowanceOf rows c.in-Some.quota.now = subst (λ o. IsQuotaOf rows (option_copied o)) c.in-Some.is counted in
    sym its.limits ∙ no_limits c.in-Some.quota.now.limits c.has_limits.result c.has_limits.ensures (not-true c.has_limits.result reported)

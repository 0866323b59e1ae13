use Rattle.std.proofs.Common.{◌∙◌, Some, sym, ap, subst}
use Rattle.std.specs.Option.{option_copied}
use Rattle.std.proofs.lemmas.Result.{IfOk-weaker}
use Rattle.drf_role.specs.Text.{Text}
use Rattle.drf_gates.specs.quota.Allowance.{used_at}
use Rattle.drf_explain.specs.Explained.{tightest}
use Rattle.drf_explain.specs.Gates.{IsQuotaOf}
use Rattle.drf_explain.proofs.Rooms.{limiting_some}
use Rattle.drf_explain.proofs.gates.limiting_role.Goals as goal

pub returns-in-Some-tightest : goal.returns-in-Some-tightest
returns-in-Some-tightest c =
    IfOk-weaker c.copy-in-Some-tightest.result _ _
    (λ limiting is. λ rows counted same.
    limiting_some rows c.in-Some.quota.now c.args.limits.now c.args.role.now c.args.part.now (Some c.in-Some-tightest.limit.now) limiting
    (subst (λ o. IsQuotaOf rows (option_copied o)) c.in-Some.is counted) same
    (sym (ap option_copied c.in-Some-tightest.is) ∙ c.tightest.ensures
    ∙ ap (λ (label : Text). tightest c.args.limits.now (used_at c.in-Some.quota.now.used) c.args.role.now label) c.worthy_scalar.ensures)
    is)
    c.copy-in-Some-tightest.ensures

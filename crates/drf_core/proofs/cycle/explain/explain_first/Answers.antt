use Rattle.std.proofs.Common.{◌≡◌, Some, None, ◌∙◌, subst}
use Rattle.drf_role.specs.Path.{Path}
use Rattle.drf_core.specs.cycle.Explaining.{IsOutcomeOf}
use Rattle.drf_core.proofs.cycle.explain.explain_first.Goals as goal

pub returns-in_default : goal.returns-in_default
returns-in_default g c = λ path rows a first gates counted is_free named.
    let nothing : None ≡ Some path = (rw c.in_default.is at c.first.ensures) ∙ first in
    absurd cc

pub returns : goal.returns
returns g c = λ path rows a first gates counted is_free named.
    let same : c.in-Some.client.now ≡ path = let e : Some c.in-Some.client.now ≡ Some path = (rw c.in-Some.is at c.first.ensures) ∙ first in cc in
    let reported : IsOutcomeOf rows a c.in-Some.client.now c.in_ok-finding.finding = c.in_ok-finding.ensures rows a gates counted is_free named in
    (c.in_ok-finding.finding, subst (λ (p : Path). IsOutcomeOf rows a p c.in_ok-finding.finding) same reported, c.in_ok-push.ensures.items)

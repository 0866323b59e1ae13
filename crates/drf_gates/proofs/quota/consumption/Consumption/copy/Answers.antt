use Rattle.std.proofs.Common.{List, ap, ◌∙◌, arith}
use Rattle.drf_rows.specs.Quota.{is_within}
use Rattle.drf_gates.specs.quota.Allowance.{Usage, used_where}
use Rattle.drf_gates.proofs.quota.Total.{exact_alike}
use Rattle.drf_gates.proofs.quota.consumption.Consumption.copy.Goals as goal

pub invariant_of-result : goal.invariant_of-result
invariant_of-result c =
    let old : List Usage = c.self.inside.used.entries in
    record {
      bounded = record {
        below = λ role label right. omega (arith, c.in_ok-used.ensures.same (is_within role) label, c.self.invariant.bounded.below role label right);
      };
      some = c.in_ok-used.ensures.some;
      exact = exact_alike old c.in_ok-used.used.entries c.copy_totals-totals.result.entries c.in_ok-used.ensures.same
          (c.copy_totals-totals.ensures old c.self.invariant.exact);
    }

pub returns : goal.returns
returns c = λ test label.
    c.in_ok-used.ensures.same test label ∙ ap (λ (us : List Usage). used_where test us label) c.self.view_is

use Rattle.std.proofs.Common.{◌≤◌, List, sym, subst}
use Rattle.drf_role.specs.Path.{same_path}
use Rattle.drf_bundle.specs.declared.resource.Resource.{Resource}
use Rattle.drf_rows.specs.Quota.{reserved_in}
use Rattle.drf_gates.specs.quota.Allowance.{used_by}
use Rattle.drf_gates.proofs.quota.consumption.Consumption.release_reserved.Goals as goal

pub release_each-requires-clause-fits : goal.release_each-requires-clause-fits
release_each-requires-clause-fits c = λ role label.
    subst (λ (rs : List Resource). reserved_in (same_path role) label rs ≤ used_by c.args.self.now role label)
    (sym c.entries.ensures.value) (c.requires role label)

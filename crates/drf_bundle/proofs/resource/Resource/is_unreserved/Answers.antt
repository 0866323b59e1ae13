use Rattle.std.specs.Cmp.{both_ways}
use Rattle.drf_role.specs.Role.{default_role}
use Rattle.drf_role.specs.PathLaws.{path_decides}
use Rattle.drf_bundle.specs.Bundle.{is_default}
use Rattle.drf_bundle.proofs.resource.Resource.is_unreserved.Goals as goal

pub returns : goal.returns
returns c =
    let role = c.args.self.now.role in
    both_ways c.is_default.result (is_default role)
    (λ yes. (path_decides role default_role).1 (c.is_default.ensures.0 yes)) (λ yes. c.is_default.ensures.1 ((path_decides role default_role).0 yes))

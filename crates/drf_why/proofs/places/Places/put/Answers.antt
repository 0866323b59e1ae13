use Rattle.std.proofs.Common.{Some, cond, ap, ◌∙◌}
use Rattle.drf_role.specs.Path.{Path, same_path}
use Rattle.drf_why.specs.Places.{place_in}
use Rattle.drf_why.proofs.places.Places.put.Goals as goal

pub returns : goal.returns
returns c = λ path.
    c.in_ok-insert.ensures.updates.0 path
    ∙ ap (λ (client : Path). cond (same_path client path) (Some c.args.place) (place_in c.args.self.now path)) c.in_ok-client.ensures

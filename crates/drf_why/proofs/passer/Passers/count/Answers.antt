use Rattle.std.proofs.Common.{map, ap, ◌∙◌}
use Rattle.drf_why.specs.Passers.{passer_of, with_passer}
use Rattle.drf_why.proofs.Passed.{passer_put}
use Rattle.drf_why.proofs.passer.Passers.count.Goals as goal

pub returns : goal.returns
returns c =
    ap (map passer_of) c.in_ok-count_in.ensures
    ∙ passer_put c.self.inside.by_client.entries c.args.client.now
    ∙ ap (λ passers. with_passer passers c.args.client.now) c.self.view_is

use Rattle.drf_sorter.specs.Fractions.{weighted}
use Rattle.drf_sorter.proofs.key.weighted_share.Goals as goal

pub returns : goal.returns
returns g c =
    let is = c.dominant_share.ensures in
    rw c.over.ensures (λ i. weighted (is.part i) (is.whole i) c.args.weight)

use Rattle.drf_bundle.proofs.PlaceLemmas.{named_at}
use Rattle.drf_bundle.proofs.quantities.Quantities.add_to_named.Goals as goal

pub returns-in-Some-clause-result : goal.returns-in-Some-clause-result
returns-in-Some-clause-result c =
    let found = c.in-Some.ensures.found in
    rw (named_at c.args.self.now c.args.label.now _ found) (c.add_at.ensures.result c.args.label.now found)

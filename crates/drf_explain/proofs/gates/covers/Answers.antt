use Rattle.std.proofs.lemmas.Bool.Decides.{same_from_decides}
use Rattle.drf_bundle.specs.Bundle.{covers}
use Rattle.drf_bundle.proofs.theorems.BundleLaws.{covers_exact}
use Rattle.drf_explain.proofs.gates.covers.Goals as goal

pub returns : goal.returns
returns c =
    let given = c.covers.ensures.given in
    same_from_decides c.covers.result (covers c.args.whole.now c.args.part.now) c.covers.ensures.covers
    (covers_exact c.args.whole.now c.args.part.now given.0 given.1)

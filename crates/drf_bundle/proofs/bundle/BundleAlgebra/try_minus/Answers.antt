use Rattle.std.proofs.Common.{sym, subst}
use Rattle.drf_amount.specs.Algebra.{IsRest}
use Rattle.drf_bundle.specs.Bundle.{IsBundle, join}
use Rattle.drf_bundle.proofs.theorems.BundleLaws.{is_rest, covers_exact}
use Rattle.drf_bundle.proofs.bundle.BundleAlgebra.try_minus.Goals as goal

pub returns-clause-rest : goal.returns-clause-rest
returns-clause-rest c =
    let whole = c.args.self.now in
    let part = c.args.part.now in
    let given = c.covers.ensures.given in
    let all = (covers_exact whole part given.0 given.1).1 (c.covers.ensures.covers.0 c.if-not-covers.false) in
    subst (IsRest IsBundle join whole part) (sym c.in_ok-rest.ensures) (is_rest whole part given.0 given.1 all)

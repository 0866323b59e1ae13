use Rattle.drf_bundle.proofs.theorems.RestLaws.{bundle-rest}
use Rattle.drf_bundle.proofs.theorems.UnitProofs.{covers_by_units, rest_by_units, rest_and_part}
use Rattle.drf_bundle.proofs.laws.bundle_rest_law.Goals as goal

pub returns : goal.returns
returns c = record { covers = covers_by_units; units = rest_by_units; bundle = bundle-rest; whole = rest_and_part }

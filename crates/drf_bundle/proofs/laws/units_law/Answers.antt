use Rattle.drf_bundle.specs.laws.BundleLaws.{known_by_units}
use Rattle.drf_bundle.proofs.laws.units_law.Goals as goal

pub returns : goal.returns
returns c = known_by_units

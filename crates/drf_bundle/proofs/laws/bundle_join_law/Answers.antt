use Rattle.drf_bundle.proofs.theorems.UnitProofs.{join_by_units, stocks_add}
use Rattle.drf_bundle.proofs.laws.bundle_join_law.Goals as goal

pub returns : goal.returns
returns c = record { units = join_by_units; stocks = stocks_add }

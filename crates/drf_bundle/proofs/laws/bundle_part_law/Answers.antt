use Rattle.drf_bundle.proofs.theorems.UnitProofs.{part_covered, clipped_covered, moved_bundle, moved_stocks}
use Rattle.drf_bundle.proofs.laws.bundle_part_law.Goals as goal

pub returns : goal.returns
returns c = record { part = part_covered; clipped = clipped_covered; moved = moved_bundle; stocks = moved_stocks }

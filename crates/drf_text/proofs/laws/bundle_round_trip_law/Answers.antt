use Rattle.drf_text.proofs.BundleText.{bundle_read}
use Rattle.drf_text.proofs.laws.bundle_round_trip_law.Goals as goal

pub returns : goal.returns
returns c = bundle_read

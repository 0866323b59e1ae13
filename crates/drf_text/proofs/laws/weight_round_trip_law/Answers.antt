use Rattle.drf_text.proofs.AmountText.{weight_read}
use Rattle.drf_text.proofs.laws.weight_round_trip_law.Goals as goal

pub returns : goal.returns
returns c = weight_read

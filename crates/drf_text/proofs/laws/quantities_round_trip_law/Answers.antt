use Rattle.drf_text.proofs.QuantityText.{quantities_read}
use Rattle.drf_text.proofs.laws.quantities_round_trip_law.Goals as goal

pub returns : goal.returns
returns c = quantities_read

use Rattle.drf_row_laws.proofs.ReservationLaws.{reserved_is_given_back, reserving_keeps_limits, moved_is_consumed}
use Rattle.drf_laws.proofs.limits.reservations_law.Goals as goal

pub returns : goal.returns
returns c = record {
  back = reserved_is_given_back;
  kept = reserving_keeps_limits;
  consumed = moved_is_consumed;
}

use Rattle.drf_row_laws.proofs.ReservationLaws.{changed_agent_keeps_all}
use Rattle.drf_laws.proofs.KeptLimitLaws.{changed_agent_is_consumed}
use Rattle.drf_laws.proofs.limits.set_agent_law.Goals as goal

pub returns : goal.returns
returns c = record {
  kept = changed_agent_keeps_all;
  consumed = changed_agent_is_consumed;
}

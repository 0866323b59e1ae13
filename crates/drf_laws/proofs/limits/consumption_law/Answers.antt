use Rattle.drf_laws.proofs.ConsumptionLaws.{roles_above_consume_more, rest_is_consumed_no_longer, consumption_is_small}
use Rattle.drf_laws.proofs.limits.consumption_law.Goals as goal

pub returns : goal.returns
returns c = record {
  above = roles_above_consume_more;
  rest = rest_is_consumed_no_longer;
  small = consumption_is_small;
}

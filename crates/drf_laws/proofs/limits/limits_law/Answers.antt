use Rattle.drf_row_laws.proofs.QuotaLaws.{grant_keeps_limits, cycle_keeps_limits, spent_limit_leaves_nothing, consumption_is_part_of_total}
use Rattle.drf_laws.proofs.limits.limits_law.Goals as goal

pub returns : goal.returns
returns c = record {
  kept = grant_keeps_limits;
  cycle = cycle_keeps_limits;
  spent = spent_limit_leaves_nothing;
  part = consumption_is_part_of_total;
}

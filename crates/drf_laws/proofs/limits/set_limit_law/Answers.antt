use Rattle.drf_row_laws.proofs.LimitLaws.{role_has_its_limit, others_keep_their_limit, limit_takes_nothing}
use Rattle.drf_laws.proofs.limits.set_limit_law.Goals as goal

pub returns : goal.returns
returns c = record {
  set = role_has_its_limit;
  others = others_keep_their_limit;
  nothing = limit_takes_nothing;
}

use Rattle.drf_laws.proofs.MovingLaws.{refused_would_pass, limits_refuse_nothing_else}
use Rattle.drf_laws.proofs.limits.limit_refusals_law.Goals as goal

pub returns : goal.returns
returns c = record {
  passed = refused_would_pass;
  nothing = limits_refuse_nothing_else;
}

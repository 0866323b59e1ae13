use Rattle.std.proofs.Common.{arith}
use Rattle.drf_laws.proofs.ConsumptionLaws.{consumption_is_small}
use Rattle.drf_show.proofs.text.push_limits.Goals as goal

pub limit_lines-requires : goal.limit_lines-requires
limit_lines-requires c = λ test label.
    omega (arith, consumption_is_small test c.args.rows.now label c.requires.consistent c.requires.agents)

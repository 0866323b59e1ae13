use Rattle.drf_core.proofs.drafting.Told.{explained-is}
use Rattle.drf_core.proofs.cycle.explain.explain.Goals as goal

pub returns : goal.returns
returns g c =
    explained-is c.args.tables.now.rows c.begin.new.tables.rows _ c.args.at c.in_ok-findings.findings.items c.explain_turns.new.findings.items
    c.in_ok-rows.ensures.timestamp c.in_ok-rows.ensures.rows c.in_ok-findings.ensures c.in_ok-explain_turns.ensures

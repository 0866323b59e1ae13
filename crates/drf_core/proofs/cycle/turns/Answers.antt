use Rattle.std.proofs.Common.{arith}
use Rattle.drf_tables.specs.cycle.Drafts.{with_offers}
use Rattle.drf_tables.proofs.DraftLaws.{agents-with_offers}
use Rattle.drf_core.proofs.drafting.Cycle.{turns-next}
use Rattle.drf_core.proofs.cycle.turns.Goals as goal

pub loop-place-preserved : goal.loop-place-preserved
loop-place-preserved g c = record {
  cycle = c.in_ok-turn.ensures.cycle;
  turned = turns-next c.args.tables.now.rows (with_offers c.args.tables.now.rows c.loop-place.drafts.offers.items)
      (with_offers c.args.tables.now.rows c.turn.new.drafts.offers.items) c.loop-place.place (omega (arith, c.loop-place-test.true, c.agent_count-place-end.ensures))
      (agents-with_offers c.args.tables.now.rows c.loop-place.drafts.offers.items) c.in_ok-turn.ensures.turn c.loop-place.invariant.turned;
  work = λ counted. omega (arith, c.loop-place.invariant.work counted, c.in_ok-turn.ensures.work counted);
  made = omega (arith, c.loop-place.invariant.made, c.turn.ensures.made);
}

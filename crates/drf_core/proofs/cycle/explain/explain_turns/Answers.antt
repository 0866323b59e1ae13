use Rattle.std.proofs.Common.{◌++◌, arith, append-nil, sym, ap, ◌∙◌}
use Rattle.std.proofs.lemmas.List.{drop_all}
use Rattle.drf_explain.specs.Explained.{reported_of_agents}
use Rattle.drf_tables.specs.cycle.Drafts.{with_offers}
use Rattle.drf_tables.proofs.DraftLaws.{agents-with_offers}
use Rattle.drf_core.proofs.drafting.Told.{reported-next}
use Rattle.drf_core.proofs.cycle.explain.explain_turns.Goals as goal

pub loop-place-preserved : goal.loop-place-preserved
loop-place-preserved g c = record {
  cycle = c.in_ok-explain_turn.ensures.cycle;
  reported = reported-next c.args.tables.now.rows (with_offers c.args.tables.now.rows c.loop-place.drafts.offers.items)
      (with_offers c.args.tables.now.rows c.explain_turn.new.drafts.offers.items) c.loop-place.place _ _ _
      (omega (arith, c.loop-place-test.true, c.agent_count-place-end.ensures))
      (agents-with_offers c.args.tables.now.rows c.loop-place.drafts.offers.items) c.in_ok-explain_turn.ensures.turn c.in_ok-explain_turn.ensures.reported
      c.loop-place.invariant.reported;
}

pub returns : goal.returns
returns g c =
    let now = with_offers c.args.tables.now.rows c.loop-place.drafts.offers.items in
    sym (append-nil c.loop-place.findings.items)
    ∙ sym (ap (λ as'. c.loop-place.findings.items ++ reported_of_agents now as')
    (drop_all c.loop-place.place c.args.tables.now.rows.agents (omega (arith, c.loop-place-test.false, c.agent_count-place-end.ensures))))
    ∙ c.loop-place.invariant.reported

use Rattle.std.proofs.Common.{◌++◌, map, sym, ap, ◌∙◌}
use Rattle.drf_rows.specs.Holdings.{holding_of_offer, holding_of_task, parts_on}
use Rattle.drf_audit.proofs.Parts.{parts_on-append}
use Rattle.drf_audit.proofs.held.Held.of.Goals as goal

pub returns : goal.returns
returns c = λ agent.
    c.in_ok-add_tasks.ensures agent
    ∙ (λ i. (c.in_ok-add_offers.ensures agent ∙ ap (λ ps. ps ++ parts_on agent (map holding_of_offer c.as_slice.result.now)) (c.new-held.ensures agent)) i
    ++ parts_on agent (map holding_of_task c.as_slice-2.result.now))
    ∙ (λ i. parts_on agent (map holding_of_offer (c.as_slice.ensures i)) ++ parts_on agent (map holding_of_task (c.as_slice-2.ensures i)))
    ∙ sym (parts_on-append agent (map holding_of_offer c.args.rows.now.offers) (map holding_of_task c.args.rows.now.tasks))

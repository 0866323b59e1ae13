use Rattle.std.proofs.Common.{List, [], ◌∷◌, ◌++◌, map, take, sym, ap, ◌∙◌}
use Rattle.std.proofs.lemmas.List.{map-append, take_all}
use Rattle.drf_tables.proofs.tables.Names.{filled, AgentRow, agent_row, Agent}
use Rattle.drf_hash.proofs.FreeSlotLaws.{filled-more}
use Rattle.drf_tables.proofs.registry.Slots.{Slots}
use Rattle.drf_tables.proofs.tables.listing.agent_rows.Goals as goal

pub loop-slot-preserved : goal.loop-slot-preserved
loop-slot-preserved c =
    let slots : Slots Agent = c.slots-slot-items.result.now in
    let i = c.loop-slot.slot-index in
    let slot = c.slot-item.result in
    c.in_ok-push_row.ensures
    ∙ ap (λ (rs : List AgentRow). rs ++ map agent_row (filled (slot ∷ []))) c.loop-slot.invariant
    ∙ sym (map-append agent_row (filled (take i slots)) (filled (slot ∷ [])))
    ∙ ap (map agent_row) (sym (filled-more slots i slot c.loop-slot-test.true c.slot-item.is))

pub returns : goal.returns
returns c =
    c.from_vec.ensures ∙ c.loop-slot.invariant
    ∙ ap (λ (ss : Slots Agent). map agent_row (filled ss)) (take_all c.loop-slot.slot-index c.slots-slot-items.result.now c.loop-slot-test.false)
    ∙ ap (map agent_row) c.slots-slot-items.ensures.entries

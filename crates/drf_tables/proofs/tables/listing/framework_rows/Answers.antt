use Rattle.std.proofs.Common.{List, [], ◌∷◌, ◌++◌, take, sym, ap, ◌∙◌}
use Rattle.std.specs.Global.{Vec}
use Rattle.std.proofs.lemmas.List.{map-append, take_all}
use Rattle.drf_tables.proofs.tables.Names.{filled, framework_row, framework_rows, ClientRow, FrameworkRow}
use Rattle.drf_hash.proofs.FreeSlotLaws.{filled-more}
use Rattle.drf_tables.proofs.registry.Slots.{Slots}
use Rattle.drf_tables.proofs.tables.listing.framework_rows.Goals as goal

pub loop-slot-preserved : goal.loop-slot-preserved
loop-slot-preserved c =
    let slots : Slots (Vec ClientRow) = c.slots-slot-items.result.now in
    let i = c.loop-slot.slot-index in
    let slot = c.slot-item.result in
    c.in_ok-push_framework.ensures
    ∙ ap (λ (rs : List FrameworkRow). rs ++ framework_rows (filled (slot ∷ []))) c.loop-slot.invariant
    ∙ sym (map-append framework_row (filled (take i slots)) (filled (slot ∷ [])))
    ∙ ap framework_rows (sym (filled-more slots i slot c.loop-slot-test.true c.slot-item.is))

pub returns : goal.returns
returns c =
    c.from_vec.ensures ∙ c.loop-slot.invariant
    ∙ ap (λ (ss : Slots (Vec ClientRow)). framework_rows (filled ss)) (take_all c.loop-slot.slot-index c.slots-slot-items.result.now c.loop-slot-test.false)
    ∙ ap framework_rows c.slots-slot-items.ensures.entries

use Rattle.std.proofs.Common.{List, [], ◌∷◌, ◌++◌, refl, sym, ap, ◌∙◌, subst, take, take_all}
use Rattle.std.specs.Global.{Vec}
use Rattle.std.specs.Cmp.Lexicographic.{bytes_decides}
use Rattle.std.specs.List.{IsDistinct, list_any}
use Rattle.std.specs.Map.{keys_of}
use Rattle.std.proofs.lemmas.List.{map-append}
use Rattle.drf_bundle.proofs.ListLaws.{list_any-map}
use Rattle.drf_hash.proofs.SlotLaws.{new_to_come}
use Rattle.drf_tables.proofs.tables.Names.{filled, same_text, name_of, framework_row, framework_rows, ClientRow, FrameworkRow}
use Rattle.drf_tables.proofs.registry.Entries.{known-lookup}
use Rattle.drf_hash.proofs.FreeSlotLaws.{filled-more}
use Rattle.drf_tables.proofs.registry.Slots.{Entry, Slots, read_slot}
use Rattle.drf_tables.proofs.tables.copied.copy_frameworks.Goals as goal

pub copy_framework-requires : goal.copy_framework-requires
copy_framework-requires c = λ e is.
    let slots : Slots (Vec ClientRow) = c.slots-slot-items.result.now in
    let i = c.loop-slot.slot-index in
    let there = read_slot slots i c.slot-item.result e c.loop-slot-test.true c.slot-item.is is in
    let apart = subst (λ (es : List (Entry (Vec ClientRow))). IsDistinct same_text (keys_of es)) (sym c.slots-slot-items.ensures.entries) c.slots-slot-items.ensures.apart in
    sym (known-lookup (λ f. f.name) framework_row e.0 c.loop-slot.copy.entries (λ e. refl))
    ∙ ap (list_any (λ (f : FrameworkRow). same_text f.name e.0)) c.loop-slot.invariant
    ∙ list_any-map (λ (f : FrameworkRow). same_text f.name e.0) framework_row (filled (take i slots))
    ∙ new_to_come same_text bytes_decides name_of slots i e apart there

pub loop-slot-preserved : goal.loop-slot-preserved
loop-slot-preserved c =
    let slots : Slots (Vec ClientRow) = c.slots-slot-items.result.now in
    let i = c.loop-slot.slot-index in
    let slot = c.slot-item.result in
    c.in_ok-copy_framework.ensures
    ∙ ap (λ (fs : List FrameworkRow). fs ++ framework_rows (filled (slot ∷ []))) c.loop-slot.invariant
    ∙ sym (map-append framework_row (filled (take i slots)) (filled (slot ∷ [])))
    ∙ ap framework_rows (sym (filled-more slots i slot c.loop-slot-test.true c.slot-item.is))

pub returns : goal.returns
returns c =
    c.loop-slot.invariant
    ∙ ap (λ (ss : Slots (Vec ClientRow)). framework_rows (filled ss)) (take_all c.loop-slot.slot-index c.slots-slot-items.result.now c.loop-slot-test.false)
    ∙ ap framework_rows c.slots-slot-items.ensures.entries

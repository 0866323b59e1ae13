use Rattle.std.proofs.Common.{List, [], ◌∷◌, ◌++◌, is_some, sym, ap, ◌∙◌, subst, take, take_all}
use Rattle.std.specs.Cmp.Lexicographic.{bytes_decides}
use Rattle.std.specs.List.{IsDistinct}
use Rattle.std.specs.Map.{keys_of, lookup}
use Rattle.drf_hash.proofs.SlotLaws.{new_to_come}
use Rattle.drf_tables.proofs.tables.Names.{filled, same_text, name_of, Agent}
use Rattle.drf_tables.proofs.registry.Entries.{any-lookup}
use Rattle.drf_hash.proofs.FreeSlotLaws.{filled-more}
use Rattle.drf_tables.proofs.registry.Slots.{Entry, Slots, read_slot}
use Rattle.drf_tables.proofs.tables.copied.copy_agents.Goals as goal

pub copy_slot-requires : goal.copy_slot-requires
copy_slot-requires c = λ e is.
    let slots : Slots Agent = c.slots-slot-items.result.now in
    let i = c.loop-slot.slot-index in
    let there = read_slot slots i c.slot-item.result e c.loop-slot-test.true c.slot-item.is is in
    let apart = subst (λ (es : List (Entry Agent)). IsDistinct same_text (keys_of es)) (sym c.slots-slot-items.ensures.entries) c.slots-slot-items.ensures.apart in
    ap (λ (es : List (Entry Agent)). is_some (lookup (same_text e.0) es)) c.loop-slot.invariant
    ∙ sym (any-lookup e.0 (filled (take i slots))) ∙ new_to_come same_text bytes_decides name_of slots i e apart there

pub loop-slot-preserved : goal.loop-slot-preserved
loop-slot-preserved c =
    let slots : Slots Agent = c.slots-slot-items.result.now in
    let i = c.loop-slot.slot-index in
    let slot = c.slot-item.result in
    c.in_ok-copy_slot.ensures
    ∙ ap (λ (es : List (Entry Agent)). es ++ filled (slot ∷ [])) c.loop-slot.invariant
    ∙ sym (filled-more slots i slot c.loop-slot-test.true c.slot-item.is)

pub returns : goal.returns
returns c =
    c.loop-slot.invariant
    ∙ ap (λ (ss : Slots Agent). filled ss) (take_all c.loop-slot.slot-index c.slots-slot-items.result.now c.loop-slot-test.false)
    ∙ c.slots-slot-items.ensures.entries

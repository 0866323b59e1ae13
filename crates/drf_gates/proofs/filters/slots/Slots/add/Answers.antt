use Rattle.std.proofs.Common.{List, [], ◌∷◌, ◌++◌, Option, Some, ap, refl, ◌∙◌, arith}
use Rattle.drf_rows.specs.declared.rows.FilterRow.{FilterRow}
use Rattle.drf_gates.specs.declared.filters.index.Key.TheVariants.{Client, ClientAndAgent}
use Rattle.drf_gates.proofs.filters.FreeSlots.{filled-push, live-push}
use Rattle.drf_hash.proofs.SlotLaws.{filled-short}
use Rattle.drf_gates.proofs.filters.Held.{indexed-push, slots-room}
use Rattle.drf_gates.proofs.filters.slots.Slots.add.Goals as goal

pub overflow_add-self : goal.overflow_add-self
overflow_add-self c =
    let s = c.close_free_slots_if_full.new.self in
    omega (arith, c.close_free_slots_if_full.ensures.slots.live, filled-short s.rows.items, s.rows.ok.0, s.rows.ok.1, s.rows.small)

pub returns-clause-slots : goal.returns-clause-slots
returns-clause-slots c =
    let s = c.close_free_slots_if_full.new.self in
    let row = c.args.row in
    let slots = c.close_free_slots_if_full.ensures.slots in
    let more = c.push_reserved.ensures.items ∙ ap (λ (rows : List (Option FilterRow)). rows ++ Some row ∷ []) c.reserve.ensures.items in
    record {
      pairs = indexed-push ClientAndAgent s.rows.items c.push_reserved.new.self.items row c.make_room.new.self c.push.new.self more
          (c.make_room.ensures.indexed ClientAndAgent s.rows.items slots.pairs) c.in_ok-make_room.ensures.room c.push.ensures.chained c.push.ensures.hashes
          c.push.ensures.heads c.push.ensures.start;
      clients = indexed-push Client s.rows.items c.push_reserved.new.self.items row c.make_room-2.new.self c.push-2.new.self more
          (c.make_room-2.ensures.indexed Client s.rows.items slots.clients) c.in_ok-make_room-2.ensures.room c.push-2.ensures.chained c.push-2.ensures.hashes
          c.push-2.ensures.heads c.push-2.ensures.start;
      live = live-push s.rows.items c.push_reserved.new.self.items row s.live more slots.live;
    }

pub returns-clause-ok : goal.returns-clause-ok
returns-clause-ok c =
    let s = c.close_free_slots_if_full.new.self in
    let row = c.args.row in
    filled-push s.rows.items c.push_reserved.new.self.items row
    (c.push_reserved.ensures.items ∙ ap (λ (rows : List (Option FilterRow)). rows ++ Some row ∷ []) c.reserve.ensures.items)
    ∙ ap (λ (fs : List FilterRow). fs ++ row ∷ []) c.close_free_slots_if_full.ensures.same

pub returns-in_err-make_room-clause-slots : goal.returns-in_err-make_room-clause-slots
returns-in_err-make_room-clause-slots c =
    slots-room c.close_free_slots_if_full.new.self _ c.reserve.ensures.items c.close_free_slots_if_full.ensures.slots c.make_room.ensures.indexed (λ key rows is. is) refl

pub returns-in_err-make_room-2-clause-slots : goal.returns-in_err-make_room-2-clause-slots
returns-in_err-make_room-2-clause-slots c =
    slots-room c.close_free_slots_if_full.new.self _ c.reserve.ensures.items c.close_free_slots_if_full.ensures.slots c.make_room.ensures.indexed c.make_room-2.ensures.indexed refl

pub push-requires-clause-chained : goal.push-requires-clause-chained
push-requires-clause-chained c =
    (c.make_room.ensures.indexed ClientAndAgent c.close_free_slots_if_full.new.self.rows.items c.close_free_slots_if_full.ensures.slots.pairs).tidy

pub push-requires-2-clause-chained : goal.push-requires-2-clause-chained
push-requires-2-clause-chained c =
    (c.make_room-2.ensures.indexed Client c.close_free_slots_if_full.new.self.rows.items c.close_free_slots_if_full.ensures.slots.clients).tidy

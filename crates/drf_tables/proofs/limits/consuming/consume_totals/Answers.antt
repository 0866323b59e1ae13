use Rattle.std.proofs.Common.{◌≡◌, ◌+◌, List, drop, map, ap, arith}
use Rattle.std.proofs.lemmas.List.{drop_all}
use Rattle.drf_tables.proofs.tables.Names.{filled, used_where, reserved_for, agent_row, Agent}
use Rattle.drf_tables.proofs.registry.Slots.{Entry, Slots}
use Rattle.drf_tables.proofs.registry.Changes.{reserved-next}
use Rattle.drf_tables.proofs.limits.consuming.consume_totals.Goals as goal

pub loop-slot-init : goal.loop-slot-init
loop-slot-init c = λ test label.
    ap (λ (es : List (Entry Agent)). used_where test c.args.consumption.now label + reserved_for test (map agent_row es) label) c.slots-slot-items.ensures.entries

pub consume_slot-requires : goal.consume_slot-requires
consume_slot-requires c = λ test label.
    let next = reserved-next c.slots-slot-items.result.now c.loop-slot.slot-index c.slot-item.result test label c.loop-slot-test.true c.slot-item.is in
    let before = c.loop-slot.invariant test label in
    let fits = c.requires test label in
    omega (arith, next, before, fits)

pub loop-slot-preserved : goal.loop-slot-preserved
loop-slot-preserved c = λ test label.
    let next = reserved-next c.slots-slot-items.result.now c.loop-slot.slot-index c.slot-item.result test label c.loop-slot-test.true c.slot-item.is in
    let before = c.loop-slot.invariant test label in
    let more = c.in_ok-consume_slot.ensures test label in
    omega (arith, next, before, more)

pub returns : goal.returns
returns c = λ test label.
    let end = drop_all c.loop-slot.slot-index c.slots-slot-items.result.now c.loop-slot-test.false in
    let none : reserved_for test (map agent_row (filled (drop c.loop-slot.slot-index c.slots-slot-items.result.now))) label ≡ 0 =
    ap (λ (ss : Slots Agent). reserved_for test (map agent_row (filled ss)) label) end in
    let before = c.loop-slot.invariant test label in
    omega (arith, none, before)

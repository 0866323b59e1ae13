use Rattle.std.proofs.Common.{List, map, ap, subst, arith}
use Rattle.drf_tables.proofs.tables.Names.{holding_of_offer, holding_of_task, held_unreserved, reserved_for, OfferRow, IsRaisedBy, Usage, used_where, agent_row}
use Rattle.drf_rows.specs.declared.rows.TaskRow.{TaskRow}
use Rattle.drf_tables.proofs.reservations.Moved.{consumed_fits, counted-all}
use Rattle.drf_tables.proofs.tables.Tables.count_consumption.Goals as goal

pub consume_offers-requires : goal.consume_offers-requires
consume_offers-requires c = λ test label.
    let t = c.self.inside in
    omega (
      arith,
      ap (λ (us : List Usage). used_where test us label) c.new-consumption.ensures,
      ap (λ (os : List OfferRow). held_unreserved test (map holding_of_offer os) label) c.offers.ensures,
      consumed_fits t c.self.invariant.kept test label,
    )

pub consume_tasks-requires : goal.consume_tasks-requires
consume_tasks-requires c = λ test label.
    let t = c.self.inside in
    let none : List Usage = c.new-consumption.result in
    let one : List Usage = c.consume_offers.new.consumption in
    let first : IsRaisedBy none one (λ test label. held_unreserved test (map holding_of_offer t.holdings.offers) label) =
    subst (λ (os : List OfferRow). IsRaisedBy none one (λ test label. held_unreserved test (map holding_of_offer os) label)) c.offers.ensures
    c.in_ok-consume_offers.ensures in
    omega (
      arith,
      ap (λ (us : List Usage). used_where test us label) c.new-consumption.ensures,
      first test label,
      ap (λ (ts : List TaskRow). held_unreserved test (map holding_of_task ts) label) c.tasks.ensures,
      consumed_fits t c.self.invariant.kept test label,
    )

pub consume_totals-requires : goal.consume_totals-requires
consume_totals-requires c = λ test label.
    let t = c.self.inside in
    let none : List Usage = c.new-consumption.result in
    let one : List Usage = c.consume_offers.new.consumption in
    let first : IsRaisedBy none one (λ test label. held_unreserved test (map holding_of_offer t.holdings.offers) label) =
    subst (λ (os : List OfferRow). IsRaisedBy none one (λ test label. held_unreserved test (map holding_of_offer os) label)) c.offers.ensures
    c.in_ok-consume_offers.ensures in
    let two : List Usage = c.consume_tasks.new.consumption in
    let second : IsRaisedBy one two (λ test label. held_unreserved test (map holding_of_task t.holdings.tasks) label) =
    subst (λ (ts : List TaskRow). IsRaisedBy one two (λ test label. held_unreserved test (map holding_of_task ts) label)) c.tasks.ensures
    c.in_ok-consume_tasks.ensures in
    omega (
      arith,
      ap (λ (us : List Usage). used_where test us label) c.new-consumption.ensures,
      first test label,
      second test label,
      consumed_fits t c.self.invariant.kept test label,
    )

pub invariant_of-self : goal.invariant_of-self
invariant_of-self c =
    let t = c.self.inside in
    let none : List Usage = c.new-consumption.result in
    let one : List Usage = c.consume_offers.new.consumption in
    let two : List Usage = c.consume_tasks.new.consumption in
    let three : List Usage = c.consume_totals.new.consumption in
    let first : IsRaisedBy none one (λ test label. held_unreserved test (map holding_of_offer t.holdings.offers) label) =
    subst (λ (os : List OfferRow). IsRaisedBy none one (λ test label. held_unreserved test (map holding_of_offer os) label)) c.offers.ensures
    c.in_ok-consume_offers.ensures in
    let second : IsRaisedBy one two (λ test label. held_unreserved test (map holding_of_task t.holdings.tasks) label) =
    subst (λ (ts : List TaskRow). IsRaisedBy one two (λ test label. held_unreserved test (map holding_of_task ts) label)) c.tasks.ensures
    c.in_ok-consume_tasks.ensures in
    let third : IsRaisedBy two three (λ test label. reserved_for test (map agent_row t.agents.entries) label) =
    c.in_ok-consume_totals.ensures in
    record {
      kept = c.self.invariant.kept;
      consumed = record { each = counted-all t c.self.invariant.kept none one two three c.new-consumption.ensures first second third };
    }

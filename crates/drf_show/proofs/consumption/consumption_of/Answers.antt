use Rattle.std.proofs.Common.{map, ap, arith}
use Rattle.drf_rows.specs.Holdings.{holding_of_offer, holding_of_task}
use Rattle.drf_rows.specs.Quota.{held_unreserved, reserved_for}
use Rattle.drf_gates.specs.quota.Allowance.{used_where}
use Rattle.drf_show.proofs.Counting.{consumption_parts}
use Rattle.drf_show.proofs.consumption.consumption_of.Goals as goal

pub consume_offers-requires : goal.consume_offers-requires
consume_offers-requires c = λ test label. omega (
  arith,
  c.requires test label,
  consumption_parts c.args.rows.now test label,
  ap (λ used. used_where test used label) c.in_ok-consumption.ensures,
  ap (λ os. held_unreserved test (map holding_of_offer os) label) c.as_slice-2.ensures,
)

pub consume_tasks-requires : goal.consume_tasks-requires
consume_tasks-requires c = λ test label. omega (
  arith,
  c.requires test label,
  consumption_parts c.args.rows.now test label,
  ap (λ used. used_where test used label) c.in_ok-consumption.ensures,
  ap (λ os. held_unreserved test (map holding_of_offer os) label) c.as_slice-2.ensures,
  c.in_ok-consume_offers.ensures test label,
  ap (λ ts. held_unreserved test (map holding_of_task ts) label) c.as_slice-3.ensures,
)

pub consume_agents-requires : goal.consume_agents-requires
consume_agents-requires c = λ test label. omega (
  arith,
  c.requires test label,
  consumption_parts c.args.rows.now test label,
  ap (λ used. used_where test used label) c.in_ok-consumption.ensures,
  ap (λ os. held_unreserved test (map holding_of_offer os) label) c.as_slice-2.ensures,
  c.in_ok-consume_offers.ensures test label,
  ap (λ ts. held_unreserved test (map holding_of_task ts) label) c.as_slice-3.ensures,
  c.in_ok-consume_tasks.ensures test label,
  ap (λ as'. reserved_for test as' label) c.as_slice-4.ensures,
)

pub returns : goal.returns
returns c = λ test label. omega (
  arith,
  consumption_parts c.args.rows.now test label,
  ap (λ used. used_where test used label) c.in_ok-consumption.ensures,
  ap (λ os. held_unreserved test (map holding_of_offer os) label) c.as_slice-2.ensures,
  c.in_ok-consume_offers.ensures test label,
  ap (λ ts. held_unreserved test (map holding_of_task ts) label) c.as_slice-3.ensures,
  c.in_ok-consume_tasks.ensures test label,
  ap (λ as'. reserved_for test as' label) c.as_slice-4.ensures,
  c.in_ok-consume_agents.ensures test label,
)

-- Definitions of other crates that the proofs of this crate use, re-exported from one place.
pub use Rattle.drf_bundle.specs.Bundle.{IsBundle, Key, covers, is_default, merged, part_for, quantities_of, refusal, rest, units, units_where}
pub use Rattle.drf_bundle.proofs.ListLaws.{each_append, each_at, each_filter, each_find, each_from, each_from_both, each_map, length-filter_le, none_has, sum_by-map}
pub use Rattle.drf_bundle.specs.Quantities.{amount_of, plus}
pub use Rattle.drf_bundle.specs.declared.quantities.Entry.{Entry}
pub use Rattle.drf_bundle.specs.declared.resource.Resource.{Resource}
pub use Rattle.drf_hash.specs.Slots.{IsRegistry, filled, slot_of}
pub use Rattle.drf_gates.specs.quota.Allowance.{Allowance, IsAllowanceOf, IsConsumptionOf, IsRaisedBy, Usage, quota_under, used_by, used_where}
pub use Rattle.drf_role.specs.Path.{Path, same_path}
pub use Rattle.drf_role.specs.Text.{Text, same_text}
pub use Rattle.drf_row_laws.proofs.ConsistentLaws.{bundles-consistent, same_text-swap}
pub use Rattle.drf_rows.specs.Client.{Client}
pub use Rattle.drf_rows.specs.Consistent.{AreAgents, IsAgent, IsConsistent, IsCovered, IsFilter, IsFramework, IsHeld, are_distinct, are_distinct_roles, are_distinct_tasks, are_rising, offers_counted}
pub use Rattle.drf_rows.specs.Cycle.{at_timestamp, count_offer, counted}
pub use Rattle.drf_rows.specs.Held.{client_of, clients_of, cluster_total, is_registered}
pub use Rattle.drf_rows.specs.Holdings.{AreBundles, Holding, holdings_of, holding_of_offer, holding_of_task, parts_on}
pub use Rattle.drf_rows.specs.Members.{active_at, agent_removed, framework_removed, has_agent, has_framework, revived, suppressed_at, suppressed_in, with_activity, with_suppression}
pub use Rattle.drf_rows.specs.Offers.{CanStart, filter_of, filtered_until, filters_all, filters_rest, filters_with, is_empty, left_of_offer, offer_accepted, offer_at, task_of}
pub use Rattle.drf_rows.specs.Quota.{admits, admits_under, consumption, consumption_where, has_limit, held_unreserved, limit_of, limits_with, reserved_for, reserved_in, reserves, unreserved_in}
pub use Rattle.drf_rows.specs.Totals.{CanExchange, agent_at, exchanged, total_at, with_other_total, with_total}
pub use Rattle.drf_rows.specs.declared.rows.AgentRow.{AgentRow}
pub use Rattle.drf_rows.specs.declared.rows.ClientRow.{ClientRow}
pub use Rattle.drf_rows.specs.declared.rows.FrameworkRow.{FrameworkRow}
pub use Rattle.drf_rows.specs.declared.rows.OfferRow.{OfferRow}
pub use Rattle.drf_rows.specs.declared.rows.Rows.{Rows}
pub use Rattle.drf_tables.specs.Inside.{AreDerived, IsKnown, IsWhole, agent_row, framework_row, framework_rows, frees_in, is_settled, known_after, rows_in}
pub use Rattle.drf_tables.specs.Stored.{Stored}
pub use Rattle.drf_tables.specs.cycle.Counting.{CanCount, CanCountAll, count_clients, counting, counting_all, first_number}
pub use Rattle.drf_tables.specs.declared.tables.Agent.{Agent}
pub use Rattle.drf_tables.specs.declared.tables.Tables.TheInside.{Inside}
pub use Rattle.drf_tables.specs.limits.Recounting.{Amounts, CountsAll, IsRaisedIf, reserved_at}
pub use Rattle.drf_tables.specs.registry.Changing.{CanExchangeAt, CanExchangeOn, CanHaveTotal, HasOther, are_settled, changed, other_free, with_active, with_each, with_exchanged, with_held, with_other}
pub use Rattle.drf_tables.specs.registry.Registered.{IsRanked, Registered, name_of, with_free_at}
pub use Rattle.indexmap.specs.IndexMap.{insert_entry, set_value_at}

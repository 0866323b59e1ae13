use Rattle.std.proofs.Common.{length, refl, ap, ◌∙◌}
use Rattle.std.proofs.lemmas.Result.{on_ok_weaker}
use Rattle.drf_rows.specs.Held.{clients_in}
use Rattle.drf_ask.proofs.Tables.{tables_added}
use Rattle.drf_ask.proofs.table.push_tables.Goals as goal

pub returns : goal.returns
returns c =
    on_ok_weaker c.put.result (λ end.
    tables_added c.args.limits.now c.args.rows.now
    c.args.text.now.items
    c.put_table.new.text.items
    c.put_table-2.new.text.items
    c.put_table-3.new.text.items
    c.put_table-4.new.text.items
    c.put_table-5.new.text.items
    c.put_table-6.new.text.items
    c.put_table-7.new.text.items
    c.put_table-8.new.text.items
    c.put.new.text.items
    c.len-agents.result c.count_clients-clients.result c.args.rows.now.events c.len-filters.result c.len-frameworks.result c.len-role_limits.result c.args.scalar_names c.len-weights.result
    c.agents.result c.clients.result c.events.result c.filters.result c.frameworks.result c.limits.result c.scalar_names.result c.weights.result
    c.in_ok-put_table.ensures
    c.in_ok-put_table-2.ensures
    c.in_ok-put_table-3.ensures
    c.in_ok-put_table-4.ensures
    c.in_ok-put_table-5.ensures
    c.in_ok-put_table-6.ensures
    c.in_ok-put_table-7.ensures
    c.in_ok-put_table-8.ensures end
    c.len-agents.ensures (c.count_clients-clients.ensures ∙ ap (λ fs. length (clients_in fs)) c.as_slice.ensures) refl c.len-filters.ensures c.len-frameworks.ensures c.len-role_limits.ensures c.requires.names c.len-weights.ensures
    c.agents.ensures.value c.clients.ensures.value c.events.ensures.value c.filters.ensures.value c.frameworks.ensures.value c.limits.ensures.value c.scalar_names.ensures.value c.weights.ensures.value) c.put.ensures

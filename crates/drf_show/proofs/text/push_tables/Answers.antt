use Rattle.std.proofs.Common.{◌≡◌, ℕ, List, ◌++◌, map, ap, ◌∙◌}
use Rattle.std.proofs.lemmas.Result.{on_ok_weaker}
use Rattle.drf_rows.specs.Report.{report_of}
use Rattle.drf_rows.specs.declared.report.Report.{Report}
use Rattle.drf_show.specs.ShownText.{ShownTable, agent_table, behind, client_table, count_table, filter_table, head_table, later_tables, limit_table, node_heads, node_shown, offer_heads, offer_shown, table_in, task_heads, task_shown, weight_heads, weight_shown}
use Rattle.drf_show.proofs.Shows.{all_behind}
use Rattle.drf_show.proofs.text.push_tables.Goals as goal

pub returns : goal.returns
returns g c =
    let form = c.args.form in
    let rows = c.args.rows.now in
    let limits = c.args.limits.now in
    let start = c.args.text.now.items in
    let add : List ℕ → ShownTable → List ℕ = λ text table. text ++ behind form table in
    let nodes : c.as_slice.result.now ≡ (report_of rows).nodes = c.as_slice.ensures ∙ ap (λ (r : Report). r.nodes) c.requires.report in
    let agents = c.in_ok-push_agents.ensures ∙ ap (λ text. add text (agent_table rows)) c.in_ok-push_head.ensures in
    let clients = c.in_ok-push_clients.ensures ∙ ap (λ text. add text (client_table rows)) agents in
    let reported = c.in_ok-push_table.ensures
    ∙ (λ i. add (clients i) (record { heads = node_heads; rows = map node_shown (nodes i) })) in
    let weights = c.in_ok-push_table-2.ensures
    ∙ (λ i. add (reported i) (record { heads = weight_heads; rows = map weight_shown (c.as_slice-2.ensures i) })) in
    let limited = c.in_ok-push_limits.ensures ∙ ap (λ text. add text (limit_table rows)) weights in
    let offers = c.in_ok-push_table-3.ensures
    ∙ (λ i. add (limited i) (record { heads = offer_heads; rows = map offer_shown (c.as_slice-3.ensures i) })) in
    let tasks = c.in_ok-push_table-4.ensures
    ∙ (λ i. add (offers i) (record { heads = task_heads; rows = map task_shown (c.as_slice-4.ensures i) })) in
    let filters = c.in_ok-push_filters.ensures ∙ ap (λ text. add text (filter_table rows)) tasks in
    on_ok_weaker c.push_counts.result
    (λ wrote. wrote ∙ ap (λ text. add text (count_table limits rows)) filters ∙ all_behind form start (table_in form (head_table rows)) (later_tables limits rows))
    c.push_counts.ensures

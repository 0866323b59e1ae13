-- How the content changes when clients are suppressed or revived, and when agents are removed.
use Rattle.std.specs.Prelude.{◌≡◌, Bool, not, List, filter, flat_map}
use Rattle.std.proofs.Common.{refl}
use Rattle.drf_role.specs.Text.{Text, same_text}
use Rattle.drf_rows.specs.Client.{Client, path_of}
use Rattle.drf_rows.specs.Holdings.{Holding, holdings_of}
use Rattle.drf_rows.specs.Held.{cluster_total}
use Rattle.drf_rows.specs.Members.{with_activity, with_suppression, agent_removed}
use Rattle.drf_rows.specs.Releases.{without_ended, all_on}
use Rattle.drf_rows.specs.declared.rows.FilterRow.{FilterRow}
use Rattle.drf_rows.specs.declared.rows.Rows.{Rows}
use Rattle.drf_sorter.specs.Content.{with_change}
use Rattle.drf_sorter.specs.Content as sorter
use Rattle.drf_content.specs.Content.{ranked, content_of}
use Rattle.drf_content.proofs.theorems.Client.{ranked_all, ranked-changed}
use Rattle.drf_row_laws.proofs.MemberLaws.{cluster_total-with_activity}

-- ---- changes that do not affect the content

pub content_of-filters : (rows : Rows) (filters : List FilterRow) → content_of (record rows { filters = filters }) ≡ content_of rows
unfolding content_of
content_of-filters rows filters = refl

-- activating or deactivating an agent does not change the content
pub content_of-activity : (rows : Rows) (name : Text) (active : Bool)
    → content_of (record rows { agents = with_activity rows name active }) ≡ content_of rows
unfolding content_of
content_of-activity rows name active =
    λ i. record {
      clients = flat_map (ranked_all (holdings_of rows)) rows.frameworks;
      total = cluster_total-with_activity rows name active i;
      weights = rows.weights;
    }

-- ---- a client is suppressed or revived

pub content_of-suppression : (rows : Rows) (client : Client) (suppressed : Bool)
    → content_of (record rows { frameworks = with_suppression rows client suppressed })
    ≡ with_change (content_of rows) (path_of client) (sorter.activated (not suppressed))
unfolding content_of ranked
content_of-suppression rows client suppressed =
    let hs : List Holding = holdings_of rows in
    let clients = ranked-changed client (λ c. record c { suppressed = suppressed }) (sorter.activated (not suppressed)) hs hs
    (λ f c other. refl) (λ f c same. refl) rows.frameworks in
    λ i. record { clients = clients i; total = cluster_total rows.agents; weights = rows.weights }

-- ---- an agent is removed

pub content_of-agent_removed : (rows : Rows) (name : Text) → without_ended rows (all_on name) ≡ rows
    → content_of (agent_removed rows name)
    ≡ record (content_of rows) { total = cluster_total (filter (λ a. not (same_text a.name name)) rows.agents) }
unfolding content_of
content_of-agent_removed rows name nothing =
    λ i. record {
      clients = flat_map (ranked_all (holdings_of (nothing i))) rows.frameworks;
      total = cluster_total (filter (λ a. not (same_text a.name name)) rows.agents);
      weights = rows.weights;
    }

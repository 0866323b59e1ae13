-- What all clients of consistent rows hold together, and how many offers they have received.
use Rattle.std.specs.Prelude.{◌≡◌, ℕ, List, filter, flat_map, sum_by}
use Rattle.std.specs.List.{count_by}
use Rattle.std.proofs.Common.{sym, ap, ◌∙◌, cond}
use Rattle.drf_role.specs.Text.{Text}
use Rattle.drf_role.specs.Path.{same_path}
use Rattle.drf_role.proofs.PathLaws.{same_path-swap, same_path-client_path}
use Rattle.drf_rows.specs.Client.{Client, path_of}
use Rattle.drf_rows.specs.Holdings.{Holding, holdings_of, held_where, amount_in, is_of}
use Rattle.drf_rows.specs.Consistent.{IsHeld, offers_counted, IsConsistent}
use Rattle.drf_row_laws.proofs.ConsistentLaws.{is_row_of, times_registered, registered_once}
use Rattle.drf_bundle.proofs.ListLaws.{sum_by-map, sum_by-flat_map, sum_by-groups, each_from}
use Rattle.drf_rows.specs.declared.rows.ClientRow.{ClientRow}
use Rattle.drf_rows.specs.declared.rows.FrameworkRow.{FrameworkRow}
use Rattle.drf_rows.specs.declared.rows.Rows.{Rows}
use Rattle.drf_sorter.specs.Content.{Ranked}
use Rattle.drf_content.specs.Content.{ranked, content_of}
use Rattle.drf_content.proofs.theorems.Client.{ranked_all, ranked-path}

-- a sum over the sorter's clients is a sum over the rows
pub sum_ranked : (g : Ranked → ℕ) (hs : List Holding) (fs : List FrameworkRow)
    → sum_by g (flat_map (ranked_all hs) fs) ≡ sum_by (λ f. sum_by (λ c. g (ranked hs f c)) f.clients) fs
sum_ranked g hs fs =
    sum_by-flat_map g (ranked_all hs) fs ∙ (λ i. sum_by (λ f. sum_by-map g (ranked hs f) f.clients i) fs)

-- the sum of the clients' counts
pub counts-content_of : (rows : Rows) → sum_by (λ r. r.count) (content_of rows).clients ≡ offers_counted rows.frameworks
unfolding content_of ranked
counts-content_of rows = sum_ranked (λ (r : Ranked). r.count) (holdings_of rows) rows.frameworks

-- a path occurs as often as its client is registered
times-ranked : (hs : List Holding) (client : Client) (fs : List FrameworkRow)
    → count_by (λ r. same_path (path_of client) r.path) (flat_map (ranked_all hs) fs) ≡ times_registered fs client
times-ranked hs client fs =
    let test : (f : FrameworkRow) (c : ClientRow) → same_path (path_of client) (ranked hs f c).path ≡ is_row_of client f c
    = λ f c. ap (same_path (path_of client)) (ranked-path hs f c)
    ∙ same_path-swap (path_of client) (path_of (record { role = c.role; framework = f.name }))
    ∙ same_path-client_path c.role client.role f.name client.framework in
    sum_ranked (λ (r : Ranked). cond (same_path (path_of client) r.path) 1 0) hs fs
    ∙ (λ i. sum_by (λ f. sum_by (λ c. cond (test f c i) 1 0) f.clients) fs)

-- each holding belongs to exactly one client
one_holder : (rows : Rows) (h : Holding) → IsConsistent rows → IsHeld rows.agents rows.frameworks h
    → count_by (λ r. is_of r.path h) (content_of rows).clients ≡ 1
unfolding content_of
one_holder rows h consistent held =
    times-ranked (holdings_of rows) h.client rows.frameworks
    ∙ registered_once rows.frameworks h.client consistent.frameworks held.client

-- a sum over what all clients hold is the sum over all holdings
pub sum_held : (f : Holding → ℕ) (rows : Rows) → IsConsistent rows
    → sum_by (λ r. sum_by f (filter (is_of r.path) (holdings_of rows))) (content_of rows).clients
    ≡ sum_by f (holdings_of rows)
sum_held f rows consistent =
    let hs : List Holding = holdings_of rows in
    let HasHolder : Holding → Type 0 = λ h. count_by (λ r. is_of r.path h) (content_of rows).clients ≡ 1 in
    sum_by-groups f (λ (h : Holding) (r : Ranked). is_of r.path h) (content_of rows).clients hs
    (each_from (IsHeld rows.agents rows.frameworks) HasHolder hs
    (λ h held. one_holder rows h consistent held) consistent.holdings)

-- what all clients hold of a scalar is the sum over all holdings
pub all_held : (rows : Rows) (label : Text) → IsConsistent rows
    → sum_by (λ r. r.held label) (content_of rows).clients ≡ sum_by (amount_in label) (holdings_of rows)
unfolding content_of ranked
all_held rows label consistent =
    let hs : List Holding = holdings_of rows in
    sum_ranked (λ (r : Ranked). r.held label) hs rows.frameworks
    ∙ sym (sum_ranked (λ (r : Ranked). held_where (is_of r.path) hs label) hs rows.frameworks)
    ∙ sum_held (amount_in label) rows consistent

-- How the content changes when a saved row is added.
use Rattle.std.specs.Prelude.{◌≡◌, ◌+◌, Bool, true, false, not, List, [], ◌∷◌, ◌++◌, map, flat_map, if◌then◌else◌}
use Rattle.std.specs.List.{list_any}
use Rattle.std.proofs.Common.{refl, sym, ap, ◌∙◌, cond, append_assoc, arith}
use Rattle.std.proofs.lemmas.Bool.{or_parts}
use Rattle.std.proofs.lemmas.List.{append-nil, map-append}
use Rattle.std.proofs.lemmas.Grind.{fold-append}
use Rattle.drf_role.specs.Text.{Text}
use Rattle.drf_role.specs.Path.{Path, client_path, same_path}
use Rattle.drf_role.proofs.PathLaws.{same_path-swap}
use Rattle.drf_bundle.specs.Bundle.{quantities_of}
use Rattle.drf_bundle.specs.declared.quantities.Entry.{Entry}
use Rattle.drf_bundle.specs.Quantities.{plus}
use Rattle.drf_rows.specs.Client.{path_of}
use Rattle.drf_rows.specs.Consistent.{IsConsistent}
use Rattle.drf_rows.specs.Cycle.{with_offer}
use Rattle.drf_rows.specs.Held.{client_of, cluster_total}
use Rattle.drf_rows.specs.Holdings.{Holding, amount_in, held_where, holdings_of, is_of, holding_of_offer, holding_of_task}
use Rattle.drf_rows.specs.Members.{has_framework}
use Rattle.drf_rows.specs.Weights.{weights_with}
use Rattle.drf_row_laws.proofs.HoldingsLaws.{held_where-append, held_where-cons, held_where-with_offer}
use Rattle.drf_rows.specs.declared.rows.AgentRow.{AgentRow}
use Rattle.drf_rows.specs.declared.rows.ClientRow.{ClientRow}
use Rattle.drf_rows.specs.declared.rows.FrameworkRow.{FrameworkRow}
use Rattle.drf_rows.specs.declared.rows.OfferRow.{OfferRow}
use Rattle.drf_rows.specs.declared.rows.Rows.{Rows}
use Rattle.drf_rows.specs.declared.rows.TaskRow.{TaskRow}
use Rattle.drf_rows.specs.declared.rows.WeightRow.{WeightRow}
use Rattle.drf_saved.specs.Saved.{with_row}
use Rattle.drf_saved.specs.declared.saved.SavedRow.TheVariants.{Agent, Framework, Weight, Limit, Offer, Task, Filter}
use Rattle.drf_sorter.specs.Content.{Content, Ranked, charged}
use Rattle.drf_content.specs.Content.{content_of, ranked}
use Rattle.drf_content.specs.ContentLaws.{ContentFollowsRow, HeadIsEmpty}
use Rattle.drf_content.specs.Putting.{put_back, with_all_back, with_held, with_put}
use Rattle.drf_content.proofs.theorems.Client.{ranked-path, ranked_all}
use Rattle.drf_content.proofs.theorems.Members.{clients_and}
use Rattle.drf_laws.proofs.theorems.Clients.{nothing_held}

pub content_of-begun : HeadIsEmpty
unfolding content_of
content_of-begun head = refl

-- ---- agents and weights

total_more : (agents : List AgentRow) (a : AgentRow) → cluster_total (agents ++ a ∷ []) ≡ plus (cluster_total agents) (quantities_of a.total)
total_more agents a = fold-append (λ sum (b : AgentRow). plus sum (quantities_of b.total)) [] agents (a ∷ [])

-- an agent that is added last adds to the total
pub total-put : (rows : Rows) (a : AgentRow) (content : Content) → content ≡ content_of rows
    → record content { total = cluster_total (rows.agents ++ a ∷ []) } ≡ with_put content (Agent a)
unfolding content_of
total-put rows a content sorted =
    let old : content.total ≡ cluster_total rows.agents = ap (λ (k : Content). k.total) sorted in
    λ i. record content { total = (total_more rows.agents a ∙ ap (λ (total : List Entry). plus total (quantities_of a.total)) (sym old)) i }

-- a weight of a role without one is added last
pub weights_more : (weights : List WeightRow) (w : WeightRow) → list_any (λ v. same_path v.role w.role) weights ≡ false
    → weights ++ w ∷ [] ≡ weights_with weights w.role w.weight
weights_more [] w new = refl
weights_more (v ∷ weights) w new =
    let parts = or_parts (same_path v.role w.role) (list_any (λ v. same_path v.role w.role) weights) new in
    rw (parts.0) (ap (λ (rest : List WeightRow). v ∷ rest) (weights_more weights w parts.1))

-- ---- a holding is added

-- the client of a holding holds it too, and nothing else that a sorter holds changed
pub record HoldsMore (old new : Rows) (h : Holding) : Type 0 where
  pub agents : new.agents ≡ old.agents
  pub frameworks : new.frameworks ≡ old.frameworks
  pub weights : new.weights ≡ old.weights
  pub held : (test : Holding → Bool) (label : Text)
      → held_where test (holdings_of new) label
      ≡ held_where test (holdings_of old) label + cond (test h) (amount_in label h) 0

module _ (old new : Rows) (h : Holding) (more : HoldsMore old new h) where
  abbrev change : Ranked → Ranked
  change c = if same_path c.path (path_of h.client) then charged (quantities_of h.bundle) 0 c else c

  charged_one : (f : FrameworkRow) (c : ClientRow) (b : Bool) → same_path (path_of (client_of f c)) (path_of h.client) ≡ b
      → cond b (charged (quantities_of h.bundle) 0 (ranked (holdings_of old) f c)) (ranked (holdings_of old) f c) ≡ ranked (holdings_of new) f c
  unfolding ranked
  charged_one f c b test =
      let path : Path = path_of (client_of f c) in
      let holds : (label : Text)
      → held_where (is_of path) (holdings_of new) label ≡ held_where (is_of path) (holdings_of old) label + cond b (amount_in label h) 0
      = λ label. more.held (is_of path) label
      ∙ ap (λ (b : Bool). held_where (is_of path) (holdings_of old) label + cond b (amount_in label h) 0)
      (same_path-swap (path_of h.client) path ∙ test) in
      by b holds
    where
      by : (b : Bool)
          → ((label : Text) → held_where (is_of (path_of (client_of f c))) (holdings_of new) label
          ≡ held_where (is_of (path_of (client_of f c))) (holdings_of old) label + cond b (amount_in label h) 0)
          → cond b (charged (quantities_of h.bundle) 0 (ranked (holdings_of old) f c)) (ranked (holdings_of old) f c) ≡ ranked (holdings_of new) f c
      by true holds =
          let same : c.count + 0 ≡ c.count = omega arith in
          λ i. record { path = path_of (client_of f c); active = not c.suppressed; held = λ label. sym (holds label) i; count = same i }
      by false holds =
          let none : (label : Text) → held_where (is_of (path_of (client_of f c))) (holdings_of old) label
          ≡ held_where (is_of (path_of (client_of f c))) (holdings_of new) label
          = λ label. omega (arith, holds label) in
          λ i. record { path = path_of (client_of f c); active = not c.suppressed; held = λ label. none label i; count = c.count }

  changed_one : (f : FrameworkRow) (c : ClientRow) → change (ranked (holdings_of old) f c) ≡ ranked (holdings_of new) f c
  changed_one f c =
      ap (λ (p : Path). if same_path p (path_of h.client) then charged (quantities_of h.bundle) 0 (ranked (holdings_of old) f c) else ranked (holdings_of old) f c)
      (ranked-path (holdings_of old) f c)
      ∙ charged_one f c (same_path (path_of (client_of f c)) (path_of h.client)) refl

  changed_each : (f : FrameworkRow) (cs : List ClientRow)
      → map change (map (ranked (holdings_of old) f) cs) ≡ map (ranked (holdings_of new) f) cs
  changed_each f [] = refl
  changed_each f (c ∷ cs) = λ i. changed_one f c i ∷ changed_each f cs i

  changed_all : (fs : List FrameworkRow)
      → map change (flat_map (ranked_all (holdings_of old)) fs) ≡ flat_map (ranked_all (holdings_of new)) fs
  changed_all [] = refl
  changed_all (f ∷ fs) =
      map-append change (ranked_all (holdings_of old) f) (flat_map (ranked_all (holdings_of old)) fs)
      ∙ (λ i. changed_each f f.clients i ++ changed_all fs i)

  content_of-holds_more : content_of new ≡ with_held (content_of old) h
  unfolding content_of
  content_of-holds_more =
      let clients : flat_map (ranked_all (holdings_of new)) new.frameworks ≡ map change (flat_map (ranked_all (holdings_of old)) old.frameworks)
      = ap (flat_map (ranked_all (holdings_of new))) more.frameworks ∙ sym (changed_all old.frameworks) in
      λ i. record {
        clients = clients i;
        total = cluster_total (more.agents i);
        weights = more.weights i;
      }

offer_more : (rows : Rows) (o : OfferRow) → HoldsMore rows (with_row rows (Offer o)) (holding_of_offer o)
unfolding with_offer
offer_more rows o =
    record { agents = refl; frameworks = refl; weights = refl; held = λ test label. held_where-with_offer test rows o label }

task_more : (rows : Rows) (t : TaskRow) → HoldsMore rows (with_row rows (Task t)) (holding_of_task t)
task_more rows t = record { agents = refl; frameworks = refl; weights = refl; held = held }
  where
    held : (test : Holding → Bool) (label : Text)
        → held_where test (holdings_of (with_row rows (Task t))) label
        ≡ held_where test (holdings_of rows) label + cond (test (holding_of_task t)) (amount_in label (holding_of_task t)) 0
    held test label =
        let last : holdings_of (with_row rows (Task t)) ≡ holdings_of rows ++ holding_of_task t ∷ []
        = ap (λ (hs : List Holding). map holding_of_offer rows.offers ++ hs) (map-append holding_of_task rows.tasks (t ∷ []))
        ∙ sym (append_assoc (map holding_of_offer rows.offers) (map holding_of_task rows.tasks) (holding_of_task t ∷ [])) in
        ap (λ (hs : List Holding). held_where test hs label) last
        ∙ held_where-append test (holdings_of rows) (holding_of_task t ∷ []) label
        ∙ omega (arith, held_where-cons test (holding_of_task t) [] label)

-- ---- a framework is added

-- restored clients come after the others, in order
all_back : (content : Content) (name : Text) (cs : List ClientRow)
    → with_all_back content name cs ≡ record content { clients = content.clients ++ map (put_back name) cs }
all_back content name [] = λ i. record content { clients = sym (append-nil content.clients) i }
all_back content name (c ∷ cs) =
    all_back (record content { clients = content.clients ++ put_back name c ∷ [] }) name cs
    ∙ (λ i. record content { clients = append_assoc content.clients (put_back name c ∷ []) (map (put_back name) cs) i })

-- the clients of a new framework hold nothing
own_clients : (rows : Rows) (f : FrameworkRow) → IsConsistent rows → has_framework rows f.name ≡ false → (cs : List ClientRow)
    → map (ranked (holdings_of rows) f) cs ≡ map (put_back f.name) cs
unfolding ranked
own_clients rows f consistent new [] = refl
own_clients rows f consistent new (c ∷ cs) =
    let one : ranked (holdings_of rows) f c ≡ put_back f.name c = λ i. record {
      path = client_path c.role f.name;
      active = not c.suppressed;
      held = λ label. nothing_held rows.agents rows.frameworks (client_of f c) new (holdings_of rows) label consistent.holdings i;
      count = c.count;
    } in
    λ i. one i ∷ own_clients rows f consistent new cs i

content_of-framework : (rows : Rows) (f : FrameworkRow) → IsConsistent rows → has_framework rows f.name ≡ false
    → content_of (with_row rows (Framework f)) ≡ with_all_back (content_of rows) f.name f.clients
unfolding content_of
content_of-framework rows f consistent new =
    let before : List Ranked = flat_map (ranked_all (holdings_of rows)) rows.frameworks in
    let clients : flat_map (ranked_all (holdings_of rows)) (rows.frameworks ++ f ∷ []) ≡ before ++ map (put_back f.name) f.clients
    = clients_and (holdings_of rows) rows.frameworks f
    ∙ ap (λ (rs : List Ranked). before ++ rs) (own_clients rows f consistent new f.clients) in
    (λ i. record { clients = clients i; total = cluster_total rows.agents; weights = rows.weights })
    ∙ sym (all_back (content_of rows) f.name f.clients)

-- ---- any row is added

pub content_of-with_row : ContentFollowsRow
unfolding content_of
content_of-with_row rows (Agent a) consistent new =
    λ i. record {
      clients = flat_map (ranked_all (holdings_of rows)) rows.frameworks;
      total = total_more rows.agents a i;
      weights = rows.weights;
    }
content_of-with_row rows (Framework f) consistent new = content_of-framework rows f consistent new
content_of-with_row rows (Weight w) consistent new =
    λ i. record {
      clients = flat_map (ranked_all (holdings_of rows)) rows.frameworks;
      total = cluster_total rows.agents;
      weights = weights_more rows.weights w new i;
    }
content_of-with_row rows (Limit l) consistent new = refl
content_of-with_row rows (Offer o) consistent new = content_of-holds_more rows (with_row rows (Offer o)) (holding_of_offer o) (offer_more rows o)
content_of-with_row rows (Task t) consistent new = content_of-holds_more rows (with_row rows (Task t)) (holding_of_task t) (task_more rows t)
content_of-with_row rows (Filter f) consistent new = refl

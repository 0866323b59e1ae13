-- How much of the allowed work each step uses.
use Rattle.std.proofs.Common.{◌≡◌, ℕ, ◌+◌, ◌≤◌, ◌<◌, Bool, true, List, [], ◌∷◌, ◌++◌, Some, length, map, drop, refl, sym, ap, ◌∙◌, inl, inr, arith}
use Rattle.std.specs.Prelude.{filter, find, flat_map, slice_get, sum_by}
use Rattle.std.specs.Cmp.Lexicographic.{bytes_decides}
use Rattle.std.proofs.lemmas.Bool.{cases_Bool}
use Rattle.std.proofs.lemmas.List.{map-append}
use Rattle.std.proofs.lemmas.List.Elements.{filter-append}
use Rattle.std.proofs.lemmas.List.Sums.{sum_by-cons, sum_by-append}
use Rattle.drf_role.specs.Text.{Text, same_text}
use Rattle.drf_role.specs.Path.{Path, client_path}
use Rattle.drf_rows.specs.Client.{Client, path_of}
use Rattle.drf_rows.specs.Releases.{Release, one_offer, ends_offer, ends_task}
use Rattle.drf_rows.specs.Held.{client_of}
use Rattle.drf_rows.specs.Holdings.{holding_of_offer, holding_of_task}
use Rattle.drf_rows.specs.Members.{new_client}
use Rattle.drf_rows.specs.Offers.{offer_at}
use Rattle.drf_rows.specs.Report as report
use Rattle.drf_rows.specs.declared.rows.ClientRow.{ClientRow}
use Rattle.drf_rows.specs.declared.rows.FrameworkRow.{FrameworkRow}
use Rattle.drf_rows.specs.declared.rows.OfferRow.{OfferRow}
use Rattle.drf_rows.specs.declared.rows.TaskRow.{TaskRow}
use Rattle.drf_rows.specs.declared.rows.Rows.{Rows}
use Rattle.drf_sorter.specs.Content.{Content, HasNodes, IsSame}
use Rattle.drf_tables.specs.offers.Ended.{HasEnded}
use Rattle.drf_holdings.specs.Stored.{holding_of}
use Rattle.drf_holdings.specs.declared.holdings.Taken.{Taken}
use Rattle.drf_content.specs.Content.{content_of}
use Rattle.drf_content.specs.Registering.{client_paths}
use Rattle.drf_content.proofs.theorems.Same.{nodes_of_rows}
use Rattle.drf_core.specs.Working.{nodes_of, offered_to, losers}
use Rattle.drf_core.proofs.drafting.Cycle.{begins_at}

pub nodes_of-append : (cs ds : List Client) → nodes_of (cs ++ ds) ≡ nodes_of cs + nodes_of ds
nodes_of-append cs ds = sum_by-append (λ (c : Client). length (path_of c)) cs ds

nodes_of-cons : (c : Client) (cs : List Client) → nodes_of (c ∷ cs) ≡ length (path_of c) + nodes_of cs
nodes_of-cons c cs = sum_by-cons (λ (c : Client). length (path_of c)) c cs

-- a draft adds the nodes on the path of its client
pub nodes_of-drafted : (offers : List OfferRow) (offer : OfferRow)
    → nodes_of (offered_to (offers ++ offer ∷ [])) ≡ nodes_of (offered_to offers) + length (path_of (holding_of_offer offer).client)
nodes_of-drafted offers offer =
    ap nodes_of (map-append (λ (o : OfferRow). (holding_of_offer o).client) offers (offer ∷ []))
    ∙ nodes_of-append (offered_to offers) (offered_to (offer ∷ []))
    ∙ ap (λ n. nodes_of (offered_to offers) + n) (nodes_of-cons (holding_of_offer offer).client [] ∙ (omega arith))

-- an element that passes a test is removed
module _ {X : Type 0} (test : X → Bool) (client : X → Client) where
  nodes_out : (before after : List X) (x : X) → test x ≡ true
      → nodes_of (map client (filter test (before ++ x ∷ after))) ≡ nodes_of (map client (filter test (before ++ after))) + length (path_of (client x))
  nodes_out [] after x passes =
      let one = nodes_of-cons (client x) (map client (filter test after)) in
      rw passes (omega (arith, one))
  nodes_out (y ∷ before) after x passes = elim (cases_Bool (test y)) [
    | inl here ↦
        let later = nodes_out before after x passes in
        let old = nodes_of-cons (client y) (map client (filter test (before ++ x ∷ after))) in
        let new = nodes_of-cons (client y) (map client (filter test (before ++ after))) in
        rw here (omega (arith, later, old, new))
    | inr past ↦ rw past (nodes_out before after x passes)
  ]

-- after one offer or task ended, the nodes of its client no longer count
pub losers-ended : (old new : Rows) (release : Release) (taken : Taken) → HasEnded old new release taken
    → nodes_of (losers old release) ≡ nodes_of (losers new release) + length (path_of (holding_of taken).client)
losers-ended old new release taken ended =
    elim ended.taken [
      | inl out ↦
          let whole : nodes_of (offered_to (filter (ends_offer release) old.offers)) ≡ nodes_of (offered_to (filter (ends_offer release) new.offers)) + length (path_of (holding_of_offer out.offer).client) =
          ap (λ (os : List OfferRow). nodes_of (offered_to (filter (ends_offer release) os))) out.taken.whole
          ∙ nodes_out (ends_offer release) (λ (o : OfferRow). (holding_of_offer o).client) out.taken.before out.taken.after out.offer out.taken.passes
          ∙ ap (λ (os : List OfferRow). nodes_of (offered_to (filter (ends_offer release) os)) + length (path_of (holding_of_offer out.offer).client)) (sym out.taken.left) in
          let tasks = ap (λ (ts : List TaskRow). nodes_of (map (λ t. (holding_of_task t).client) (filter (ends_task release) ts))) out.same in
          let reported : length (path_of (holding_of taken).client) ≡ length (path_of (holding_of_offer out.offer).client) = ap (λ h. length (path_of h.client)) out.reported in
          omega (
            arith,
            whole,
            tasks,
            reported,
            nodes_of-append (offered_to (filter (ends_offer release) old.offers)) (map (λ t. (holding_of_task t).client) (filter (ends_task release) old.tasks)),
            nodes_of-append (offered_to (filter (ends_offer release) new.offers)) (map (λ t. (holding_of_task t).client) (filter (ends_task release) new.tasks)),
          )
      | inr out ↦
          let whole : nodes_of (map (λ t. (holding_of_task t).client) (filter (ends_task release) old.tasks)) ≡ nodes_of (map (λ t. (holding_of_task t).client) (filter (ends_task release) new.tasks)) + length (path_of (holding_of_task out.task).client) =
          ap (λ (ts : List TaskRow). nodes_of (map (λ t. (holding_of_task t).client) (filter (ends_task release) ts))) out.taken.whole
          ∙ nodes_out (ends_task release) (λ (t : TaskRow). (holding_of_task t).client) out.taken.before out.taken.after out.task out.taken.passes
          ∙ ap (λ (ts : List TaskRow). nodes_of (map (λ t. (holding_of_task t).client) (filter (ends_task release) ts)) + length (path_of (holding_of_task out.task).client)) (sym out.taken.left) in
          let offers = ap (λ (os : List OfferRow). nodes_of (offered_to (filter (ends_offer release) os))) out.same in
          let reported : length (path_of (holding_of taken).client) ≡ length (path_of (holding_of_task out.task).client) = ap (λ h. length (path_of h.client)) out.reported in
          omega (
            arith,
            whole,
            offers,
            reported,
            nodes_of-append (offered_to (filter (ends_offer release) old.offers)) (map (λ t. (holding_of_task t).client) (filter (ends_task release) old.tasks)),
            nodes_of-append (offered_to (filter (ends_offer release) new.offers)) (map (λ t. (holding_of_task t).client) (filter (ends_task release) new.tasks)),
          )
    ]

-- ---- paths

pub sum_at : (f : Path → ℕ) (paths : List Path) (i : ℕ) (path : Path) → i < length paths → slice_get paths i ≡ Some path
    → sum_by f (drop i paths) ≡ f path + sum_by f (drop (i + 1) paths)
sum_at f paths i path below at =
    let b = begins_at paths i below in
    let here : Some b.first ≡ Some path = sym b.at ∙ at in
    let same : b.first ≡ path = cc in
    ap (λ (ps : List Path). sum_by f ps) b.rest ∙ sum_by-cons f b.first (drop (i + 1) paths) ∙ ap (λ (p : Path). f p + sum_by f (drop (i + 1) paths)) same

-- the nodes of the clients of a framework that registers
pub nodes_of-new : (framework : Text) (roles : List Path)
    → sum_by length (client_paths framework (map new_client roles)) ≡ nodes_of (map (λ role. record { role = role; framework = framework }) roles)
nodes_of-new framework [] = refl
nodes_of-new framework (role ∷ roles) =
    let Clients : List Path → List Client = λ roles. map (λ role. record { role = role; framework = framework }) roles in
    let later : sum_by length (client_paths framework (map new_client roles)) ≡ nodes_of (Clients roles) = nodes_of-new framework roles in
    let paths : sum_by length (client_paths framework (map new_client (role ∷ roles))) ≡ length (client_path role framework) + sum_by length (client_paths framework (map new_client roles))
    = sum_by-cons length (client_path role framework) (client_paths framework (map new_client roles)) in
    let clients : nodes_of (Clients (role ∷ roles)) ≡ length (client_path role framework) + nodes_of (Clients roles)
    = nodes_of-cons (record { role = role; framework = framework }) (Clients roles) in
    omega (arith, later, paths, clients)

-- the nodes of the clients of a framework are those of the clients with its name
kept_clients : (f : FrameworkRow) (name : Text) (cs : List ClientRow) → same_text f.name name ≡ true
    → sum_by length (client_paths name cs) ≡ nodes_of (filter (λ (c : Client). same_text c.framework name) (map (client_of f) cs))
kept_clients f name [] same = refl
kept_clients f name (c ∷ cs) same =
    let later = kept_clients f name cs same in
    let names : f.name ≡ name = (bytes_decides f.name name).0 same in
    let paths : sum_by length (client_paths name (c ∷ cs)) ≡ length (client_path c.role name) + sum_by length (client_paths name cs)
    = sum_by-cons length (client_path c.role name) (client_paths name cs) in
    let clients = nodes_of-cons (client_of f c) (filter (λ (c : Client). same_text c.framework name) (map (client_of f) cs)) in
    let path : length (client_path c.role name) ≡ length (path_of (client_of f c)) = ap (λ (n : Text). length (client_path c.role n)) (sym names) in
    rw same (omega (arith, later, paths, clients, path))

pub nodes_of-leaving : (name : Text) (f : FrameworkRow) (fs : List FrameworkRow) → find (λ f. same_text f.name name) fs ≡ Some f
    → sum_by length (client_paths name f.clients)
    ≤ nodes_of (filter (λ (c : Client). same_text c.framework name) (flat_map (λ (f : FrameworkRow). map (client_of f) f.clients) fs))
nodes_of-leaving name f [] found = cc
nodes_of-leaving name f (g ∷ gs) found =
    let All : List Client = flat_map (λ (f : FrameworkRow). map (client_of f) f.clients) gs in
    let is : Client → Bool = λ c. same_text c.framework name in
    let both : nodes_of (filter is (map (client_of g) g.clients ++ All)) ≡ nodes_of (filter is (map (client_of g) g.clients)) + nodes_of (filter is All) =
    ap nodes_of (filter-append is (map (client_of g) g.clients) All) ∙ nodes_of-append (filter is (map (client_of g) g.clients)) (filter is All) in
    elim (cases_Bool (same_text g.name name)) [
      | inl here ↦
          let one : Some g ≡ Some f = rw here at found in
          let same : g ≡ f = cc in
          let mine = kept_clients g name g.clients here in
          let reported = ap (λ (h : FrameworkRow). sum_by length (client_paths name h.clients)) same in
          omega (arith, both, mine, reported)
      | inr past ↦ omega (arith, both, nodes_of-leaving name f gs (rw past at found))
    ]

-- the nodes of the client of an offer that ends are counted
found_nodes : {X : Type 0} (test : X → Bool) (client : X → Client) (xs : List X) (x : X) → find test xs ≡ Some x
    → length (path_of (client x)) ≤ nodes_of (map client (filter test xs))
found_nodes test client [] x found = cc
found_nodes test client (y ∷ ys) x found = elim (cases_Bool (test y)) [
  | inl here ↦
      let one : Some y ≡ Some x = rw here at found in
      let same : y ≡ x = cc in
      let first = nodes_of-cons (client y) (map client (filter test ys)) in
      rw here (omega (arith, first, ap (λ z. length (path_of (client z))) same))
  | inr past ↦ rw past (found_nodes test client ys x (rw past at found))
]

pub nodes_of-offer : (rows : Rows) (number : ℕ) (o : OfferRow) → offer_at rows number ≡ Some o
    → length (path_of (holding_of_offer o).client) ≤ nodes_of (losers rows (one_offer number))
nodes_of-offer rows number o found =
    let first = found_nodes (ends_offer (one_offer number)) (λ (o : OfferRow). (holding_of_offer o).client) rows.offers o found in
    let both = nodes_of-append (offered_to (filter (ends_offer (one_offer number)) rows.offers)) (map (λ t. (holding_of_task t).client) (filter (ends_task (one_offer number)) rows.tasks)) in
    omega (arith, first, both)

-- ---- the cluster's total changes

-- each node of the sorter is a node of a report
pub has_nodes : (rows : Rows) (content : Content) → IsSame content (content_of rows) → HasNodes content (report.nodes_of rows)
has_nodes rows content sorted = nodes_of_rows rows content sorted

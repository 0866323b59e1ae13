-- How the content changes when a framework is removed: its clients are removed one by one.
use Rattle.std.specs.Prelude.{◌≡◌, ◌&&◌, ◌||◌, Bool, true, false, not, List, [], ◌∷◌, ◌++◌, map, filter, find, flat_map, Some}
use Rattle.std.specs.List.{list_any, list_all, AllByRecursion}
use Rattle.std.proofs.Common.{refl, sym, ap, ◌∙◌, inl, inr, cond}
use Rattle.std.proofs.lemmas.Bool.{cases_Bool, and_parts, not-true}
use Rattle.std.proofs.lemmas.List.Elements.{filter-append}
use Rattle.std.proofs.lemmas.Map.Views.{any-filter_same}
use Rattle.drf_role.specs.Text.{Text}
use Rattle.drf_role.specs.TextLaws.{same_itself}
use Rattle.drf_role.specs.Path.{Path, same_path, client_path}
use Rattle.drf_role.specs.PathLaws.{same_path-true, same_path_itself}
use Rattle.drf_role.proofs.PathLaws.{same_path-swap, same_path-client_path}
use Rattle.drf_rows.specs.Client.{path_of}
use Rattle.drf_rows.specs.Holdings.{Holding, holdings_of}
use Rattle.drf_rows.specs.Held.{client_of, cluster_total}
use Rattle.drf_rows.specs.Members.{framework_removed}
use Rattle.drf_rows.specs.Releases.{without_ended, all_of}
use Rattle.drf_rows.specs.Consistent.{AreFrameworks, are_distinct_roles}
use Rattle.drf_bundle.proofs.ListLaws.{list_any-both, each_from, each_find, each_found}
use Rattle.drf_rows.specs.declared.rows.ClientRow.{ClientRow}
use Rattle.drf_rows.specs.declared.rows.FrameworkRow.{FrameworkRow}
use Rattle.drf_rows.specs.declared.rows.Rows.{Rows}
use Rattle.drf_sorter.specs.Content.{Content, Ranked, has_client, without_client}
use Rattle.drf_content.specs.Content.{ranked, content_of}
use Rattle.drf_content.specs.Registering.{client_paths, without_all, AreKnown}
use Rattle.drf_content.proofs.theorems.Client.{ranked_all, ranked-path}
use Rattle.drf_content.proofs.theorems.Members.{has_client-registered}
use Rattle.drf_laws.proofs.theorems.Clients.{named, role_registered, one_named}

-- ---- each client is known when it is removed

-- the framework's client in the role is known
abbrev pub IsKnown : Content → Text → ClientRow → Type 0
IsKnown content name c = has_client content (client_path c.role name) ≡ true

-- other clients stay known when one is removed
still_known : (content : Content) (gone path : Path) → same_path gone path ≡ false
    → has_client content path ≡ true → has_client (without_client content gone) path ≡ true
still_known content gone path apart known =
    any-filter_same_path content.clients ∙ known
  where
    kept : (c : Ranked) → same_path c.path path ≡ true → not (same_path c.path gone) ≡ true
    kept c same =
        let is : c.path ≡ path = same_path-true c.path path same in
        ap (λ (p : Path). not (same_path p gone)) is ∙ ap not (same_path-swap path gone ∙ apart)

    any-filter_same_path : (cs : List Ranked)
        → list_any (λ c. same_path c.path path) (filter (λ c. not (same_path c.path gone)) cs) ≡ list_any (λ c. same_path c.path path) cs
    any-filter_same_path cs = any-filter_same (λ c. same_path c.path path) (λ c. not (same_path c.path gone)) true kept cs

module _ (name : Text) where
  other_client : (role other : Path) → same_path role other ≡ false → same_path (client_path role name) (client_path other name) ≡ false
  other_client role other apart =
      same_path-client_path role other name name ∙ (λ i. same_itself name i && apart i)

  known_past : (content : Content) (role : Path) (cs : List ClientRow)
      → list_all (λ r. not (same_path role r)) (map (λ c. c.role) cs) ≡ true → AllByRecursion (IsKnown content name) cs
      → AllByRecursion (IsKnown (without_client content (client_path role name)) name) cs
  known_past content role [] apart known = tt
  known_past content role (c ∷ cs) apart known =
      let parts = and_parts (not (same_path role c.role)) (list_all (λ r. not (same_path role r)) (map (λ c. c.role) cs)) apart in (
        still_known content (client_path role name) (client_path c.role name) (other_client role c.role (not-true (same_path role c.role) parts.0)) known.0,
        known_past content role cs parts.1 known.1,
      )

  pub all_known : (content : Content) (cs : List ClientRow) → are_distinct_roles (map (λ c. c.role) cs) ≡ true
      → AllByRecursion (IsKnown content name) cs → AreKnown content (client_paths name cs)
  all_known content [] apart known = tt
  all_known content (c ∷ cs) apart known =
      let parts = and_parts (list_all (λ r. not (same_path c.role r)) (map (λ c. c.role) cs)) (are_distinct_roles (map (λ c. c.role) cs)) apart in
      (known.0, all_known (without_client content (client_path c.role name)) cs parts.1 (known_past content c.role cs parts.0 known.1))

module _ (rows : Rows) (name : Text) (f : FrameworkRow) (right : AreFrameworks rows.frameworks) (found : find (named name) rows.frameworks ≡ Some f) where
  clients_known : AllByRecursion (IsKnown (content_of rows) name) f.clients
  clients_known =
      each_from (λ c. list_any (λ d. same_path d.role c.role) f.clients ≡ true) (IsKnown (content_of rows) name) f.clients
      (λ c has. has_client-registered rows (record { role = c.role; framework = name }) (role_registered name rows.frameworks f c.role found has))
      (each_found (λ d c. same_path d.role c.role) f.clients (λ c. same_path_itself c.role))

  pub AreKnown-removing : AreKnown (content_of rows) (client_paths name f.clients)
  AreKnown-removing =
      all_known name (content_of rows) f.clients
      (each_find (λ f. are_distinct_roles (map (λ c. c.role) f.clients) ≡ true) (named name) rows.frameworks f right.roles found)
      clients_known

-- ---- the content after all of them are removed

-- the path is in the list
abbrev pub is_among : List Path → Path → Bool
is_among paths path = list_any (λ p. same_path path p) paths

left_twice : (p : Path) (ps : List Path) (cs : List Ranked)
    → filter (λ c. not (is_among ps c.path)) (filter (λ c. not (same_path c.path p)) cs) ≡ filter (λ c. not (is_among (p ∷ ps) c.path)) cs
left_twice p ps [] = refl
left_twice p ps (c ∷ cs) = by (same_path c.path p) (left_twice p ps cs)
  where
    by : (b : Bool)
        → filter (λ c. not (is_among ps c.path)) (filter (λ c. not (same_path c.path p)) cs) ≡ filter (λ c. not (is_among (p ∷ ps) c.path)) cs
        → filter (λ c. not (is_among ps c.path)) (cond (not b) (c ∷ filter (λ c. not (same_path c.path p)) cs) (filter (λ c. not (same_path c.path p)) cs))
        ≡ cond (not (b || is_among ps c.path)) (c ∷ filter (λ c. not (is_among (p ∷ ps) c.path)) cs) (filter (λ c. not (is_among (p ∷ ps) c.path)) cs)
    by true same = same
    by false same = ap (λ (rs : List Ranked). cond (not (is_among ps c.path)) (c ∷ rs) rs) same

pub left_all : (content : Content) (paths : List Path)
    → without_all content paths ≡ record content { clients = filter (λ c. not (is_among paths c.path)) content.clients }
left_all content [] = λ i. record content { clients = all content.clients i }
  where
    all : (cs : List Ranked) → cs ≡ filter (λ c. true) cs
    all [] = refl
    all (c ∷ cs) = ap (λ (rs : List Ranked). c ∷ rs) (all cs)
left_all content (p ∷ ps) =
    left_all (without_client content p) ps ∙ (λ i. record content { clients = left_twice p ps content.clients i })

module _ (hs : List Holding) (name : Text) (f : FrameworkRow) where
  -- a client is among those removed exactly if its framework and its role are
  pub among : (g : FrameworkRow) (c : ClientRow)
      → is_among (client_paths name f.clients) (ranked hs g c).path ≡ (named name g && list_any (λ d. same_path c.role d.role) f.clients)
  among g c =
      ap (is_among (client_paths name f.clients)) (ranked-path hs g c)
      ∙ each f.clients
      ∙ list_any-both (named name g) (λ d. same_path c.role d.role) f.clients
    where
      each : (ds : List ClientRow)
          → is_among (client_paths name ds) (path_of (client_of g c)) ≡ list_any (λ d. named name g && same_path c.role d.role) ds
      each [] = refl
      each (d ∷ ds) = λ i. same_path-client_path c.role d.role g.name name i || each ds i

  -- the clients of other frameworks stay
  pub others_stay : (g : FrameworkRow) (cs : List ClientRow) → named name g ≡ false
      → filter (λ c. not (is_among (client_paths name f.clients) c.path)) (map (ranked hs g) cs) ≡ map (ranked hs g) cs
  others_stay g [] other = refl
  others_stay g (c ∷ cs) other =
      let stays : is_among (client_paths name f.clients) (ranked hs g c).path ≡ false
      = among g c ∙ ap (λ (b : Bool). b && list_any (λ d. same_path c.role d.role) f.clients) other in
      rw stays (ap (λ (rs : List Ranked). ranked hs g c ∷ rs) (others_stay g cs other))

  -- its own clients are removed
  own_go : (cs : List ClientRow) → named name f ≡ true → AllByRecursion (λ c. list_any (λ d. same_path c.role d.role) f.clients ≡ true) cs
      → filter (λ c. not (is_among (client_paths name f.clients) c.path)) (map (ranked hs f) cs) ≡ []
  own_go [] here all = refl
  own_go (c ∷ cs) here all =
      let goes : is_among (client_paths name f.clients) (ranked hs f c).path ≡ true
      = among f c ∙ (λ i. here i && all.0 i) in
      rw goes (own_go cs here all.1)

  one_left : (g : FrameworkRow) → (named name g ≡ true → g ≡ f)
      → filter (λ c. not (is_among (client_paths name f.clients) c.path)) (ranked_all hs g) ≡ cond (not (named name g)) (ranked_all hs g) []
  one_left g only = elim (cases_Bool (named name g)) [
    | inl here ↦ rw here (
        ap (λ (h : FrameworkRow). filter (λ c. not (is_among (client_paths name f.clients) c.path)) (ranked_all hs h)) (only here)
        ∙ own_go f.clients (ap (named name) (sym (only here)) ∙ here)
        (each_found (λ d c. same_path c.role d.role) f.clients (λ c. same_path_itself c.role)))
    | inr other ↦ rw other (others_stay g g.clients other)
  ]

  all_left : (gs : List FrameworkRow) → AllByRecursion (λ g. named name g ≡ true → g ≡ f) gs
      → filter (λ c. not (is_among (client_paths name f.clients) c.path)) (flat_map (ranked_all hs) gs)
      ≡ flat_map (ranked_all hs) (filter (λ g. not (named name g)) gs)
  all_left [] only = refl
  all_left (g ∷ gs) only =
      filter-append (λ (c : Ranked). not (is_among (client_paths name f.clients) c.path)) (ranked_all hs g) (flat_map (ranked_all hs) gs)
      ∙ (λ i. one_left g only.0 i ++ all_left gs only.1 i)
      ∙ by (not (named name g))
    where
      by : (b : Bool) → cond b (ranked_all hs g) [] ++ flat_map (ranked_all hs) (filter (λ g. not (named name g)) gs)
          ≡ flat_map (ranked_all hs) (cond b (g ∷ filter (λ g. not (named name g)) gs) (filter (λ g. not (named name g)) gs))
      by true = refl
      by false = refl

-- a framework that holds nothing is removed
pub content_of-framework_removed : (rows : Rows) (name : Text) (f : FrameworkRow)
    → AreFrameworks rows.frameworks → find (named name) rows.frameworks ≡ Some f → without_ended rows (all_of name) ≡ rows
    → without_all (content_of rows) (client_paths name f.clients) ≡ content_of (framework_removed rows name)
unfolding content_of
content_of-framework_removed rows name f right found nothing =
    let hs : List Holding = holdings_of rows in
    left_all (content_of rows) (client_paths name f.clients)
    ∙ (λ i. record {
      clients = all_left hs name f rows.frameworks (one_named name rows.frameworks f right.names found) i;
      total = cluster_total rows.agents;
      weights = rows.weights;
    })
    ∙ sym (λ i. record {
      clients = flat_map (ranked_all (holdings_of (nothing i))) (filter (λ f. not (named name f)) rows.frameworks);
      total = cluster_total rows.agents;
      weights = rows.weights;
    })

-- How the content changes when a framework registers: its clients are added one by one.
use Rattle.std.specs.Prelude.{◌≡◌, ◌||◌, Bool, true, false, not, List, [], ◌∷◌, ◌++◌, map, filter}
use Rattle.std.specs.List.{list_any}
use Rattle.std.proofs.Common.{Bor, refl, sym, ap, subst, ◌∙◌, append_assoc}
use Rattle.std.proofs.lemmas.Bool.{or_parts}
use Rattle.std.proofs.lemmas.List.{append-nil}
use Rattle.std.proofs.lemmas.List.Folds.{list_any-append}
use Rattle.drf_role.specs.Text.{Text}
use Rattle.drf_role.specs.Path.{Path, same_path}
use Rattle.drf_role.specs.PathLaws.{same_path_itself}
use Rattle.drf_rows.specs.Members.{distinct, has_framework, new_client}
use Rattle.drf_rows.specs.Consistent.{IsConsistent, are_distinct_roles}
use Rattle.drf_rows.specs.declared.rows.Rows.{Rows}
use Rattle.drf_sorter.specs.Content.{Content, Ranked, has_client, with_client, without_client}
use Rattle.drf_content.specs.Content.{content_of}
use Rattle.drf_content.specs.Registering.{AreNew, client_paths, with_all}
use Rattle.drf_content.proofs.theorems.Members.{with_clients, has_client-another_role, content_of-no_clients, content_of-one_more_client}
use Rattle.drf_laws.proofs.theorems.Roles.{is_role, none_before, distinct_apart}

-- ---- borrowed roles

-- a test of borrowed roles is the test of the roles
pub list_any-seen : (role : Path) (seen : List (Bor Path))
    → list_any (λ r. same_path r.now role) seen ≡ list_any (is_role role) (map (λ r. r.now) seen)
list_any-seen role [] = refl
list_any-seen role (r ∷ seen) = ap (λ (b : Bool). same_path r.now role || b) (list_any-seen role seen)

-- ---- the clients are added one by one

module _ (rows : Rows) (name : Text) (right : IsConsistent rows) (new : has_framework rows name ≡ false) where
  -- after some clients of a new framework are added, the others are new
  all_new : (before roles : List Path) → are_distinct_roles (before ++ roles) ≡ true
      → AreNew (content_of (with_clients rows name before)) (client_paths name (map new_client roles))
  all_new before [] apart = tt
  all_new before (role ∷ roles) apart =
      let next = all_new (before ++ role ∷ []) roles (ap are_distinct_roles (append_assoc before (role ∷ []) roles) ∙ apart) in (
        has_client-another_role rows name before role new (none_before before role roles apart),
        subst (λ (k : Content). AreNew k (client_paths name (map new_client roles))) (content_of-one_more_client rows name before role right new) next,
      )

  all_added : (before roles : List Path)
      → with_all (content_of (with_clients rows name before)) (client_paths name (map new_client roles))
      ≡ content_of (with_clients rows name (before ++ roles))
  all_added before [] = ap (λ (rs : List Path). content_of (with_clients rows name rs)) (sym (append-nil before))
  all_added before (role ∷ roles) =
      ap (λ (k : Content). with_all k (client_paths name (map new_client roles))) (sym (content_of-one_more_client rows name before role right new))
      ∙ all_added (before ++ role ∷ []) roles
      ∙ ap (λ (rs : List Path). content_of (with_clients rows name rs)) (append_assoc before (role ∷ []) roles)

  -- the clients of a framework that registers are unknown to the sorter
  pub AreNew-registering : (roles : List Path) → AreNew (content_of rows) (client_paths name (map new_client (distinct roles)))
  AreNew-registering roles =
      subst (λ (k : Content). AreNew k (client_paths name (map new_client (distinct roles)))) (content_of-no_clients rows name)
      (all_new [] (distinct roles) (distinct_apart roles))

  -- after they are added, the content is what the new rows say
  pub content_of-registered : (roles : List Path)
      → with_all (content_of rows) (client_paths name (map new_client roles)) ≡ content_of (with_clients rows name roles)
  content_of-registered roles =
      ap (λ (k : Content). with_all k (client_paths name (map new_client roles))) (sym (content_of-no_clients rows name)) ∙ all_added [] roles

-- ---- a client is added and removed again

pub has_client-added : (content : Content) (path : Path) → has_client (with_client content path) path ≡ true
has_client-added content path =
    let added : Ranked = record { path = path; active = true; held = λ _. 0; count = 0 } in
    list_any-append (λ (c : Ranked). same_path c.path path) content.clients (added ∷ [])
    ∙ (λ i. list_any (λ (c : Ranked). same_path c.path path) content.clients || (same_path_itself path i || false))
    ∙ or_true (list_any (λ (c : Ranked). same_path c.path path) content.clients)
  where
    or_true : (b : Bool) → (b || true) ≡ true
    or_true true = refl
    or_true false = refl

-- removing a client that was just added restores the content
pub without-added : (content : Content) (path : Path) → has_client content path ≡ false
    → without_client (with_client content path) path ≡ content
without-added content path new = λ i. record content { clients = same content.clients new i }
  where
    added : Ranked
    added = record { path = path; active = true; held = λ _. 0; count = 0 }

    same : (cs : List Ranked) → list_any (λ (c : Ranked). same_path c.path path) cs ≡ false
        → filter (λ (c : Ranked). not (same_path c.path path)) (cs ++ added ∷ []) ≡ cs
    same [] none = rw (same_path_itself path) refl
    same (c ∷ cs) none =
        let parts = or_parts (same_path c.path path) (list_any (λ (c : Ranked). same_path c.path path) cs) none in
        rw (parts.0) (ap (λ (rs : List Ranked). c ∷ rs) (same cs parts.1))

pub first_new : (content : Content) (paths : List Path) (path : Path) (rest : List Path)
    → paths ≡ path ∷ rest → AreNew content paths → has_client content path ≡ false
first_new content paths path rest is new = (subst (AreNew content) is new).0

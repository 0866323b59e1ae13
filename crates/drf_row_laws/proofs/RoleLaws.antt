-- The state after the roles of a framework change: which clients are registered, and which hold something.
use Rattle.std.specs.Prelude.{◌≡◌, ℕ, ◌≤◌, Bool, true, false, not, ◌&&◌, ◌||◌, List, [], ◌∷◌, map, filter, sum_by, if◌then◌else◌}
use Rattle.std.specs.List.{list_any, AllByRecursion}
use Rattle.std.proofs.Common.{refl, sym, ap, ◌∙◌, inl, inr, arith}
use Rattle.std.proofs.lemmas.Bool.{cases_Bool, and_parts, or_left, or_right, or_cases, or_parts, false≢true}
use Rattle.std.proofs.lemmas.List.Folds.{list_any-append}
use Rattle.std.proofs.lemmas.List.Sums.{sum_by-cons, sum_by-append}
use Rattle.std.proofs.lemmas.Map.Views.{any-filter_same}
use Rattle.std.proofs.lemmas.Simd.{map-map}
use Rattle.drf_role.specs.Text.{Text, same_text}
use Rattle.drf_role.specs.TextLaws.{same_from_test}
use Rattle.drf_role.specs.Path.{Path, same_path}
use Rattle.drf_role.specs.PathLaws.{same_path-true}
use Rattle.drf_bundle.proofs.ListLaws.{list_any-map, sum_by-filter-cons, cond_le}
use Rattle.drf_rows.specs.Client.{Client}
use Rattle.drf_rows.specs.Holdings.{Holding, holdings_of}
use Rattle.drf_rows.specs.Held.{is_registered}
use Rattle.drf_rows.specs.Consistent.{offers_counted}
use Rattle.drf_rows.specs.Members.{distinct, new_client}
use Rattle.drf_rows.specs.Roles.{is_among, has_role, clients_kept, clients_joined, with_roles, roles_set_in, with_framework_roles, is_left, is_role_in_use, is_of_left, filters_without_left}
use Rattle.drf_rows.specs.declared.rows.ClientRow.{ClientRow}
use Rattle.drf_rows.specs.declared.rows.FilterRow.{FilterRow}
use Rattle.drf_rows.specs.declared.rows.FrameworkRow.{FrameworkRow}
use Rattle.drf_rows.specs.declared.rows.Rows.{Rows}

-- ---- roles without repetitions

pub any_distinct : (roles : List Path) (role : Path) → is_among (distinct roles) role ≡ is_among roles role
any_distinct [] role = refl
any_distinct (first ∷ roles) role = by (same_path first role) refl (any_distinct roles role)
  where
    by : (b : Bool) → same_path first role ≡ b → is_among (distinct roles) role ≡ is_among roles role
        → (b || is_among (filter (λ r. not (same_path first r)) (distinct roles)) role) ≡ (b || is_among roles role)
    by true here later = refl
    by false past later =
        any-filter_same (λ (r : Path). same_path r role) (λ r. not (same_path first r)) true
        (λ r same. ap (λ (p : Path). not (same_path first p)) (same_path-true r role same) ∙ ap not past) (distinct roles)
        ∙ later

-- ---- the roles of the clients afterwards

kept_role : (roles : List Path) (clients : List ClientRow) (role : Path)
    → has_role (clients_kept roles clients) role ≡ (is_among roles role && has_role clients role)
kept_role roles clients role =
    any-filter_same (λ (c : ClientRow). same_path c.role role) (λ c. is_among roles c.role) (is_among roles role)
    (λ c same. ap (is_among roles) (same_path-true c.role role same)) clients

joined_role : (roles : List Path) (clients : List ClientRow) (role : Path)
    → has_role (clients_joined roles clients) role ≡ (not (has_role clients role) && is_among roles role)
joined_role roles clients role =
    let new : Path → Bool = λ r. not (has_role clients r) in
    list_any-map (λ (c : ClientRow). same_path c.role role) new_client (filter new (distinct roles))
    ∙ any-filter_same (λ (r : Path). same_path r role) new (new role)
    (λ r same. ap new (same_path-true r role same)) (distinct roles)
    ∙ ap (λ (b : Bool). new role && b) (any_distinct roles role)

-- they have exactly the new roles
pub has_role-with_roles : (roles : List Path) (clients : List ClientRow) (role : Path)
    → has_role (with_roles roles clients) role ≡ is_among roles role
has_role-with_roles roles clients role =
    list_any-append (λ (c : ClientRow). same_path c.role role) (clients_kept roles clients) (clients_joined roles clients)
    ∙ (λ i. kept_role roles clients role i || joined_role roles clients role i)
    ∙ by (has_role clients role) (is_among roles role)
  where
    by : (had has : Bool) → ((has && had) || (not had && has)) ≡ has
    by true true = refl
    by true false = refl
    by false true = refl
    by false false = refl

-- ---- the frameworks

-- the clients of a framework afterwards
abbrev pub clients_then : Text → List Path → FrameworkRow → List ClientRow
clients_then name roles f = if same_text f.name name then with_roles roles f.clients else f.clients

abbrev pub with_clients_then : Text → List Path → FrameworkRow → FrameworkRow
with_clients_then name roles f = record f { clients = clients_then name roles f }

pub roles_set_in-is : (name : Text) (roles : List Path) (f : FrameworkRow) → roles_set_in name roles f ≡ with_clients_then name roles f
roles_set_in-is name roles f = by (same_text f.name name)
  where
    by : (b : Bool) → (if b then record f { clients = with_roles roles f.clients } else f)
        ≡ record f { clients = if b then with_roles roles f.clients else f.clients }
    by true = refl
    by false = refl

pub with_framework_roles-is : (rows : Rows) (name : Text) (roles : List Path)
    → with_framework_roles rows name roles ≡ map (with_clients_then name roles) rows.frameworks
with_framework_roles-is rows name roles = λ i. map (λ f. roles_set_in-is name roles f i) rows.frameworks

-- names do not change
pub names-with_framework_roles : (rows : Rows) (name : Text) (roles : List Path)
    → map (λ f. f.name) (with_framework_roles rows name roles) ≡ map (λ f. f.name) rows.frameworks
names-with_framework_roles rows name roles =
    ap (map (λ (f : FrameworkRow). f.name)) (with_framework_roles-is rows name roles)
    ∙ map-map (λ (f : FrameworkRow). f.name) (with_clients_then name roles) rows.frameworks

pub has_framework-with_framework_roles : (rows : Rows) (name : Text) (roles : List Path) (other : Text)
    → list_any (λ f. same_text f.name other) (with_framework_roles rows name roles) ≡ list_any (λ f. same_text f.name other) rows.frameworks
has_framework-with_framework_roles rows name roles other =
    ap (list_any (λ (f : FrameworkRow). same_text f.name other)) (with_framework_roles-is rows name roles)
    ∙ list_any-map (λ (f : FrameworkRow). same_text f.name other) (with_clients_then name roles) rows.frameworks

-- ---- which clients are registered

module _ (name : Text) (roles : List Path) (client : Client) where
  abbrev is_its : FrameworkRow → Bool
  is_its f = same_text f.name client.framework && has_role f.clients client.role

  -- a client that is not removed still belongs to its framework
  stays_in : is_left name roles client ≡ false → (f : FrameworkRow) → is_its f ≡ true → is_its (roles_set_in name roles f) ≡ true
  stays_in stays f its = by (same_text f.name name) refl
    where
      by : (b : Bool) → same_text f.name name ≡ b → is_its (if b then record f { clients = with_roles roles f.clients } else f) ≡ true
      by true here =
          let own = (and_parts (same_text f.name client.framework) (has_role f.clients client.role) its).0 in
          let its_name : client.framework ≡ f.name = sym (same_from_test f.name client.framework own) in
          let same : same_text client.framework name ≡ true = ap (λ (t : Text). same_text t name) its_name ∙ here in
          let among : is_among roles client.role ≡ true = among_from (same_text client.framework name) (is_among roles client.role) same stays in
          (λ i. own i && has_role-with_roles roles f.clients client.role i) ∙ among
        where
          among_from : (s a : Bool) → s ≡ true → (s && not a) ≡ false → a ≡ true
          among_from s true is left = refl
          among_from true false is left = absurd (false≢true (sym left))
          among_from false false is left = absurd (false≢true is)
      by false past = its

  -- so it stays registered
  pub is_registered-roles_set : is_left name roles client ≡ false → (frameworks : List FrameworkRow)
      → is_registered frameworks client ≡ true → is_registered (map (roles_set_in name roles) frameworks) client ≡ true
  is_registered-roles_set stays [] known = known
  is_registered-roles_set stays (f ∷ fs) known =
      let g : FrameworkRow = roles_set_in name roles f in
      let later : List FrameworkRow = map (roles_set_in name roles) fs in
      elim (or_cases (is_its f) (is_registered fs client) known) [
        | inl here ↦ or_left (is_its g) (is_registered later client) (stays_in stays f here)
        | inr past ↦ or_right (is_its g) (is_registered later client) (is_registered-roles_set stays fs past)
      ]

-- ---- holdings and filters

each_none : {X : Type 0} (p : X → Bool) (xs : List X) → list_any p xs ≡ false → AllByRecursion (λ x. p x ≡ false) xs
each_none p [] none = tt
each_none p (x ∷ xs) none =
    let both = or_parts (p x) (list_any p xs) none in
    (both.0, each_none p xs both.1)

-- if no role in use is left, no removed client holds anything
pub none_left_holds : (rows : Rows) (name : Text) (roles : List Path) → is_role_in_use rows name roles ≡ false
    → AllByRecursion (λ h. is_left name roles h.client ≡ false) (holdings_of rows)
none_left_holds rows name roles free = each_none (λ (h : Holding). is_left name roles h.client) (holdings_of rows) free

-- the remaining filters belong to clients that stay
pub each_stays : (name : Text) (roles : List Path) (filters : List FilterRow)
    → AllByRecursion (λ f. is_of_left name roles f ≡ false) (filters_without_left name roles filters)
each_stays name roles [] = tt
each_stays name roles (f ∷ fs) = elim (cases_Bool (is_of_left name roles f)) [
  | inl goes ↦ rw goes (each_stays name roles fs)
  | inr stays ↦ rw stays (stays, each_stays name roles fs)
]

-- ---- counts

-- new clients have the count 0
counted_new : (roles : List Path) → sum_by (λ c. c.count) (map new_client roles) ≡ 0
counted_new [] = refl
counted_new (role ∷ roles) =
    omega (arith, sum_by-cons (λ (c : ClientRow). c.count) (new_client role) (map new_client roles), counted_new roles)

counted_kept : (test : ClientRow → Bool) (clients : List ClientRow)
    → sum_by (λ c. c.count) (filter test clients) ≤ sum_by (λ c. c.count) clients
counted_kept test [] = omega arith
counted_kept test (c ∷ cs) = omega (
  arith,
  sum_by-filter-cons (λ (c : ClientRow). c.count) test c cs,
  cond_le (test c) c.count,
  sum_by-cons (λ (c : ClientRow). c.count) c cs,
  counted_kept test cs,
)

pub counted_with_roles : (roles : List Path) (clients : List ClientRow)
    → sum_by (λ c. c.count) (with_roles roles clients) ≤ sum_by (λ c. c.count) clients
counted_with_roles roles clients = omega (
  arith,
  sum_by-append (λ (c : ClientRow). c.count) (clients_kept roles clients) (clients_joined roles clients),
  counted_kept (λ c. is_among roles c.role) clients,
  counted_new (filter (λ role. not (has_role clients role)) (distinct roles)),
)

counted_then : (name : Text) (roles : List Path) (f : FrameworkRow)
    → sum_by (λ c. c.count) (clients_then name roles f) ≤ sum_by (λ c. c.count) f.clients
counted_then name roles f = by (same_text f.name name)
  where
    by : (b : Bool) → sum_by (λ c. c.count) (if b then with_roles roles f.clients else f.clients) ≤ sum_by (λ c. c.count) f.clients
    by true = counted_with_roles roles f.clients
    by false = omega arith

counted_all : (name : Text) (roles : List Path) (frameworks : List FrameworkRow)
    → offers_counted (map (with_clients_then name roles) frameworks) ≤ offers_counted frameworks
counted_all name roles [] = omega arith
counted_all name roles (f ∷ fs) =
    let counts : FrameworkRow → ℕ = λ f. sum_by (λ c. c.count) f.clients in
    omega (
      arith,
      sum_by-cons counts (with_clients_then name roles f) (map (with_clients_then name roles) fs),
      sum_by-cons counts f fs,
      counted_then name roles f,
      counted_all name roles fs,
    )

pub offers_counted-roles_set : (rows : Rows) (name : Text) (roles : List Path)
    → offers_counted (with_framework_roles rows name roles) ≤ offers_counted rows.frameworks
offers_counted-roles_set rows name roles =
    omega (arith, ap offers_counted (with_framework_roles-is rows name roles), counted_all name roles rows.frameworks)

-- After the roles of a framework change, a consistent state is consistent, and the framework has one client for each
-- role of the list.
use Rattle.std.specs.Prelude.{◌≡◌, ℕ, ◌≤◌, suc, Bool, true, false, not, ◌&&◌, ◌||◌, List, [], ◌∷◌, ◌++◌, length, map, filter, if◌then◌else◌}
use Rattle.std.specs.List.{list_any, list_all, AllByRecursion}
use Rattle.std.proofs.Common.{refl, sym, ap, subst, ◌∙◌, inl, inr, arith}
use Rattle.std.proofs.lemmas.Bool.{cases_Bool, and_parts, and_from, not-true, false≢true}
use Rattle.std.proofs.lemmas.List.{length-map, map-append}
use Rattle.std.proofs.lemmas.Map.Views.{any-filter_same}
use Rattle.drf_role.specs.Text.{Text, same_text}
use Rattle.drf_role.specs.Path.{Path, same_path}
use Rattle.drf_role.specs.PathLaws.{same_path_itself, same_path-true}
use Rattle.drf_role.proofs.PathLaws.{same_path-swap}
use Rattle.drf_role.specs.Role.{IsRole}
use Rattle.drf_bundle.proofs.ListLaws.{list_any-map, each_from, each_append, each_map, each_from_both, each_filter, each_found, filter_each}
use Rattle.drf_rows.specs.Holdings.{holdings_of}
use Rattle.drf_rows.specs.Consistent.{are_distinct, are_distinct_roles, IsFramework, AreFrameworks, IsHeld, IsFilter, IsConsistent}
use Rattle.drf_rows.specs.Members.{distinct}
use Rattle.drf_rows.specs.Roles.{is_among, has_role, clients_kept, clients_joined, with_roles, with_framework_roles, is_left, is_role_in_use, is_of_left, filters_without_left, framework_set}
use Rattle.drf_rows.specs.declared.rows.ClientRow.{ClientRow}
use Rattle.drf_rows.specs.declared.rows.FrameworkRow.{FrameworkRow}
use Rattle.drf_rows.specs.declared.rows.Rows.{Rows}
use Rattle.drf_row_laws.proofs.RoleLaws.{any_distinct, has_role-with_roles, clients_then, with_clients_then, with_framework_roles-is, names-with_framework_roles, is_registered-roles_set, none_left_holds, each_stays, offers_counted-roles_set}
use Rattle.drf_laws.proofs.theorems.Roles.{is_role, is_other, apart-filter, distinct_apart, each-distinct, roles_of_new}

-- ---- lists

pub map-filter : {X Y : Type 0} (g : X → Y) (p : Y → Bool) (xs : List X) → map g (filter (λ x. p (g x)) xs) ≡ filter p (map g xs)
map-filter g p [] = refl
map-filter {X} {Y} g p (x ∷ xs) = elim (cases_Bool (p (g x))) [
  | inl stays ↦ rw stays (ap (λ (ys : List Y). g x ∷ ys) (map-filter g p xs))
  | inr goes ↦ rw goes (map-filter g p xs)
]

all-append : {X : Type 0} (p : X → Bool) (xs ys : List X) → list_all p xs ≡ true → list_all p ys ≡ true → list_all p (xs ++ ys) ≡ true
all-append p [] ys all more = more
all-append p (x ∷ xs) ys all more =
    let parts = and_parts (p x) (list_all p xs) all in
    and_from (p x) (list_all p (xs ++ ys)) parts.0 (all-append p xs ys parts.1 more)

-- two lists without repetitions and without a common role, appended
apart-append : (xs ys : List Path) → are_distinct_roles xs ≡ true → are_distinct_roles ys ≡ true
    → AllByRecursion (λ x. list_all (is_other x) ys ≡ true) xs → are_distinct_roles (xs ++ ys) ≡ true
apart-append [] ys first second apart = second
apart-append (x ∷ xs) ys first second apart =
    let parts = and_parts (list_all (is_other x) xs) (are_distinct_roles xs) first in
    and_from (list_all (is_other x) (xs ++ ys)) (are_distinct_roles (xs ++ ys))
    (all-append (is_other x) xs ys parts.0 apart.0) (apart-append xs ys parts.1 second apart.1)

-- ---- the roles of the clients

abbrev pub roles_of : List ClientRow → List Path
roles_of clients = map (λ c. c.role) clients

-- the roles of the list that no client had
abbrev roles_joined : List Path → List ClientRow → List Path
roles_joined roles clients = filter (λ role. not (has_role clients role)) (distinct roles)

roles_of-with_roles : (roles : List Path) (clients : List ClientRow)
    → roles_of (with_roles roles clients) ≡ filter (is_among roles) (roles_of clients) ++ roles_joined roles clients
roles_of-with_roles roles clients =
    map-append (λ (c : ClientRow). c.role) (clients_kept roles clients) (clients_joined roles clients)
    ∙ (λ i. map-filter (λ (c : ClientRow). c.role) (is_among roles) clients i ++ roles_of_new (roles_joined roles clients) i)

has_role-roles_of : (clients : List ClientRow) (role : Path) → list_any (is_role role) (roles_of clients) ≡ has_role clients role
has_role-roles_of clients role = list_any-map (is_role role) (λ (c : ClientRow). c.role) clients

-- a role that some client has is not among the new ones
none_joined : (roles : List Path) (clients : List ClientRow) (role : Path) → has_role clients role ≡ true
    → (rs : List Path) → list_all (is_other role) (filter (λ r. not (has_role clients r)) rs) ≡ true
none_joined roles clients role has [] = refl
none_joined roles clients role has (r ∷ rs) = elim (cases_Bool (has_role clients r)) [
  | inl had ↦ rw had (none_joined roles clients role has rs)
  | inr new ↦ rw new (and_from (is_other role r) (list_all (is_other role) (filter (λ r. not (has_role clients r)) rs))
      (elim (cases_Bool (same_path role r)) [
        | inl same ↦ absurd (false≢true (sym new ∙ ap (has_role clients) (sym (same_path-true role r same)) ∙ has))
        | inr other ↦ ap not other
      ])
      (none_joined roles clients role has rs))
]

pub apart-with_roles : (roles : List Path) (clients : List ClientRow) → are_distinct_roles (roles_of clients) ≡ true
    → are_distinct_roles (roles_of (with_roles roles clients)) ≡ true
apart-with_roles roles clients apart =
    let kept : List Path = filter (is_among roles) (roles_of clients) in
    let had : AllByRecursion (λ r. has_role clients r ≡ true) (roles_of clients) =
    each_from (λ r. list_any (λ s. same_path s r) (roles_of clients) ≡ true) (λ r. has_role clients r ≡ true) (roles_of clients)
    (λ r found. sym (has_role-roles_of clients r) ∙ found) (each_found same_path (roles_of clients) same_path_itself) in
    ap are_distinct_roles (roles_of-with_roles roles clients)
    ∙ apart-append kept (roles_joined roles clients)
    (apart-filter (is_among roles) (roles_of clients) apart)
    (apart-filter (λ role. not (has_role clients role)) (distinct roles) (distinct_apart roles))
    (each_from (λ r. has_role clients r ≡ true) (λ r. list_all (is_other r) (roles_joined roles clients) ≡ true) kept
    (λ r has. none_joined roles clients r has (distinct roles))
    (each_filter (λ r. has_role clients r ≡ true) (is_among roles) (roles_of clients) had))

pub valid-with_roles : (roles : List Path) (clients : List ClientRow) → AllByRecursion IsRole roles → AllByRecursion IsRole (roles_of clients)
    → AllByRecursion IsRole (roles_of (with_roles roles clients))
valid-with_roles roles clients given valid =
    subst (AllByRecursion IsRole) (sym (roles_of-with_roles roles clients))
    (each_append IsRole (filter (is_among roles) (roles_of clients)) (roles_joined roles clients)
    (each_filter IsRole (is_among roles) (roles_of clients) valid)
    (each_filter IsRole (λ role. not (has_role clients role)) (distinct roles) (each-distinct IsRole roles given)))

-- ---- how many clients there are

pass_each : (p : Path → Bool) (rs : List Path) → list_all p rs ≡ true → AllByRecursion (λ r. p r ≡ true) rs
pass_each p [] all = tt
pass_each p (r ∷ rs) all =
    let parts = and_parts (p r) (list_all p rs) all in
    (parts.0, pass_each p rs parts.1)

-- a list without repetitions consists of one of its roles and the others
one_fewer : (x : Path) (ys : List Path) → are_distinct_roles ys ≡ true → list_any (is_role x) ys ≡ true
    → length ys ≡ suc (length (filter (is_other x) ys))
one_fewer x [] apart has = absurd (false≢true has)
one_fewer x (y ∷ ys) apart has =
    let parts = and_parts (list_all (is_other y) ys) (are_distinct_roles ys) apart in
    elim (cases_Bool (same_path y x)) [
      | inl same ↦
          let itself : same_path x y ≡ true = same_path-swap x y ∙ same in
          let all : filter (is_other x) ys ≡ ys =
          ap (λ (r : Path). filter (is_other r) ys) (sym (same_path-true y x same)) ∙ filter_each (is_other y) ys (pass_each (is_other y) ys parts.0) in
          rw itself (sym (ap (λ (rs : List Path). suc (length rs)) all))
      | inr other ↦
          let past : same_path x y ≡ false = same_path-swap x y ∙ other in
          let later : list_any (is_role x) ys ≡ true = sym (ap (λ (b : Bool). b || list_any (is_role x) ys) other) ∙ has in
          rw past (ap suc (one_fewer x ys parts.1 later))
    ]

none_of : (x : Path) (xs : List Path) → list_all (is_other x) xs ≡ true → list_any (is_role x) xs ≡ false
none_of x [] all = refl
none_of x (y ∷ ys) all =
    let parts = and_parts (is_other x y) (list_all (is_other x) ys) all in
    let here : same_path y x ≡ false = same_path-swap y x ∙ not-true (same_path x y) parts.0 in
    rw here (none_of x ys parts.1)

-- two lists without repetitions that have the same roles have the same length
same_length : (xs ys : List Path) → are_distinct_roles xs ≡ true → are_distinct_roles ys ≡ true
    → ((r : Path) → list_any (is_role r) xs ≡ list_any (is_role r) ys) → length xs ≡ length ys
same_length [] [] first second same = refl
same_length [] (y ∷ ys) first second same =
    absurd (false≢true (same y ∙ ap (λ (b : Bool). b || list_any (is_role y) ys) (same_path_itself y)))
same_length (x ∷ xs) ys first second same =
    let parts = and_parts (list_all (is_other x) xs) (are_distinct_roles xs) first in
    let has : list_any (is_role x) ys ≡ true = sym (same x) ∙ ap (λ (b : Bool). b || list_any (is_role x) xs) (same_path_itself x) in
    let others : List Path = filter (is_other x) ys in
    let rest : (r : Path) → list_any (is_role r) xs ≡ list_any (is_role r) others = λ r.
    by r (same_path x r) refl parts.0
    ∙ ap (λ (b : Bool). is_other x r && b) (same r)
    ∙ sym (any-filter_same (is_role r) (is_other x) (is_other x r)
    (λ s is. ap (is_other x) (same_path-true s r is)) ys) in
    ap suc (same_length xs others parts.1 (apart-filter (is_other x) ys second) rest) ∙ sym (one_fewer x ys second has)
  where
    by : (r : Path) (b : Bool) → same_path x r ≡ b → list_all (is_other x) xs ≡ true
        → list_any (is_role r) xs ≡ (not b && (b || list_any (is_role r) xs))
    by r true here all = ap (λ (s : Path). list_any (is_role s) xs) (sym (same_path-true x r here)) ∙ none_of x xs all
    by r false past all = refl

-- there is one client for each role of the list
pub length-with_roles : (roles : List Path) (clients : List ClientRow) → are_distinct_roles (roles_of clients) ≡ true
    → length (with_roles roles clients) ≡ length (distinct roles)
length-with_roles roles clients apart =
    sym (length-map (with_roles roles clients) (λ (c : ClientRow). c.role))
    ∙ same_length (roles_of (with_roles roles clients)) (distinct roles)
    (apart-with_roles roles clients apart) (distinct_apart roles)
    (λ r. has_role-roles_of (with_roles roles clients) r ∙ has_role-with_roles roles clients r ∙ sym (any_distinct roles r))

-- ---- the state

module _ (rows : Rows) (name : Text) (roles : List Path) where
  abbrev changed_to : FrameworkRow → FrameworkRow
  changed_to = with_clients_then name roles

  abbrev changed_all : List FrameworkRow
  changed_all = with_framework_roles rows name roles

  same_frameworks : map changed_to rows.frameworks ≡ changed_all
  same_frameworks = sym (with_framework_roles-is rows name roles)

  AreFrameworks-roles_set : AllByRecursion IsRole roles → AreFrameworks rows.frameworks → AreFrameworks changed_all
  AreFrameworks-roles_set given right =
      let HasRoles : FrameworkRow → Type 0 = λ f. are_distinct_roles (roles_of f.clients) ≡ true in
      record {
        names = ap are_distinct (names-with_framework_roles rows name roles) ∙ right.names;
        roles = subst (AllByRecursion HasRoles) same_frameworks (each_map HasRoles changed_to rows.frameworks
            (each_from HasRoles (λ f. HasRoles (changed_to f)) rows.frameworks apart_then right.roles));
        each = subst (AllByRecursion IsFramework) same_frameworks (each_map IsFramework changed_to rows.frameworks
            (each_from IsFramework (λ f. IsFramework (changed_to f)) rows.frameworks valid_then right.each));
      }
    where
      apart_then : (f : FrameworkRow) → are_distinct_roles (roles_of f.clients) ≡ true
          → are_distinct_roles (roles_of (clients_then name roles f)) ≡ true
      apart_then f apart = by (same_text f.name name)
        where
          by : (b : Bool) → are_distinct_roles (roles_of (if b then with_roles roles f.clients else f.clients)) ≡ true
          by true = apart-with_roles roles f.clients apart
          by false = apart

      valid_then : (f : FrameworkRow) → IsFramework f → IsFramework (changed_to f)
      valid_then f valid = record { name = valid.name; roles = by (same_text f.name name) }
        where
          by : (b : Bool) → AllByRecursion IsRole (roles_of (if b then with_roles roles f.clients else f.clients))
          by true = valid-with_roles roles f.clients given valid.roles
          by false = valid.roles

  pub IsConsistent-roles_set : IsConsistent rows → AllByRecursion IsRole roles → is_role_in_use rows name roles ≡ false
      → IsConsistent (framework_set rows name roles)
  IsConsistent-roles_set consistent given free = record {
    agents = consistent.agents;
    frameworks = AreFrameworks-roles_set given consistent.frameworks;
    holdings = each_from_both (IsHeld rows.agents rows.frameworks) (λ h. is_left name roles h.client ≡ false)
        (IsHeld rows.agents changed_all) (holdings_of rows)
        (λ h held stays. record {
          agent = held.agent;
          client = is_registered-roles_set name roles h.client stays rows.frameworks held.client;
          bundle = held.bundle;
        })
        consistent.holdings (none_left_holds rows name roles free);
    covered = consistent.covered;
    tasks = consistent.tasks;
    weights = consistent.weights;
    limits = consistent.limits;
    filters = each_from_both (IsFilter rows.agents rows.frameworks) (λ f. is_of_left name roles f ≡ false)
        (IsFilter rows.agents changed_all) (filters_without_left name roles rows.filters)
        (λ f right stays. record {
          agent = right.agent;
          client = is_registered-roles_set name roles (record { role = f.role; framework = f.framework }) stays rows.frameworks right.client;
          bundle = right.bundle;
          until = right.until;
        })
        (each_filter (IsFilter rows.agents rows.frameworks) (λ f. not (is_of_left name roles f)) rows.filters consistent.filters)
        (each_stays name roles rows.filters);
    early = consistent.early;
    counted = omega (arith, offers_counted-roles_set rows name roles, consistent.counted);
    numbered = consistent.numbered;
  }

-- each framework has at most as many clients as before, or as the list has roles
pub roles-set : (most : ℕ) (rows : Rows) (name : Text) (roles : List Path) → AreFrameworks rows.frameworks → length (distinct roles) ≤ most
    → AllByRecursion (λ f. length f.clients ≤ most) rows.frameworks
    → AllByRecursion (λ f. length f.clients ≤ most) (with_framework_roles rows name roles)
roles-set most rows name roles right few all =
    let Few : FrameworkRow → Type 0 = λ f. length f.clients ≤ most in
    let HasRoles : FrameworkRow → Type 0 = λ f. are_distinct_roles (roles_of f.clients) ≡ true in
    subst (AllByRecursion Few) (same_frameworks rows name roles) (each_map Few (with_clients_then name roles) rows.frameworks
    (each_from_both HasRoles Few (λ f. Few (with_clients_then name roles f)) rows.frameworks few_then right.roles all))
  where
    few_then : (f : FrameworkRow) → are_distinct_roles (roles_of f.clients) ≡ true → length f.clients ≤ most
        → length (clients_then name roles f) ≤ most
    few_then f apart own = by (same_text f.name name)
      where
        by : (b : Bool) → length (if b then with_roles roles f.clients else f.clients) ≤ most
        by true = omega (arith, few, length-with_roles roles f.clients apart)
        by false = own

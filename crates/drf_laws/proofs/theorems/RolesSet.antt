-- Setting the roles of a framework: it gets the listed ones, loses the others, and keeps the clients that stay.
use Rattle.std.specs.Prelude.{◌≡◌, Bool, true, false, not, ◌&&◌, ◌||◌, List, [], ◌∷◌, ◌++◌, map, filter, if◌then◌else◌}
use Rattle.std.specs.List.{list_any, AllByRecursion}
use Rattle.std.proofs.Common.{refl, sym, ap, subst, ◌∙◌, inl, inr}
use Rattle.std.proofs.lemmas.Bool.{cases_Bool, and_parts, not-true, false≢true, or_parts}
use Rattle.std.proofs.lemmas.List.{append-nil}
use Rattle.drf_role.specs.Text.{Text, same_text}
use Rattle.drf_role.specs.TextLaws.{same_from_test}
use Rattle.drf_role.specs.Path.{Path, same_path}
use Rattle.drf_role.specs.PathLaws.{same_path_itself, same_path-true}
use Rattle.drf_bundle.proofs.ListLaws.{none_has, each_from, each_append, each_made, each_filter, each_found, each_true, filter_each, any_fails}
use Rattle.drf_rows.specs.Client.{Client}
use Rattle.drf_rows.specs.Consistent.{are_distinct, IsFilter}
use Rattle.drf_rows.specs.Filters.{is_of_client}
use Rattle.drf_rows.specs.Held.{client_of, is_registered}
use Rattle.drf_rows.specs.Members.{distinct, new_client}
use Rattle.drf_rows.specs.Roles.{is_among, has_role, clients_kept, clients_joined, with_roles, roles_set_in, with_framework_roles, is_of_left, filters_without_left}
use Rattle.drf_rows.specs.Step.{effect}
use Rattle.drf_rows.specs.declared.rows.ClientRow.{ClientRow}
use Rattle.drf_rows.specs.declared.rows.FilterRow.{FilterRow}
use Rattle.drf_rows.specs.declared.rows.FrameworkRow.{FrameworkRow}
use Rattle.drf_row_laws.proofs.ConsistentLaws.{same_text-swap}
use Rattle.drf_row_laws.specs.LifeLaws.{is_same_client}
use Rattle.drf_row_laws.proofs.RoleLaws.{has_role-with_roles, with_clients_then, with_framework_roles-is, each_stays}
use Rattle.drf_laws.specs.RoleChangeLaws.{ListedRolesAreSet, OtherClientsStayRegistered, SameRolesChangeNothing, TakenAgainIsNew}
use Rattle.drf_laws.proofs.theorems.Clients.{unregistered}
use Rattle.drf_laws.proofs.theorems.Roles.{each-distinct}

-- ---- which clients are registered

module _ (name : Text) (roles : List Path) where
  abbrev named : FrameworkRow → Bool
  named f = same_text f.name name

  registered_set : (role : Path) (fs : List FrameworkRow)
      → is_registered (map (with_clients_then name roles) fs) (record { role = role; framework = name }) ≡ (list_any named fs && is_among roles role)
  registered_set role [] = refl
  registered_set role (f ∷ fs) =
      (λ i. here (named f) i || registered_set role fs i) ∙ both (named f) (list_any named fs) (is_among roles role)
    where
      here : (b : Bool) → (b && has_role (if b then with_roles roles f.clients else f.clients) role) ≡ (b && is_among roles role)
      here true = has_role-with_roles roles f.clients role
      here false = refl

      both : (a b among : Bool) → ((a && among) || (b && among)) ≡ ((a || b) && among)
      both true true true = refl
      both true true false = refl
      both true false true = refl
      both true false false = refl
      both false b among = refl

  registered_others : (client : Client) → same_text client.framework name ≡ false → (fs : List FrameworkRow)
      → is_registered (map (with_clients_then name roles) fs) client ≡ is_registered fs client
  registered_others client other [] = refl
  registered_others client other (f ∷ fs) = λ i. here (named f) refl i || registered_others client other fs i
    where
      here : (b : Bool) → named f ≡ b
          → (same_text f.name client.framework && has_role (if b then with_roles roles f.clients else f.clients) client.role)
          ≡ (same_text f.name client.framework && has_role f.clients client.role)
      here true is =
          let past : same_text f.name client.framework ≡ false =
          ap (λ (t : Text). same_text t client.framework) (same_from_test f.name name is) ∙ same_text-swap name client.framework ∙ other in
          ap (λ (b : Bool). b && has_role (with_roles roles f.clients) client.role) past
          ∙ sym (ap (λ (b : Bool). b && has_role f.clients client.role) past)
      here false past = refl

pub listed_roles_are_set : ListedRolesAreSet
unfolding effect
listed_roles_are_set rows framework roles role known =
    ap (λ (fs : List FrameworkRow). is_registered fs (record { role = role; framework = framework })) (with_framework_roles-is rows framework roles)
    ∙ registered_set framework roles role rows.frameworks
    ∙ ap (λ (b : Bool). b && is_among roles role) known

pub other_clients_stay_registered : OtherClientsStayRegistered
unfolding effect
other_clients_stay_registered rows framework roles client other =
    ap (λ (fs : List FrameworkRow). is_registered fs client) (with_framework_roles-is rows framework roles)
    ∙ registered_others framework roles client other rows.frameworks

-- ---- the same roles

none_pass : {X : Type 0} (p : X → Bool) (xs : List X) → AllByRecursion (λ x. p x ≡ true) xs → filter (λ x. not (p x)) xs ≡ []
none_pass p [] all = refl
none_pass p (x ∷ xs) all = rw all.0 (none_pass p xs all.1)

same_roles : (roles : List Path) (clients : List ClientRow) → ((role : Path) → has_role clients role ≡ is_among roles role)
    → with_roles roles clients ≡ clients
same_roles roles clients same =
    let had = each_found (λ (a b : ClientRow). same_path a.role b.role) clients (λ c. same_path_itself c.role) in
    let kept : clients_kept roles clients ≡ clients =
    filter_each (λ (c : ClientRow). is_among roles c.role) clients
    (each_from (λ c. has_role clients c.role ≡ true) (λ c. is_among roles c.role ≡ true) clients (λ c has. sym (same c.role) ∙ has) had) in
    let listed = each-distinct (λ r. is_among roles r ≡ true) roles (each_found same_path roles same_path_itself) in
    let joined : clients_joined roles clients ≡ [] =
    ap (map new_client) (none_pass (has_role clients) (distinct roles)
    (each_from (λ r. is_among roles r ≡ true) (λ r. has_role clients r ≡ true) (distinct roles) (λ r among. same r ∙ among) listed)) in
    (λ i. kept i ++ joined i) ∙ append-nil clients

-- frameworks with other names stay as they are
others_as_before : (name : Text) (roles : List Path) (fs : List FrameworkRow) → list_any (λ f. same_text f.name name) fs ≡ false
    → map (roles_set_in name roles) fs ≡ fs
others_as_before name roles [] none = refl
others_as_before name roles (f ∷ fs) none =
    let both = or_parts (same_text f.name name) (list_any (λ f. same_text f.name name) fs) none in
    λ i. past both.0 i ∷ others_as_before name roles fs both.1 i
  where
    past : same_text f.name name ≡ false → roles_set_in name roles f ≡ f
    past other = ap (λ (b : Bool). if b then record f { clients = with_roles roles f.clients } else f) other

pub no_other : (name : Text) (fs : List FrameworkRow) (f : FrameworkRow) → same_text f.name name ≡ true
    → none_has same_text (λ (g : FrameworkRow). g.name) f.name fs ≡ true → list_any (λ g. same_text g.name name) fs ≡ false
no_other name [] f is none = refl
no_other name (g ∷ gs) f is none =
    let parts = and_parts (not (same_text f.name g.name)) (none_has same_text (λ (g : FrameworkRow). g.name) f.name gs) none in
    let here : same_text g.name name ≡ false =
    ap (same_text g.name) (sym (same_from_test f.name name is)) ∙ same_text-swap g.name f.name ∙ not-true (same_text f.name g.name) parts.0 in
    rw here (no_other name gs f is parts.1)

same_frameworks : (name : Text) (roles : List Path) (fs : List FrameworkRow) → are_distinct (map (λ f. f.name) fs) ≡ true
    → ((role : Path) → is_registered fs (record { role = role; framework = name }) ≡ is_among roles role)
    → map (roles_set_in name roles) fs ≡ fs
same_frameworks name roles [] apart same = refl
same_frameworks name roles (f ∷ fs) apart same =
    let parts = and_parts (none_has same_text (λ (g : FrameworkRow). g.name) f.name fs) (are_distinct (map (λ g. g.name) fs)) apart in
    by (same_text f.name name) refl parts.0 (same_frameworks name roles fs parts.1)
  where
    by : (b : Bool) → same_text f.name name ≡ b → none_has same_text (λ (g : FrameworkRow). g.name) f.name fs ≡ true
        → (((role : Path) → is_registered fs (record { role = role; framework = name }) ≡ is_among roles role)
        → map (roles_set_in name roles) fs ≡ fs)
        → map (roles_set_in name roles) (f ∷ fs) ≡ f ∷ fs
    by true is none later =
        let no : list_any (λ (g : FrameworkRow). same_text g.name name) fs ≡ false = no_other name fs f is none in
        let own : (role : Path) → has_role f.clients role ≡ is_among roles role = λ role.
        own_role (same_text f.name name) (has_role f.clients role) (is_registered fs (record { role = role; framework = name }))
        (is_among roles role) is (unregistered fs (record { role = role; framework = name }) no) (same role) in
        λ i. (ap (λ (b : Bool). if b then record f { clients = with_roles roles f.clients } else f) is
        ∙ (λ j. record f { clients = same_roles roles f.clients own j })) i ∷ others_as_before name roles fs no i
      where
        own_role : (this has known among : Bool) → this ≡ true → known ≡ false → ((this && has) || known) ≡ among → has ≡ among
        own_role true true known among is past same = same
        own_role true false known among is past same = sym past ∙ same
        own_role false has known among is past same = absurd (false≢true is)
    by false past none later =
        let rest : (role : Path) → is_registered fs (record { role = role; framework = name }) ≡ is_among roles role = λ role.
        sym (ap (λ (b : Bool). (b && has_role f.clients role) || is_registered fs (record { role = role; framework = name })) past) ∙ same role in
        λ i. ap (λ (b : Bool). if b then record f { clients = with_roles roles f.clients } else f) past i ∷ later rest i

pub same_roles_change_nothing : SameRolesChangeNothing
unfolding effect
same_roles_change_nothing rows framework roles consistent same =
    let frameworks = same_frameworks framework roles rows.frameworks consistent.frameworks.names same in
    let filters : filters_without_left framework roles rows.filters ≡ rows.filters =
    filter_each (λ f. not (is_of_left framework roles f)) rows.filters
    (each_from (IsFilter rows.agents rows.frameworks) (λ f. not (is_of_left framework roles f) ≡ true) rows.filters stays consistent.filters) in
    λ i. record rows { frameworks = frameworks i; filters = filters i }
  where
    stays : (f : FilterRow) → IsFilter rows.agents rows.frameworks f → not (is_of_left framework roles f) ≡ true
    stays f is = by (same_text f.framework framework) refl
      where
        by : (b : Bool) → same_text f.framework framework ≡ b → not (b && not (is_among roles f.role)) ≡ true
        by true own =
            let known : is_registered rows.frameworks (record { role = f.role; framework = framework }) ≡ true =
            ap (λ (t : Text). is_registered rows.frameworks (record { role = f.role; framework = t })) (sym (same_from_test f.framework framework own))
            ∙ is.client in
            ap (λ (b : Bool). not (not b)) (sym (same f.role) ∙ known)
        by false other = refl

-- ---- a role that is left and taken again

-- if no client had the role, the client that has it is new
module _ (role : Path) where
  abbrev IsNew : ClientRow → Type 0
  IsNew c = same_path c.role role ≡ true → c ≡ new_client role

  each_without : (clients : List ClientRow) → has_role clients role ≡ false → AllByRecursion IsNew clients
  each_without [] none = tt
  each_without (c ∷ cs) none =
      let both = or_parts (same_path c.role role) (has_role cs role) none in
      (λ same. absurd (false≢true (sym both.0 ∙ same)), each_without cs both.1)

  each_new : (roles : List Path) (clients : List ClientRow) → has_role clients role ≡ false → AllByRecursion IsNew (with_roles roles clients)
  each_new roles clients none =
      each_append IsNew (clients_kept roles clients) (clients_joined roles clients)
      (each_filter IsNew (λ c. is_among roles c.role) clients (each_without clients none))
      (each_made IsNew new_client (filter (λ r. not (has_role clients r)) (distinct roles))
      (λ r same. ap new_client (same_path-true r role same)))

module _ (client : Client) (without roles : List Path) (left : is_among without client.role ≡ false) where
  abbrev IsNewIn : FrameworkRow → Type 0
  IsNewIn f = AllByRecursion (λ c. is_same_client client (client_of f c) ≡ true → c ≡ new_client client.role) f.clients

  new_in : (f : FrameworkRow)
      → IsNewIn (with_clients_then client.framework roles (with_clients_then client.framework without f))
  new_in f = by (same_text f.name client.framework) refl
    where
      New : ClientRow → Type 0
      New c = (same_path c.role client.role && same_text f.name client.framework) ≡ true → c ≡ new_client client.role

      by : (b : Bool) → same_text f.name client.framework ≡ b
          → AllByRecursion New (if b then with_roles roles (if b then with_roles without f.clients else f.clients)
          else (if b then with_roles without f.clients else f.clients))
      by true own =
          each_from (IsNew client.role) New (with_roles roles (with_roles without f.clients))
          (λ c new same. new (and_parts (same_path c.role client.role) (same_text f.name client.framework) same).0)
          (each_new client.role roles (with_roles without f.clients) (has_role-with_roles without f.clients client.role ∙ left))
      by false other =
          each_from (λ c. ◌≡◌ {A = Bool} true true) New f.clients
          (λ c any same. absurd (false≢true (sym other
          ∙ (and_parts (same_path c.role client.role) (same_text f.name client.framework) same).1)))
          (each_true f.clients)

  all_new : (fs : List FrameworkRow)
      → AllByRecursion IsNewIn (map (with_clients_then client.framework roles) (map (with_clients_then client.framework without) fs))
  all_new [] = tt
  all_new (f ∷ fs) = (new_in f, all_new fs)

  no_filter : (f : FilterRow) → is_of_left client.framework without f ≡ false → is_of_client client f ≡ false
  no_filter f stays = elim (cases_Bool (is_of_client client f)) [
    | inl its ↦
        let parts = and_parts (same_path f.role client.role) (same_text f.framework client.framework) its in
        let gone : is_among without f.role ≡ false = ap (is_among without) (same_path-true f.role client.role parts.0) ∙ left in
        absurd (false≢true (sym stays ∙ (λ i. parts.1 i && not (gone i))))
    | inr others ↦ others
  ]

pub taken_again_is_new : TakenAgainIsNew
unfolding effect
taken_again_is_new rows client without roles left =
    let first = with_framework_roles-is rows client.framework without in
    let again : with_framework_roles (record rows { frameworks = with_framework_roles rows client.framework without }) client.framework roles
    ≡ map (with_clients_then client.framework roles) (map (with_clients_then client.framework without) rows.frameworks) =
    with_framework_roles-is (record rows { frameworks = with_framework_roles rows client.framework without }) client.framework roles
    ∙ ap (map (with_clients_then client.framework roles)) first in (
      subst (AllByRecursion (IsNewIn client without roles left)) (sym again) (all_new client without roles left rows.frameworks),
      any_fails (is_of_client client) (filters_without_left client.framework roles (filters_without_left client.framework without rows.filters))
          (each_filter (λ f. is_of_client client f ≡ false) (λ f. not (is_of_left client.framework roles f))
          (filters_without_left client.framework without rows.filters)
          (each_from (λ f. is_of_left client.framework without f ≡ false) (λ f. is_of_client client f ≡ false)
          (filters_without_left client.framework without rows.filters) (no_filter client without roles left)
          (each_stays client.framework without rows.filters))),
    )

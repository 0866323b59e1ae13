-- The rows after the roles of a framework change.
use Rattle.std.specs.List.{AllByRecursion}
use Rattle.std.specs.Global.{Vec}
use Rattle.std.specs.Map.{lookup}
use Rattle.std.specs.Option.{option_map}
use Rattle.std.proofs.Common.{refl, sym, ap, ◌∙◌, subst, arith, inl, inr, ◌≡◌, ◌+◌, ◌-◌, Bool, true, false, not, List, [], ◌∷◌, length, map, find, Option, Some, None, is_some, ◌≤◌, if◌then◌else◌}
use Rattle.std.proofs.lemmas.Bool.{cases_Bool, and_parts, not-true, false≢true}
use Rattle.drf_role.specs.TextLaws.{same_from_test}
use Rattle.drf_role.specs.Path.{Path}
use Rattle.drf_role.specs.Role.{IsRole}
use Rattle.drf_rows.specs.Roles.{framework_set, is_role_in_use, roles_set_in, with_roles, filters_without_left}
use Rattle.drf_rows.specs.declared.rows.FilterRow.{FilterRow}
use Rattle.drf_laws.proofs.theorems.RoleChanges.{IsConsistent-roles_set}
use Rattle.drf_laws.proofs.theorems.RoleCounts.{others_stay}
use Rattle.drf_tables.proofs.tables.Names.{Text, has_framework, same_text, same_text-swap, none_has, are_distinct, changed, count_clients, clients_of, framework_row, framework_rows, AreDerived, rows_in, Inside, ClientRow, FrameworkRow, Rows}
use Rattle.drf_tables.specs.Inside.{rows_of}
use Rattle.drf_tables.proofs.tables.Fields.{has_framework-rows_in}
use Rattle.drf_tables.proofs.agents.Changes.{rows_but, frameworks_apart}
use Rattle.drf_tables.proofs.cycle.Counted.{count_clients-cons}
use Rattle.drf_tables.proofs.registry.Entries.{counted-removed, found-lookup}

module _ (name : Text) (clients : Vec ClientRow) where
  -- the entries after the clients of the framework are replaced
  abbrev pub put_at : List (Text × Vec ClientRow) → List (Text × Vec ClientRow)
  put_at es = map (changed name (λ _. clients)) es

  -- no other entry has the name
  nobody : (e : Text × Vec ClientRow) (es : List (Text × Vec ClientRow)) → same_text name e.0 ≡ true
      → none_has same_text (λ (f : FrameworkRow). f.name) e.0 (framework_rows es) ≡ true
      → none_has same_text (λ (f : FrameworkRow). f.name) name (framework_rows es) ≡ true
  nobody e es same none = ap (λ m. none_has same_text (λ (f : FrameworkRow). f.name) m (framework_rows es)) (same_from_test name e.0 same) ∙ none

  unput : (es : List (Text × Vec ClientRow)) → none_has same_text (λ (f : FrameworkRow). f.name) name (framework_rows es) ≡ true
      → put_at es ≡ es
  unput [] none = refl
  unput (e ∷ es) none =
      let parts = and_parts (not (same_text name e.0)) (none_has same_text (λ (f : FrameworkRow). f.name) name (framework_rows es)) none in
      let past : same_text e.0 name ≡ false = same_text-swap e.0 name ∙ not-true (same_text name e.0) parts.0 in
      rw past (ap (λ (l : List (Text × Vec ClientRow)). e ∷ l) (unput es parts.1))

  module _ (roles : List Path) where
    -- if the clients are those of the new roles, the rows are those after the roles change
    pub rows-put : (es : List (Text × Vec ClientRow)) → are_distinct (map (λ f. f.name) (framework_rows es)) ≡ true
        → ((v : Vec ClientRow) → lookup (same_text name) es ≡ Some v → clients.items ≡ with_roles roles v.items)
        → framework_rows (put_at es) ≡ map (roles_set_in name roles) (framework_rows es)
    rows-put [] apart those = refl
    rows-put (e ∷ es) apart those =
        let parts = and_parts (none_has same_text (λ (f : FrameworkRow). f.name) e.0 (framework_rows es)) (are_distinct (map (λ f. f.name) (framework_rows es))) apart in
        let swap = same_text-swap e.0 name in
        elim (cases_Bool (same_text name e.0)) [
          | inl same ↦
              let none = nobody e es same parts.0 in
              let its : clients.items ≡ with_roles roles e.1.items =
              those e.1 (ap (λ (b : Bool). if b then Some e.1 else lookup (same_text name) es) same) in
              rw (swap ∙ same) (λ i. record { name = e.0; clients = its i } ∷ (ap framework_rows (unput es none) ∙ sym (others_stay name roles (framework_rows es) none)) i)
          | inr other ↦
              rw (swap ∙ other) (ap (λ (l : List FrameworkRow). framework_row e ∷ l) (rows-put es parts.1
              (λ v found. those v (ap (λ (b : Bool). if b then Some e.1 else lookup (same_text name) es) other ∙ found))))
        ]

  -- the number of clients is that of the other frameworks plus the new ones
  pub counted-put : (es : List (Text × Vec ClientRow)) (v : Vec ClientRow) → are_distinct (map (λ f. f.name) (framework_rows es)) ≡ true
      → lookup (same_text name) es ≡ Some v
      → count_clients (framework_rows (put_at es)) + length v.items ≡ count_clients (framework_rows es) + length clients.items
  counted-put [] v apart found = cc
  counted-put (e ∷ es) v apart found =
      let parts = and_parts (none_has same_text (λ (f : FrameworkRow). f.name) e.0 (framework_rows es)) (are_distinct (map (λ f. f.name) (framework_rows es))) apart in
      let swap = same_text-swap e.0 name in
      let first = count_clients-cons (framework_row e) (framework_rows es) in
      elim (cases_Bool (same_text name e.0)) [
        | inl same ↦
            let there : ◌≡◌ {A = Option (Vec ClientRow)} (Some e.1) (Some v) =
            sym (ap (λ (b : Bool). if b then Some e.1 else lookup (same_text name) es) same) ∙ found in
            let its : e.1 ≡ v = cc in
            let many : length e.1.items ≡ length v.items = λ i. length (its i).items in
            let rest : count_clients (framework_rows (put_at es)) ≡ count_clients (framework_rows es) =
            ap (λ (l : List (Text × Vec ClientRow)). count_clients (framework_rows l)) (unput es (nobody e es same parts.0)) in
            rw (swap ∙ same) (omega (arith, first, many, rest, count_clients-cons (framework_row (e.0, clients)) (framework_rows (put_at es))))
        | inr other ↦
            let later = sym (ap (λ (b : Bool). if b then Some e.1 else lookup (same_text name) es) other) ∙ found in
            rw (swap ∙ other) (omega (arith, first, counted-put es v parts.1 later, count_clients-cons (framework_row e) (framework_rows (put_at es))))
      ]

-- ---- the fields

-- the framework is registered and has these clients
pub record IsKnownFramework (name : Text) (es : List (Text × Vec ClientRow)) : Type 0 where
  pub clients : Vec ClientRow
  pub found : lookup (same_text name) es ≡ Some clients

pub known_framework : (t : Inside) (name : Text) → has_framework (rows_in t) name ≡ true → IsKnownFramework name t.frameworks.entries
known_framework t name known = by (lookup (same_text name) t.frameworks.entries) refl
  where
    by : (o : Option (Vec ClientRow)) → lookup (same_text name) t.frameworks.entries ≡ o → IsKnownFramework name t.frameworks.entries
    by (Some v) is = record { clients = v; found = is }
    by None is = absurd (false≢true (sym (ap is_some is) ∙ sym (has_framework-rows_in t name) ∙ known))

module _ (t : Inside) (kept : AreDerived (rows_in t) t.agents.entries t.total t.clients) (name : Text) (roles : List Path)
    (clients v : Vec ClientRow) (found : lookup (same_text name) t.frameworks.entries ≡ Some v)
    (those : (f : FrameworkRow) → find (λ f. same_text f.name name) (rows_in t).frameworks ≡ Some f → clients.items ≡ with_roles roles f.clients) where
  abbrev pub entries_put : List (Text × Vec ClientRow)
  entries_put = map (changed name (λ _. clients)) t.frameworks.entries

  -- the clients are those of the new roles
  its : (w : Vec ClientRow) → lookup (same_text name) t.frameworks.entries ≡ Some w → clients.items ≡ with_roles roles w.items
  unfolding rows_of
  its w at =
      those (framework_row (name, w))
      (found-lookup framework_row (λ f. f.name) name t.frameworks.entries (λ e. refl)
      ∙ ap (option_map (λ (v : Vec ClientRow). framework_row (name, v))) at)

  -- the framework has at most as many clients as there are in all
  pub clients-had : length v.items ≤ t.clients
  unfolding rows_of
  clients-had = omega (arith, kept.clients, counted-removed name t.frameworks.entries v found)

  pub clients-set : t.clients + length clients.items ≡ length (clients_of (framework_set (rows_in t) name roles)) + length v.items
  unfolding rows_of
  clients-set =
      let put = rows-put name clients roles t.frameworks.entries (frameworks_apart t kept) its in
      let many = ap count_clients put in
      omega (arith, kept.clients, many, counted-put name clients t.frameworks.entries v (frameworks_apart t kept) found)

  module _ (filters : List FilterRow) (left : filters ≡ filters_without_left name roles t.filters) where
    pub rows-set : rows_but t t.agents.entries entries_put filters ≡ framework_set (rows_in t) name roles
    unfolding rows_of
    rows-set =
        let put = rows-put name clients roles t.frameworks.entries (frameworks_apart t kept) its in
        λ i. record (rows_in t) { frameworks = put i; filters = left i }

    pub kept-set : AllByRecursion IsRole roles → is_role_in_use (rows_in t) name roles ≡ false
        → AreDerived (rows_but t t.agents.entries entries_put filters) t.agents.entries t.total (t.clients - length v.items + length clients.items)
    kept-set given unused =
        let new : Rows = framework_set (rows_in t) name roles in
        let number = t.clients - length v.items + length clients.items in
        subst (λ (r : Rows). AreDerived r t.agents.entries t.total number) (sym rows-set) (record {
          consistent = IsConsistent-roles_set (rows_in t) name roles kept.consistent given unused;
          free = kept.free;
          total = kept.total;
          clients = omega (arith, clients-set, clients-had);
          few = kept.few;
        })

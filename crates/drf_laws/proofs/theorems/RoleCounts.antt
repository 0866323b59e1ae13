-- How many clients there are after the roles of a framework change.
use Rattle.std.specs.Prelude.{◌≡◌, ◌+◌, Bool, true, false, not, List, [], ◌∷◌, length, map, find, Option, Some, if◌then◌else◌}
use Rattle.std.specs.List.{list_any, AllByRecursion}
use Rattle.std.proofs.Common.{refl, sym, ap, ◌∙◌, inl, inr, arith, length-append}
use Rattle.std.proofs.lemmas.Bool.{cases_Bool, and_parts, or_parts, not-true}
use Rattle.std.proofs.lemmas.List.{length-map}
use Rattle.drf_role.specs.Text.{Text, same_text}
use Rattle.drf_role.specs.TextLaws.{same_from_test}
use Rattle.drf_role.specs.Path.{Path}
use Rattle.drf_bundle.proofs.ListLaws.{none_has}
use Rattle.drf_row_laws.proofs.ConsistentLaws.{same_text-swap}
use Rattle.drf_rows.specs.Consistent.{IsConsistent, are_distinct, are_distinct_roles}
use Rattle.drf_rows.specs.Held.{client_of, clients_in, clients_of}
use Rattle.drf_rows.specs.Members.{distinct, has_framework}
use Rattle.drf_rows.specs.Roles.{roles_set_in, with_framework_roles, with_roles}
use Rattle.drf_rows.specs.declared.rows.FrameworkRow.{FrameworkRow}
use Rattle.drf_rows.specs.declared.rows.Rows.{Rows}
use Rattle.drf_laws.proofs.theorems.RoleChanges.{length-with_roles, roles_of}

clients_in-cons : (f : FrameworkRow) (fs : List FrameworkRow) → length (clients_in (f ∷ fs)) ≡ length f.clients + length (clients_in fs)
clients_in-cons f fs =
    length-append (map (client_of f) f.clients) (clients_in fs)
    ∙ ap (λ n. n + length (clients_in fs)) (length-map f.clients (client_of f))

module _ (name : Text) (roles : List Path) where
  -- frameworks with other names stay
  pub others_stay : (fs : List FrameworkRow) → none_has same_text (λ (f : FrameworkRow). f.name) name fs ≡ true → map (roles_set_in name roles) fs ≡ fs
  others_stay [] none = refl
  others_stay (f ∷ fs) none =
      let parts = and_parts (not (same_text name f.name)) (none_has same_text (λ (f : FrameworkRow). f.name) name fs) none in
      let past : same_text f.name name ≡ false = same_text-swap f.name name ∙ not-true (same_text name f.name) parts.0 in
      rw past (ap (λ (l : List FrameworkRow). f ∷ l) (others_stay fs parts.1))

  unknown_stay : (fs : List FrameworkRow) → list_any (λ f. same_text f.name name) fs ≡ false → map (roles_set_in name roles) fs ≡ fs
  unknown_stay [] none = refl
  unknown_stay (f ∷ fs) none =
      let parts = or_parts (same_text f.name name) (list_any (λ f. same_text f.name name) fs) none in
      rw parts.0 (ap (λ (l : List FrameworkRow). f ∷ l) (unknown_stay fs parts.1))

  number_then : (fs : List FrameworkRow) (f : FrameworkRow) → are_distinct (map (λ f. f.name) fs) ≡ true
      → AllByRecursion (λ f. are_distinct_roles (roles_of f.clients) ≡ true) fs
      → find (λ f. same_text f.name name) fs ≡ Some f
      → length (clients_in (map (roles_set_in name roles) fs)) + length f.clients ≡ length (clients_in fs) + length (distinct roles)
  number_then [] f apart each found = cc
  number_then (g ∷ gs) f apart each found =
      let parts = and_parts (none_has same_text (λ (f : FrameworkRow). f.name) g.name gs) (are_distinct (map (λ f. f.name) gs)) apart in
      let first = clients_in-cons g gs in
      elim (cases_Bool (same_text g.name name)) [
        | inl same ↦
            let both : ◌≡◌ {A = Option FrameworkRow} (Some g) (Some f) = ap (λ (b : Bool). if b then Some g else find (λ f. same_text f.name name) gs) (sym same) ∙ found in
            let its : g ≡ f = cc in
            let many : length g.clients ≡ length f.clients = λ i. length (its i).clients in
            let none : none_has same_text (λ (f : FrameworkRow). f.name) name gs ≡ true =
            ap (λ m. none_has same_text (λ (f : FrameworkRow). f.name) m gs) (sym (same_from_test g.name name same)) ∙ parts.0 in
            let changed : FrameworkRow = record g { clients = with_roles roles g.clients } in
            let rest = ap (λ (l : List FrameworkRow). length (clients_in l)) (others_stay gs none) in
            rw same (omega (arith, first, many, rest, clients_in-cons changed (map (roles_set_in name roles) gs), length-with_roles roles g.clients each.0))
        | inr other ↦
            let later = ap (λ (b : Bool). if b then Some g else find (λ f. same_text f.name name) gs) (sym other) ∙ found in
            rw other (omega (arith, first, number_then gs f parts.1 each.1 later, clients_in-cons g (map (roles_set_in name roles) gs)))
      ]

-- if the framework is not registered, nothing changes
pub frameworks-unknown : (rows : Rows) (name : Text) (roles : List Path) → has_framework rows name ≡ false
    → with_framework_roles rows name roles ≡ rows.frameworks
frameworks-unknown rows name roles none = unknown_stay name roles rows.frameworks none

-- afterwards the framework has one client for each role of the list
pub clients-then : (rows : Rows) (name : Text) (roles : List Path) (f : FrameworkRow) → IsConsistent rows
    → find (λ f. same_text f.name name) rows.frameworks ≡ Some f
    → length (clients_in (with_framework_roles rows name roles)) + length f.clients ≡ length (clients_of rows) + length (distinct roles)
clients-then rows name roles f consistent found =
    number_then name roles rows.frameworks f consistent.frameworks.names consistent.frameworks.roles found

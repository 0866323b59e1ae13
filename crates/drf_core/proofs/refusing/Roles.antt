-- The numbers of roles and of clients after the roles of a framework change.
use Rattle.std.specs.Prelude.{◌≡◌, ℕ, ◌+◌, ◌≤◌, Bool, false, ◌||◌, List, [], ◌∷◌, length, map, find, Option, Some, nat_lt, if◌then◌else◌}
use Rattle.std.proofs.Common.{sym, ap, ◌∙◌, inl, inr, arith, length-append}
use Rattle.std.proofs.lemmas.Bool.{cases_Bool, le-ltb}
use Rattle.std.proofs.lemmas.List.{length-map}
use Rattle.drf_role.specs.Text.{Text, same_text}
use Rattle.drf_role.specs.Path.{Path}
use Rattle.drf_rows.specs.Consistent.{IsConsistent}
use Rattle.drf_rows.specs.Held.{client_of, clients_in, clients_of}
use Rattle.drf_rows.specs.LimitNumbers.{LimitNumbers}
use Rattle.drf_rows.specs.Members.{distinct, has_framework}
use Rattle.drf_rows.specs.Roles.{too_many_roles, with_framework_roles}
use Rattle.drf_rows.specs.declared.rows.FrameworkRow.{FrameworkRow}
use Rattle.drf_rows.specs.declared.rows.Rows.{Rows}
use Rattle.drf_laws.proofs.theorems.RoleCounts.{clients-then, frameworks-unknown}

-- a framework has at most as many clients as there are in all
pub clients_within : (fs : List FrameworkRow) (p : FrameworkRow → Bool) (f : FrameworkRow) → find p fs ≡ Some f
    → length f.clients ≤ length (clients_in fs)
clients_within [] p f found = cc
clients_within (g ∷ gs) p f found =
    let whole = length-append (map (client_of g) g.clients) (clients_in gs) in
    let own = length-map g.clients (client_of g) in
    elim (cases_Bool (p g)) [
      | inl here ↦
          let both : ◌≡◌ {A = Option FrameworkRow} (Some g) (Some f) = ap (λ (b : Bool). if b then Some g else find p gs) (sym here) ∙ found in
          let its : g ≡ f = cc in
          let many : length g.clients ≡ length f.clients = λ i. length (its i).clients in
          omega (arith, whole, own, many)
      | inr past ↦
          let later = ap (λ (b : Bool). if b then Some g else find p gs) (sym past) ∙ found in
          omega (arith, whole, own, clients_within gs p f later)
    ]

module _ (limits : LimitNumbers) (rows : Rows) (framework : Text) (roles : List Path) (few : length (distinct roles) ≤ limits.roles) where
  few_roles : (clients : ℕ) → clients ≡ length (clients_in (with_framework_roles rows framework roles))
      → nat_lt limits.clients clients ≡ too_many_roles limits rows framework roles
  few_roles clients is =
      ap (nat_lt limits.clients) is
      ∙ sym (ap (λ (b : Bool). b || nat_lt limits.clients (length (clients_in (with_framework_roles rows framework roles))))
      (le-ltb limits.roles (length (distinct roles)) few))

  pub of_unknown : has_framework rows framework ≡ false → nat_lt limits.clients (length (clients_of rows)) ≡ too_many_roles limits rows framework roles
  of_unknown none = few_roles (length (clients_of rows)) (sym (ap (λ (fs : List FrameworkRow). length (clients_in fs)) (frameworks-unknown rows framework roles none)))

  pub of_known : (f : FrameworkRow) (clients : ℕ) → IsConsistent rows → find (λ f. same_text f.name framework) rows.frameworks ≡ Some f
      → clients + length f.clients ≡ length (clients_of rows) + length (distinct roles)
      → nat_lt limits.clients clients ≡ too_many_roles limits rows framework roles
  of_known f clients consistent found sum =
      few_roles clients (omega (arith, sum, clients-then rows framework roles f consistent found))

-- Reading a written text gives the value from which it was written.
use Rattle.std.proofs.Common.{◌≡◌, ℕ, ◌<◌, ◌^◌, List, [], ◌∷◌, map, All, Result, Ok, Err, OnOk, refl, sym, ap, subst}
use Rattle.std.proofs.lemmas.List.Elements.{All-head, All-tail}
use Rattle.drf_role.specs.Name.{IsName}
use Rattle.drf_role.specs.Role.{IsRole}
use Rattle.drf_role.specs.Parts.{parts_of, text_of}
use Rattle.drf_role.proofs.TestLaws.{name_decides, role_decides}
use Rattle.drf_bundle.specs.Bundle.{IsBundle}
use Rattle.drf_bundle.specs.declared.quantities.Entry.{Entry}
use Rattle.drf_bundle.specs.declared.resource.Resource.{Resource}
use Rattle.drf_text.specs.Meaning.{quantities_meant}
use Rattle.drf_text.specs.RoundTrip.{BundleIsRead, WeightIsRead}
use Rattle.drf_text.specs.Written.{bundle_text, quantities_text, amount_text}
use Rattle.drf_lines.specs.Words.{name_in, role_in, roles_in}
use Rattle.drf_lines.specs.Resources.{bundle_in, quantities_in, weight_in}

-- what holds in any case holds if there is a value
pub holds_at_ok : {T E : Type 0} (r : Result T E) (P : Type 0) → P → OnOk r P
holds_at_ok (Ok x) P holds = holds
holds_at_ok (Err error) P holds = tt

pub name_read : (name : List ℕ) → IsName name → name_in name ≡ Ok name
unfolding name_in
name_read name is = rw ((name_decides name).1 is) refl

-- reading the text of a role gives the role
abbrev pub IsRoleRead : List (List ℕ) → Type 0
IsRoleRead role = role_in (text_of role) ≡ Ok role

pub role_read : (role : List (List ℕ)) → IsRole role → parts_of (text_of role) ≡ role → IsRoleRead role
unfolding role_in
role_read role is parts = rw ((role_decides (text_of role)).1 (subst IsRole (sym parts) is)) (ap Ok parts)

pub roles_read : (roles : List (List (List ℕ))) → All IsRoleRead roles → roles_in (map text_of roles) ≡ Ok roles
unfolding roles_in
roles_read [] each = refl
roles_read (role ∷ roles) each = rw (All-head IsRoleRead role roles each, roles_read roles (All-tail IsRoleRead role roles each)) refl

pub bundle_said : (total : List Resource) → BundleIsRead → IsBundle total → bundle_in (bundle_text total) ≡ Ok total
unfolding bundle_in
bundle_said total law is = rw (law total is) refl

pub quantities_said : (entries : List Entry) → quantities_meant (quantities_text entries) ≡ Ok entries
    → quantities_in (quantities_text entries) ≡ Ok entries
unfolding quantities_in
quantities_said entries is = rw is refl

pub weight_said : (weight : ℕ) → WeightIsRead → weight < 2 ^ 64 → weight_in (amount_text weight) ≡ Ok weight
unfolding weight_in
weight_said weight law small = rw (law weight small) refl

-- Clients: which are registered, and that only these hold anything.
use Rattle.std.proofs.Common.{refl, ◌≡◌, ◌+◌, true, List, [], ◌∷◌, Some, sym, ap, subst, ◌∙◌, inl, inr, cond}
use Rattle.std.specs.List.{AllByRecursion, list_any}
use Rattle.drf_role.specs.Text.{Text, same_text}
use Rattle.drf_role.specs.Path.{Path, role_part, framework_part, same_path}
use Rattle.drf_role.proofs.PathLaws.{role_part-client_path, framework_part-client_path, same_path-client_path}
use Rattle.drf_rows.specs.Client.{Client, path_of}
use Rattle.drf_rows.specs.Held.{is_registered}
use Rattle.drf_rows.specs.declared.rows.AgentRow.{AgentRow}
use Rattle.std.specs.Prelude.{◌&&◌, ◌||◌, Bool, false, map, find}
use Rattle.std.proofs.lemmas.Bool.{cases_Bool, false≢true, and_parts}
use Rattle.drf_role.specs.TextLaws.{same_from_test}
use Rattle.drf_rows.specs.Holdings.{Holding, held_where, amount_in, is_of}
use Rattle.drf_row_laws.proofs.HoldingsLaws.{held_where-cons}
use Rattle.drf_rows.specs.Consistent.{IsHeld, are_distinct}
use Rattle.drf_row_laws.proofs.ConsistentLaws.{has_its_role, same_text-swap}
use Rattle.drf_rows.specs.declared.rows.FrameworkRow.{FrameworkRow}
use Rattle.drf_bundle.proofs.ListLaws.{none_has, only_none, each_from}

-- clients with the same path are equal
pub path_of-injective : (c d : Client) → path_of c ≡ path_of d → c ≡ d
path_of-injective c d same =
    let roles : c.role ≡ d.role = sym (role_part-client_path c.role c.framework) ∙ (ap role_part same ∙ role_part-client_path d.role d.framework) in
    let names : c.framework ≡ d.framework = sym (framework_part-client_path c.role c.framework) ∙ (ap framework_part same ∙ framework_part-client_path d.role d.framework) in
    λ i. record { role = roles i; framework = names i }

-- ---- frameworks that are not registered

-- the row is that of the client's framework
abbrev pub is_framework : Client → FrameworkRow → Bool
is_framework client f = same_text f.name client.framework

-- if a framework is not registered, none of its clients is
pub unregistered : (frameworks : List FrameworkRow) (client : Client)
    → list_any (is_framework client) frameworks ≡ false → is_registered frameworks client ≡ false
unregistered [] client new = refl
unregistered (f ∷ fs) client new =
    by (is_framework client f) (list_any (is_framework client) fs) (is_registered fs client) new
    (unregistered fs client)
  where
    by : (here later known : Bool) → (here || later) ≡ false → (later ≡ false → known ≡ false)
        → ((here && list_any (has_its_role client) f.clients) || known) ≡ false
    by true later known none next = cc
    by false later known none next = next none

-- a client whose framework is not registered holds nothing, because all holdings belong to registered clients
module _ (agents : List AgentRow) (frameworks : List FrameworkRow) (client : Client)
    (new : list_any (is_framework client) frameworks ≡ false) where
  held_by_another : (h : Holding) → IsHeld agents frameworks h → is_of (path_of client) h ≡ false
  held_by_another h held =
      let test = same_path-client_path h.client.role client.role h.client.framework client.framework in
      elim (cases_Bool (same_text h.client.framework client.framework)) [
        | inl same ↦
            let one : h.client.framework ≡ client.framework = same_from_test h.client.framework client.framework same in
            let none = subst (λ (t : Text). list_any (λ f. same_text f.name t) frameworks ≡ false) (sym one) new in
            let unknown = unregistered frameworks h.client none in
            absurd (false≢true (sym unknown ∙ held.client))
        | inr other ↦ test ∙ ap (λ (b : Bool). b && same_path h.client.role client.role) other
      ]

  pub nothing_held : (hs : List Holding) (label : Text)
      → AllByRecursion (IsHeld agents frameworks) hs → held_where (is_of (path_of client)) hs label ≡ 0
  nothing_held [] label held = refl
  nothing_held (h ∷ hs) label held =
      held_where-cons (is_of (path_of client)) h hs label
      ∙ (λ i. cond (held_by_another h held.0 i) (amount_in label h) 0 + nothing_held hs label held.1 i)

-- ---- the framework with a name

abbrev pub named : Text → FrameworkRow → Bool
named name f = same_text f.name name

-- only one framework has the name
pub one_named : (name : Text) (fs : List FrameworkRow) (f : FrameworkRow)
    → are_distinct (map (λ g. g.name) fs) ≡ true → find (named name) fs ≡ Some f
    → AllByRecursion (λ g. named name g ≡ true → g ≡ f) fs
one_named name [] f apart found = tt
one_named name (g ∷ gs) f apart found = by (named name g) refl (λ this. one_named name gs f parts.1 this) found
  where
    parts : (none_has same_text (λ (h : FrameworkRow). h.name) g.name gs ≡ true) × (are_distinct (map (λ h. h.name) gs) ≡ true)
    parts = and_parts (none_has same_text (λ (h : FrameworkRow). h.name) g.name gs) (are_distinct (map (λ h. h.name) gs)) apart

    Others : (h : FrameworkRow) → Type 0
    Others h = same_text g.name h.name ≡ true → h ≡ g

    by : (b : Bool) → named name g ≡ b
        → (find (named name) gs ≡ Some f → AllByRecursion (λ h. named name h ≡ true → h ≡ f) gs)
        → cond b (Some g) (find (named name) gs) ≡ Some f
        → AllByRecursion (λ h. named name h ≡ true → h ≡ f) (g ∷ gs)
    by true here later this =
        let same : g ≡ f = cc in
        let is : g.name ≡ name = same_from_test g.name name here in
        let others = only_none same_text (λ (h : FrameworkRow). h.name) g gs parts.0 in (
          λ _. same,
          each_from Others (λ h. named name h ≡ true → h ≡ f) gs
              (λ h only there. only (ap (λ (t : Text). same_text t h.name) is ∙ same_text-swap name h.name ∙ there) ∙ same) others,
        )
    by false past later this = (λ there. absurd (false≢true (sym past ∙ there)), later this)

-- each of its clients is registered
pub role_registered : (name : Text) (fs : List FrameworkRow) (f : FrameworkRow) (role : Path)
    → find (named name) fs ≡ Some f → list_any (λ c. same_path c.role role) f.clients ≡ true
    → is_registered fs (record { role = role; framework = name }) ≡ true
role_registered name [] f role found has = cc
role_registered name (g ∷ gs) f role found has = by (named name g) (λ this. role_registered name gs f role this has) found
  where
    by : (b : Bool) → (find (named name) gs ≡ Some f → is_registered gs (record { role = role; framework = name }) ≡ true)
        → cond b (Some g) (find (named name) gs) ≡ Some f
        → ((b && list_any (λ c. same_path c.role role) g.clients) || is_registered gs (record { role = role; framework = name })) ≡ true
    by true later this =
        let same : g ≡ f = cc in
        ap (λ (h : FrameworkRow). list_any (λ c. same_path c.role role) h.clients || is_registered gs (record { role = role; framework = name })) same
        ∙ ap (λ (b : Bool). b || is_registered gs (record { role = role; framework = name })) has
    by false later this = later this

-- Statements about filters, which `filters_law` proves.
use Rattle.std.specs.Prelude.{◌≡◌, ℕ, ◌<◌, ◌≤◌, List, All, IsTrue, Contains}
use Rattle.drf_role.specs.Text.{Text}
use Rattle.drf_bundle.specs.Value.{Point}
use Rattle.drf_bundle.specs.Bundle.{Key, IsBundle, units}
use Rattle.drf_bundle.specs.declared.resource.Resource.{Resource}
use Rattle.drf_rows.specs.Client.{Client}
use Rattle.drf_rows.specs.Filters.{in_force, is_held_back}
use Rattle.drf_rows.specs.declared.rows.FilterRow.{FilterRow}

-- from a time on, what is held back depends only on the filters in force at that time
abbrev pub SpentHoldNothing : Type 0
SpentHoldNothing = (filters : List FilterRow) (now later : ℕ) (client : Client) (agent : Text) (bundle : List Resource) → now ≤ later
    → is_held_back (in_force now filters) later client agent bundle ≡ is_held_back filters later client agent bundle

-- a filter in force holds back, from its client on its agent, each bundle whose units it covers
abbrev pub LessIsHeldBack : Type 0
LessIsHeldBack = (filters : List FilterRow) (f : FilterRow) (clock : ℕ) (bundle : List Resource)
    → Contains filters f → clock < f.until → IsBundle f.bundle → IsBundle bundle
    → ((key : Key) (p : Point) → units bundle key p ≤ units f.bundle key p)
    → IsTrue (is_held_back filters clock (record { role = f.role; framework = f.framework }) f.agent bundle)

-- what is held back from a client on an agent is covered by a filter in force of this client on this agent
abbrev pub HeldBackIsRefused : Type 0
HeldBackIsRefused = (filters : List FilterRow) (clock : ℕ) (client : Client) (agent : Text) (bundle : List Resource)
    → IsTrue (is_held_back filters clock client agent bundle) → All (λ f. IsBundle f.bundle) filters → IsBundle bundle
    → (f : FilterRow) × Contains filters f × (clock < f.until)
    × (f.role ≡ client.role) × (f.framework ≡ client.framework) × (f.agent ≡ agent)
    × ((key : Key) (p : Point) → units bundle key p ≤ units f.bundle key p)

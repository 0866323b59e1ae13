-- A registry: entries found by name, in order, in slots of which some are free.
use Rattle.std.specs.Prelude.{◌≡◌, ℕ, zero, suc, List, [], ◌∷◌, length, get_or, take, Option, Some, None}
use Rattle.drf_bundle.specs.declared.resource.Resource.{Resource}
use Rattle.drf_hash.specs.Slots.{filled}
use Rattle.drf_role.specs.Text.{Text}
use Rattle.drf_tables.specs.declared.tables.Agent.{Agent}

-- a registry as callers see it
pub record Registered (A : Type 0) : Type 0 where
  -- the entries, with their names, in order
  pub entries : List (Text × A)
  -- the number of slots, including free ones
  pub slots : ℕ
  -- how many entries can be added without memory
  pub room : ℕ

-- the name of an entry
abbrev pub name_of : {A : Type 0} → Text × A → Text
name_of e = e.0

-- the slot is in use, and `number` slots before it are in use
pub record IsRanked {X : Type 0} (slots : List (Option X)) (number slot : ℕ) : Type 0 where
  pub entry : X
  pub there : get_or slots slot None ≡ Some entry
  pub before : length (filled (take slot slots)) ≡ number

-- the agents after the free resources of one are set
abbrev pub with_free_at : List (Text × Agent) → ℕ → List Resource → List (Text × Agent)
with_free_at [] place free = []
with_free_at (e ∷ es) zero free = (e.0, record e.1 { free = Some free }) ∷ es
with_free_at (e ∷ es) (suc place) free = e ∷ with_free_at es place free

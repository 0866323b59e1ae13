-- Which texts are roles, and which roles are below others. A role is the list of its components.
use Rattle.std.specs.Prelude.{◌≡◌, ◌≢◌, ℕ, ◌≤◌, ◌⊎◌, List, [], ◌∷◌, ◌++◌, length, All, Some, slice_get, codes}
use Rattle.std.specs.Char.{IsAsciiGraphic}
use Rattle.drf_role.specs.Parts.{text_of}

-- a visible ASCII character other than `/`, `(`, `)`, `:` and `;`
pub record IsComponentByte (b : ℕ) : Type 0 where
  pub visible : IsAsciiGraphic b
  pub no_slash : b ≢ 47
  pub no_open : b ≢ 40
  pub no_close : b ≢ 41
  pub no_colon : b ≢ 58
  pub no_semicolon : b ≢ 59

pub record IsComponent (component : List ℕ) : Type 0 where
  pub not_empty : component ≢ []
  pub no_dot : component ≢ codes "."
  pub no_dots : component ≢ codes ".."
  pub no_star : component ≢ codes "*"
  pub no_dash : slice_get component 0 ≢ Some 45
  pub alphabet : All IsComponentByte component

-- the default role, `*`
abbrev pub default_role : List (List ℕ)
default_role = codes "*" ∷ []

-- 1 to 8 valid components, whose text has at most 64 bytes
pub record IsRolePath (components : List (List ℕ)) : Type 0 where
  pub some : 1 ≤ length components
  pub few : length components ≤ 8
  pub short : length (text_of components) ≤ 64
  pub each : All IsComponent components

abbrev pub IsRole : List (List ℕ) → Type 0
IsRole components = (components ≡ default_role) ⊎ IsRolePath components

-- it is the text of some role
abbrev pub IsRoleText : List ℕ → Type 0
IsRoleText text = (components : List (List ℕ)) × IsRole components × (text_of components ≡ text)

-- the components of the ancestor are a proper prefix of the role's
abbrev pub IsAncestor : List (List ℕ) → List (List ℕ) → Type 0
IsAncestor ancestor role = (below : List (List ℕ)) × (below ≢ []) × (ancestor ++ below ≡ role)

-- the same role, or one below it
abbrev pub IsWithin : List (List ℕ) → List (List ℕ) → Type 0
IsWithin role outer = (role ≡ outer) ⊎ IsAncestor outer role

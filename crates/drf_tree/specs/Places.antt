-- The places of nodes by number.
use Rattle.std.specs.Prelude.{◌≡◌, ◌<◌, ℕ, true, List, Option}
use Rattle.drf_tree.specs.declared.node.Place.{Place}
use Rattle.drf_tree.specs.Nodes.{is_node}

-- the place at each number, and how many more numbers can be added without allocating
pub record Numbered : Type 0 where
  pub items : List (Option Place)
  pub room : ℕ

-- all numbers below `end` are in use
abbrev pub AreTaken : List (Option Place) → ℕ → Type 0
AreTaken places end = (i : ℕ) → i < end → is_node places i ≡ true

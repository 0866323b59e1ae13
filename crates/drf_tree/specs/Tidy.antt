-- Each node of a tree has a client, so that the tree does not grow over time.
use Rattle.std.specs.Prelude.{◌≡◌, ℕ, true, List, Option, ◌⊎◌}
use Rattle.drf_role.specs.Path.{Path, begins_with}
use Rattle.drf_sorter.specs.Content.{Content, has_node}
use Rattle.drf_tree.specs.declared.node.Place.{Place}
use Rattle.drf_tree.specs.Nodes.{is_live, path_at, place_at}

-- each node has a client at or below it
abbrev pub IsTidy : Content → List (Option Place) → Type 0
IsTidy content places = (i : ℕ) → is_live places i ≡ true → has_node content (path_at places i) ≡ true

-- each node has a client at or below it, or is on this path
abbrev pub IsTidyBut : Path → Content → List (Option Place) → Type 0
IsTidyBut path content places =
    (i : ℕ) → is_live places i ≡ true → (has_node content (path_at places i) ≡ true) ⊎ (begins_with path (path_at places i) ≡ true)

-- no node was added except one with this path
abbrev pub IsOneMore : Path → (old new : List (Option Place)) → Type 0
IsOneMore path old new = (i : ℕ) → is_live new i ≡ true → (place_at new i ≡ place_at old i) ⊎ (path_at new i ≡ path)

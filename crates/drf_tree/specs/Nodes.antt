-- What is stored at a number of the tree.
use Rattle.std.specs.Prelude.{◌==◌, ℕ, Bool, false, ◌||◌, ◌&&◌, List, [], Option, None, length, map, nat_lt, slice_get, slice_index_or, ◌-◌}
use Rattle.std.specs.List.{list_any}
use Rattle.std.specs.Option.{is_some, option_map_or}
use Rattle.drf_role.specs.Path.{Path}
use Rattle.drf_role.specs.Text.{Text}
use Rattle.drf_tree.specs.declared.node.Place.{Place}
use Rattle.drf_tree.specs.declared.node.Sum.{Sum}
use Rattle.drf_tree.specs.declared.family.Child.{Child}
use Rattle.drf_tree.specs.declared.family.Family.{Family}
use Rattle.drf_sorter.specs.Keys.{Key}
use Rattle.drf_tree.specs.Family.{numbers_of, seen}

-- the place at a number, if there is one
abbrev pub place_at : List (Option Place) → ℕ → Option Place
place_at places i = slice_index_or places i None

-- the number is that of a node
abbrev pub is_live : List (Option Place) → ℕ → Bool
is_live places i = is_some (place_at places i)

-- the number is that of a node or the root
abbrev pub is_node : List (Option Place) → ℕ → Bool
is_node places i = (i == 0) || is_live places i

-- the path of a node; the root's is empty
abbrev pub path_at : List (Option Place) → ℕ → Path
path_at places i = option_map_or (λ p. p.path) (place_at places i) []

-- the last part of a path
abbrev pub last_part : Path → Text
last_part path = slice_index_or path (length path - 1) []

-- the clients of a sum hold something
abbrev pub holds_any : Sum → Bool
holds_any sum = list_any (λ e. nat_lt 0 e.amount) sum.held

-- the number is that of a node that holds something
abbrev pub is_holding : List (Option Place) → List Sum → ℕ → Bool
is_holding places sums i = is_live places i && option_map_or holds_any (slice_get sums i) false

-- the number of the parent
abbrev pub parent_at : List (Option Place) → ℕ → ℕ
parent_at places i = option_map_or (λ p. p.parent) (place_at places i) 0

-- the path of the client that a node is, if it is one
abbrev pub client_at : List (Option Place) → ℕ → Option Path
client_at places i = option_map_or (λ p. p.client) (place_at places i) None

-- the children of a number, in their order
abbrev pub children_at : List Family → ℕ → List Child
children_at families i = option_map_or (λ f. f.children.items) (slice_get families i) []

-- the node numbers of the children
abbrev pub family_at : List Family → ℕ → List ℕ
family_at families i = numbers_of (children_at families i)

-- a family as contracts see it
abbrev pub seen_in : Family → List (Key × ℕ)
seen_in family = map seen family.children.items

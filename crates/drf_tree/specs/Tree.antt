-- A tree holds what a content says. Each rule is one field of a record.
use Rattle.std.specs.Prelude.{◌≡◌, ◌<◌, ℕ, Bool, true, false, List, [], ◌∷◌, ◌++◌, Option, None, Some, ◌⊎◌, length, map, filter, slice_get, slice_index_or}
use Rattle.std.specs.List.{AllByRecursion, IsDistinct, list_any}
use Rattle.drf_bundle.specs.Quantities.{amount_of}
use Rattle.drf_bundle.specs.declared.quantities.Entry.{Entry}
use Rattle.drf_role.specs.Text.{Text, same_text}
use Rattle.drf_role.specs.Path.{Path, IsClientPath, IsNodePath, same_path}
use Rattle.drf_rows.specs.Held.{weight_of}
use Rattle.drf_sorter.specs.Content.{Content, clients_under, standing_in}
use Rattle.drf_sorter.specs.Keys.{key_by, key_of}
use Rattle.drf_tree.specs.declared.node.Place.{Place}
use Rattle.drf_tree.specs.declared.node.Sum.{Sum}
use Rattle.drf_tree.specs.declared.family.Child.{Child}
use Rattle.drf_tree.specs.declared.family.Family.{Family}
use Rattle.drf_tree.specs.declared.tree.Tree.{Tree}
use Rattle.drf_tree.specs.Family.{IsSameKey, child_name, has_child}
use Rattle.drf_tree.specs.Nodes.{place_at, is_live, is_node, path_at, parent_at, client_at, children_at}

-- ---- the shape, which does not depend on the clients

-- a child of a node: a node with that parent, whose path is one name longer
pub record IsChildOf (places : List (Option Place)) (node : ℕ) (child : Child) : Type 0 where
  pub live : is_live places child.node ≡ true
  pub above : parent_at places child.node ≡ node
  pub path : path_at places child.node ≡ path_at places node ++ child_name child ∷ []

pub record IsShape (places : List (Option Place)) (families : List Family) (stale : List Bool) (sums : List Sum) : Type 0 where
  -- the lists have the same length
  pub some : 0 < length places
  pub sums_long : length sums ≡ length places
  pub families_long : length families ≡ length places
  pub stale_long : length stale ≡ length places
  -- the root is not a node
  pub root : place_at places 0 ≡ None
  -- each entry of a family is a child of the node
  pub children : (i : ℕ) → AllByRecursion (IsChildOf places i) (children_at families i)
  -- each node is in the family of its parent
  pub kept : (i : ℕ) → is_live places i ≡ true → (is_node places (parent_at places i) ≡ true) × (has_child i (children_at families (parent_at places i)) ≡ true)
  -- the names in a family are distinct
  pub once : (i : ℕ) → IsDistinct same_text (map child_name (children_at families i))
  -- no two nodes have the same path
  pub distinct : (i j : ℕ) → is_live places i ≡ true → is_live places j ≡ true → path_at places i ≡ path_at places j → i ≡ j
  -- a node is a client if and only if its path is a client's
  pub right : (i : ℕ) → is_live places i ≡ true → IsNodePath (path_at places i)
  pub clients : (i : ℕ) → is_live places i ≡ true → IsClientPath (path_at places i) → client_at places i ≡ Some (path_at places i)
  pub others : (i : ℕ) (path : Path) → client_at places i ≡ Some path → (path_at places i ≡ path) × IsClientPath path
  -- a number without a node has no children, and its dirty flag is not set
  pub free : (i : ℕ) → is_node places i ≡ false → children_at families i ≡ []
  pub unmarked : (i : ℕ) → slice_index_or stale i false ≡ true → is_live places i ≡ true

-- ---- the sums over the clients of the content

-- the sum over the clients below a path
pub record IsSumOf (content : Content) (path : Path) (sum : Sum) : Type 0 where
  pub held : (label : Text) → amount_of sum.held label ≡ (standing_in content).held path label
  pub count : sum.count ≡ (standing_in content).count path
  pub clients : sum.clients ≡ length (clients_under content path)
  pub active : sum.active ≡ length (filter (λ c. c.active) (clients_under content path))
  pub weight : sum.weight ≡ weight_of content.weights path

-- each node has the sum over its clients
abbrev pub AreSums : Content → List (Option Place) → List Sum → Type 0
AreSums content places sums =
    (i : ℕ) (sum : Sum) → is_live places i ≡ true → slice_get sums i ≡ Some sum → IsSumOf content (path_at places i) sum

-- ---- the paths to the clients

-- if a client's path goes through a node, its next part is the name of a child
abbrev pub IsComplete : Content → List (Option Place) → List Family → Type 0
IsComplete content places families =
    (i : ℕ) → is_node places i ≡ true → (part : Text) (below : Path)
    → list_any (same_path (path_at places i ++ part ∷ below)) (map (λ c. c.path) content.clients) ≡ true
    → list_any (same_text part) (map child_name (children_at families i)) ≡ true

-- ---- the keys

-- the key of a child is the one that the content determines
abbrev pub IsRight : Content → List (Option Place) → ℕ → Child → Type 0
IsRight content places i c = IsSameKey (key_by c.key) (key_of (standing_in content) (path_at places i) (child_name c))

-- the key is right, or the dirty flag is set
abbrev pub IsMarkedOrRight : Content → List (Option Place) → List Bool → ℕ → Child → Type 0
IsMarkedOrRight content places stale i c = (slice_index_or stale c.node false ≡ true) ⊎ IsRight content places i c

-- this holds of each child
abbrev pub AreRight : Content → List (Option Place) → List Family → List Bool → Type 0
AreRight content places families stale =
    (i : ℕ) → AllByRecursion (IsMarkedOrRight content places stale i) (children_at families i)

-- ---- all rules together

pub record IsTreeOf (content : Content) (tree : Tree) : Type 0 where
  pub paths : AllByRecursion IsClientPath (map (λ c. c.path) content.clients)
  pub distinct : IsDistinct same_path (map (λ c. c.path) content.clients)
  pub shape : IsShape tree.places.items tree.families.items tree.marks.stale tree.sums.items
  pub sums : AreSums content tree.places.items tree.sums.items
  pub complete : IsComplete content tree.places.items tree.families.items
  pub right : AreRight content tree.places.items tree.families.items tree.marks.stale

-- the tree is right for any other total, too
abbrev pub IsTotalFree : Content → Tree → Type 0
IsTotalFree content tree = (total : List Entry) → IsTreeOf (record content { total = total }) tree

-- all rules, except for the key of one node
pub record IsTreeBut (node : ℕ) (content : Content) (tree : Tree) : Type 0 where
  pub paths : AllByRecursion IsClientPath (map (λ c. c.path) content.clients)
  pub distinct : IsDistinct same_path (map (λ c. c.path) content.clients)
  pub shape : IsShape tree.places.items tree.families.items tree.marks.stale tree.sums.items
  pub sums : AreSums content tree.places.items tree.sums.items
  pub complete : IsComplete content tree.places.items tree.families.items
  pub right : (i : ℕ) → AllByRecursion (λ c. (c.node ≡ node) ⊎ IsMarkedOrRight content tree.places.items tree.marks.stale i c) (children_at tree.families.items i)

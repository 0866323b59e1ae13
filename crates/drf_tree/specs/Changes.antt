-- The conditions of a change of one client, on the nodes from its leaf up to the root.
use Rattle.std.specs.Prelude.{◌≡◌, ◌≤◌, ◌<◌, ◌+◌, ◌-◌, ◌^◌, ◌==◌, ◌&&◌, ◌⊎◌, ℕ, Bool, true, false, List, [], ◌∷◌, ◌++◌, Some, length, slice_get}
use Rattle.std.specs.List.{AllByRecursion}
use Rattle.std.specs.Option.{option_map_or}
use Rattle.drf_bundle.specs.Quantities.{amount_of, is_named, names_all}
use Rattle.drf_bundle.specs.declared.quantities.Entry.{Entry}
use Rattle.drf_role.specs.Text.{Text}
use Rattle.drf_role.specs.Path.{Path, begins_with, same_path}
use Rattle.drf_sorter.specs.Content.{Content, Holds, Ranked}
use Rattle.drf_sorter.specs.Keys.{Key}
use Rattle.drf_tree.specs.declared.node.Sum.{Sum}
use Rattle.drf_tree.specs.declared.tree.Tree.{Tree}
use Rattle.drf_tree.specs.Nodes.{children_at, is_live, is_node, path_at}
use Rattle.drf_tree.specs.Tree.{IsShape}

-- a tree has the shape of a tree, whatever clients it has
abbrev pub IsShapeOf : Tree → Type 0
IsShapeOf tree = IsShape tree.places.items tree.families.items tree.marks.stale tree.sums.items

-- node `i` is the leaf or a node above it
abbrev pub is_on_way : Tree → ℕ → ℕ → Bool
is_on_way tree leaf i =
    is_live tree.places.items i && begins_with (path_at tree.places.items leaf) (path_at tree.places.items i)

-- P holds of the sum of the leaf and of each node above it
abbrev pub OnWay : Tree → ℕ → (Sum → Type 0) → Type 0
OnWay tree leaf P =
    (i : ℕ) (sum : Sum) → is_on_way tree leaf i ≡ true → slice_get tree.sums.items i ≡ Some sum → P sum

-- if not all labels of `others` had entries, the labels of the new entries are in `others`, or their amount was above 0
abbrev pub NamesFew : (others old new : List Entry) → Type 0
NamesFew others old new =
    names_all old others ≡ false → (label : Text) → is_named new label ≡ true
    → (0 < amount_of old label) ⊎ (is_named others label ≡ true)

-- the same for the leaf and each node above it
abbrev pub NamesFewOnWay : Tree → Tree → ℕ → List Entry → Type 0
NamesFewOnWay old new leaf others =
    (i : ℕ) (s t : Sum) → is_on_way old leaf i ≡ true → slice_get old.sums.items i ≡ Some s → slice_get new.sums.items i ≡ Some t
    → NamesFew others s.held t.held

-- adding these quantities and this number of offers does not overflow at the leaf or above it
pub record HasRoomFor (tree : Tree) (leaf : ℕ) (quantities : List Entry) (offers : ℕ) : Type 0 where
  pub live : is_live tree.places.items leaf ≡ true
  pub held : OnWay tree leaf (λ s. (label : Text) → amount_of s.held label + amount_of quantities label < 2 ^ 64)
  pub count : OnWay tree leaf (λ s. s.count + offers < 2 ^ 64)

-- the leaf and each node above it hold at least these quantities, and were made at least this number of offers
pub record IsLowerable (tree : Tree) (leaf : ℕ) (quantities : List Entry) (offers : ℕ) : Type 0 where
  pub live : is_live tree.places.items leaf ≡ true
  pub held : OnWay tree leaf (λ s. (label : Text) → amount_of quantities label ≤ amount_of s.held label)
  pub count : OnWay tree leaf (λ s. offers ≤ s.count)

-- a client after these quantities and this number of offers are subtracted
abbrev pub lowered : List Entry → ℕ → Ranked → Ranked
lowered quantities offers c =
    record c { held = λ label. c.held label - amount_of quantities label; count = c.count - offers }

-- the client holds at least these quantities, and was made at least this number of offers
pub record CanLower (quantities : List Entry) (offers : ℕ) (c : Ranked) : Type 0 where
  pub held : Holds quantities c
  pub count : offers ≤ c.count

abbrev pub CanLowerAt : Content → Path → List Entry → ℕ → Type 0
CanLowerAt content path quantities offers =
    AllByRecursion (λ c. same_path c.path path ≡ true → CanLower quantities offers c) content.clients

-- two trees are the same in all that contracts depend on
pub record IsSameTree (old new : Tree) : Type 0 where
  pub places : new.places.items ≡ old.places.items
  pub sums : new.sums.items ≡ old.sums.items
  pub families : new.families.items ≡ old.families.items
  pub marks : new.marks ≡ old.marks

-- a free number
pub record IsVacant (tree : Tree) (node : ℕ) : Type 0 where
  pub there : node < length tree.places.items
  pub free : is_node tree.places.items node ≡ false

-- the second path is the first and one more part
pub record IsOneLonger (path longer : Path) : Type 0 where
  pub part : Text
  pub joined : longer ≡ path ++ part ∷ []

-- the key of a node with this path that holds nothing and was made no offers
pub record IsKeyOfNothing (path : Path) (key : Key) : Type 0 where
  pub whole : 0 < key.share.whole
  pub part : key.share.part ≡ 0
  pub count : key.count ≡ 0
  pub name : slice_get path (length path - 1) ≡ Some key.name

-- a node has neither clients nor children
abbrev pub is_bare_at : Tree → ℕ → Bool
is_bare_at tree node =
    (option_map_or (λ s. s.clients) (slice_get tree.sums.items node) 0 == 0)
    && (length (children_at tree.families.items node) == 0)

-- each node above a leaf holds at least what the leaf holds, and counts at least what it counts
pub record IsLeast (tree : Tree) (leaf : ℕ) : Type 0 where
  pub sum : Sum
  pub there : slice_get tree.sums.items leaf ≡ Some sum
  pub held : OnWay tree leaf (λ s. (label : Text) → amount_of sum.held label ≤ amount_of s.held label)
  pub count : OnWay tree leaf (λ s. sum.count ≤ s.count)
  pub clients : OnWay tree leaf (λ s. sum.clients ≤ s.clients)
  pub active : OnWay tree leaf (λ s. sum.active ≤ s.active)

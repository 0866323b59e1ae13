-- Siblings in the order of their keys.
use Rattle.std.specs.Prelude.{◌≡◌, ◌≤◌, ◌<◌, ◌^◌, ℕ, ◌+◌, ◌==◌, Bool, false, true, not, ◌&&◌, List, [], ◌∷◌, ◌++◌, ◌⊎◌, Some, map, drop, take, slice_get, slice_index_or}
use Rattle.std.specs.declared.cmp.Ordering.TheVariants.{Equal}
use Rattle.std.specs.List.{AllByRecursion, list_all, list_any}
use Rattle.std.specs.Ordering.{is_lt}
use Rattle.drf_role.specs.Text.{Text}
use Rattle.drf_bundle.specs.Quantities.{amount_of}
use Rattle.drf_bundle.specs.declared.quantities.Entry.{Entry}
use Rattle.drf_sorter.specs.Fractions.{fraction_cmp, weigh, dominant_of}
use Rattle.drf_sorter.specs.declared.key.Key as made
use Rattle.drf_sorter.specs.Keys.{Key, key_by, key_cmp}
use Rattle.drf_tree.specs.declared.node.Sum.{Sum}
use Rattle.drf_tree.specs.declared.family.Child.{Child}

-- the name of a child, which is stored in its key
abbrev pub child_name : Child → Text
child_name child = (key_by child.key).name

-- one key is before another
abbrev pub is_before : made.Key → made.Key → Bool
is_before a b = is_lt (key_cmp (key_by a) (key_by b))

-- the second child is not before the first
abbrev pub is_not_behind : Child → Child → Bool
is_not_behind a b = not (is_before b.key a.key)

-- no child is before an earlier one
abbrev pub are_sorted : List Child → Bool
are_sorted [] = true
are_sorted (child ∷ children) = list_all (is_not_behind child) children && are_sorted children

-- the node numbers of the children
abbrev pub numbers_of : List Child → List ℕ
numbers_of children = map (λ c. c.node) children

-- one of the children has this node number
abbrev pub has_child : ℕ → List Child → Bool
has_child node children = list_any (λ c. c.node == node) children

-- the second list is the first with one more child, at any position
pub record IsWith (child : Child) (less more : List Child) : Type 0 where
  pub before : List Child
  pub after : List Child
  pub less_is : less ≡ before ++ after
  pub more_is : more ≡ before ++ child ∷ after

-- all children except the one at a position
abbrev pub without_place : ℕ → List Child → List Child
without_place at children = take at children ++ drop (at + 1) children

-- the new list is the old one without the child of this node
pub record IsGone (node : ℕ) (old new : List Child) : Type 0 where
  pub child : Child
  pub node_is : child.node ≡ node
  pub gone : IsWith child new old

-- the keys are equal in the order: their shares are equal as fractions, if not in the same terms
pub record IsSameKey (a b : Key) : Type 0 where
  pub some : 0 < a.share.whole
  pub share : fraction_cmp a.share b.share ≡ Equal
  pub count : a.count ≡ b.count
  pub name : a.name ≡ b.name

-- the key that is computed from a sum
abbrev pub key_for : List Entry → Sum → Text → Key
key_for total sum name = record {
  share = weigh (dominant_of (amount_of sum.held) total) sum.weight;
  count = sum.count;
  name = name;
}

-- the key of a sum can be computed without overflow
pub record CanKey (total : List Entry) (sum : Sum) : Type 0 where
  pub within : (label : Text) → amount_of sum.held label ≤ amount_of total label
  pub fits : (label : Text) → amount_of total label < 2 ^ 52
  pub weighs : 1 ≤ sum.weight
  pub light : sum.weight ≤ 1000000

-- the key of this node can be computed without overflow
pub record CanKeyAt (total : List Entry) (sums : List Sum) (node : ℕ) : Type 0 where
  pub sum : Sum
  pub there : slice_get sums node ≡ Some sum
  pub can : CanKey total sum

-- the numbers are equal
abbrev pub is_same : ℕ → ℕ → Bool
is_same i j = i == j

-- the part of a child that stays the same when its key is computed again
abbrev pub known : Child → ℕ × Text
known child = (child.node, child_name child)

-- the key of a child is the one computed from its sum
abbrev pub IsKeyed : List Entry → List Sum → Child → Type 0
IsKeyed total sums child = (sum : Sum) → slice_get sums child.node ≡ Some sum → key_by child.key ≡ key_for total sum (child_name child)

-- the same child was in the list before, and its dirty flag was not set
pub record WasRight (stale : List Bool) (old : List Child) (child : Child) : Type 0 where
  pub place : ℕ
  pub there : slice_get old place ≡ Some child
  pub unmarked : slice_index_or stale child.node false ≡ false

-- the key of a child was computed again, or the child was in the list before with its dirty flag not set
abbrev pub IsFresh : List Entry → List Sum → List Bool → List Child → Child → Type 0
IsFresh total sums stale old child = IsKeyed total sums child ⊎ WasRight stale old child

-- this holds of all children
abbrev pub AreFresh : List Entry → List Sum → List Bool → List Child → List Child → Type 0
AreFresh total sums stale old new = AllByRecursion (IsFresh total sums stale old) new

-- the new list is the old one with the key of this node computed again, at any position
pub record IsRenewed (node : ℕ) (total : List Entry) (sum : Sum) (old new : List Child) : Type 0 where
  pub was : Child
  pub now : Child
  pub rest : List Child
  pub was_is : was.node ≡ node
  pub now_is : now.node ≡ node
  pub gone : IsWith was rest old
  pub put : IsWith now rest new
  pub key : key_by now.key ≡ key_for total sum (child_name was)

-- a child as contracts see it
abbrev pub seen : Child → Key × ℕ
seen child = (key_by child.key, child.node)

-- the children have the same keys and node numbers
abbrev pub AreCopies : List Child → List Child → Type 0
AreCopies old new = map seen old ≡ map seen new

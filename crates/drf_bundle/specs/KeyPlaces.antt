-- Where a label is among entries, or a key among resources, and where it would be inserted.
use Rattle.std.specs.Prelude.{◌≡◌, ℕ, ◌<◌, ◌≤◌, List, length, slice_index_or, IsTrue}
use Rattle.drf_role.specs.Text.{Text, text_below}
use Rattle.drf_bundle.specs.Bundle.{Key, key_of, key_below}
use Rattle.drf_bundle.specs.declared.quantities.Entry.{Entry}
use Rattle.drf_bundle.specs.declared.resource.Resource.{Resource}

-- the entry at place i has the label
pub record IsAt (entries : List Entry) (label : List ℕ) (i : ℕ) : Type 0 where
  pub in_range : i < length entries
  pub has_label : (d : Entry) → (slice_index_or entries i d).label ≡ label

-- place i is where the label would be inserted: the labels before it are smaller, and those from it on are greater
pub record IsFreeSlotFor (entries : List Entry) (label : List ℕ) (i : ℕ) : Type 0 where
  pub in_range : i ≤ length entries
  pub smaller_before : (k : ℕ) (d : Entry) → k < i → IsTrue (text_below (slice_index_or entries k d).label label)
  pub greater_after : (k : ℕ) (d : Entry) → i ≤ k → k < length entries → IsTrue (text_below label (slice_index_or entries k d).label)

-- the resource at place i has the key
pub record IsKeyAt (resources : List Resource) (key : Key) (i : ℕ) : Type 0 where
  pub in_range : i < length resources
  pub has_key : (d : Resource) → key_of (slice_index_or resources i d) ≡ key

-- place i is where the key would be inserted: the keys before it are smaller, and those from it on are greater
pub record IsKeyFreeSlot (resources : List Resource) (key : Key) (i : ℕ) : Type 0 where
  pub in_range : i ≤ length resources
  pub below_before : (k : ℕ) (d : Resource) → k < i → IsTrue (key_below (key_of (slice_index_or resources k d)) key)
  pub above_after : (k : ℕ) (d : Resource) → i ≤ k → k < length resources → IsTrue (key_below key (key_of (slice_index_or resources k d)))

-- no resource has the name, and place i is where one would be inserted: the names before it are smaller, and those from
-- it on are greater
pub record IsNameFreeSlot (resources : List Resource) (name : Text) (i : ℕ) : Type 0 where
  pub in_range : i ≤ length resources
  pub smaller_before : (k : ℕ) (d : Resource) → k < i → IsTrue (text_below (slice_index_or resources k d).label name)
  pub greater_after : (k : ℕ) (d : Resource) → i ≤ k → k < length resources → IsTrue (text_below name (slice_index_or resources k d).label)

-- A key that is computed again is right, and nothing else changes.
use Rattle.std.specs.List.{AllByRecursion, IsDistinct}
use Rattle.std.specs.List.Sorted.{IsPermutation}
use Rattle.std.specs.Cmp.{nat_cmp_total}
use Rattle.std.specs.Option.{option_map_or}
use Rattle.std.proofs.Common.{◌≢◌, refl, sym, ap, subst, ◌∙◌, inl, inr, arith, ◌≡◌, ◌≤◌, ◌<◌, ◌*◌, ℕ, Bool, true, false, IsTrue, List, [], ◌∷◌, ◌++◌, Option, None, Some, ◌⊎◌, find, length, map, slice_set, true≢false}
use Rattle.std.proofs.lemmas.Cmp.{tied_itself}
use Rattle.std.proofs.lemmas.Map.Keys.{IsDistinct-head}
use Rattle.drf_tree.proofs.Names.{amount_of, Text, same_text, same_itself, Path, begins_with, same_path, each_from_both, Key, key_by, key_of, ledger_content, Child, Family, Place, Sum, Tree, CanKey, IsRenewed, IsSameKey, child_name, key_for, known, children_at, is_live, parent_at, path_at, AreRight, IsChildOf, IsComplete, IsMarkedOrRight, IsRight, IsShape, IsSumOf, IsTreeBut}
use Rattle.drf_rows.specs.Held.{weight_of}
use Rattle.drf_rows.specs.Weights.{are_weights}
use Rattle.drf_rows.specs.declared.rows.WeightRow.{WeightRow}
use Rattle.drf_sorter.specs.Content.{Content, IsSound, standing_in}
use Rattle.drf_sorter.specs.Fractions.{dominant_of, fraction_cmp, weigh}
use Rattle.drf_sorter.proofs.theorems.OrderLaws.{weighted_share-above}
use Rattle.drf_sorter.specs.Served.{Weighs}
use Rattle.drf_tree.specs.declared.ledger.Ledger.{Ledger}
use Rattle.drf_row_laws.proofs.WeightLaws.{weight-found}
use Rattle.drf_tree.proofs.sums.Fit.{part_less}
use Rattle.drf_tree.proofs.shape.Node.{node_within}
use Rattle.drf_tree.proofs.shape.SameFamily.{each_unmapped, renewed_known, same_complete, same_name, same_shape}
use Rattle.drf_tree.proofs.growth.With.{each_family, each_with, each_without, once_without}

-- ---- weights

weight_range : (weights : List WeightRow) (node : Path) → IsTrue (are_weights weights)
    → (1 ≤ weight_of weights node) × (weight_of weights node ≤ 1000000)
weight_range weights node right = by (find (λ w. same_path w.role node) weights) refl
  where
    by : (o : Option WeightRow) → o ≡ find (λ w. same_path w.role node) weights
        → (1 ≤ option_map_or (λ w. w.weight) o 1000) × (option_map_or (λ w. w.weight) o 1000 ≤ 1000000)
    by None none = (omega arith, omega arith)
    by (Some w) some = weight-found (λ w. same_path w.role node) weights w right some

pub weighs_within : (ledger : Ledger) (node : Path)
    → (1 ≤ weight_of (ledger_content ledger).weights node) × (weight_of (ledger_content ledger).weights node ≤ 1000000)
weighs_within ledger node = weight_range ledger.weights.rows.items node ledger.weights.weighs

pub ledger_weighs : (ledger : Ledger) → Weighs (standing_in (ledger_content ledger))
unfolding standing_in
ledger_weighs ledger node = (weighs_within ledger node).0

-- ---- what a node holds is part of the total

pub sum_within : (content : Content) (path : Path) (sum : Sum) → IsSound content → IsSumOf content path sum → (label : Text)
    → amount_of sum.held label ≤ amount_of content.total label
unfolding standing_in
sum_within content path sum sound of label =
    omega (
      arith,
      of.held label,
      part_less (λ c. c.held label) (λ c. begins_with c.path path) content.clients,
      sound.held label,
    )

pub can_key : (ledger : Ledger) (path : Path) (sum : Sum) → IsSound (ledger_content ledger)
    → IsSumOf (ledger_content ledger) path sum → CanKey (ledger_content ledger).total sum
can_key ledger path sum sound of =
    let range = weighs_within ledger path in
    record {
      within = sum_within (ledger_content ledger) path sum sound of;
      fits = sound.total;
      weighs = omega (arith, of.weight, range.0);
      light = omega (arith, of.weight, range.1);
    }

-- ---- the key

pub same_key : (a b : Key) → a ≡ b → 0 < b.share.whole → IsSameKey a b
same_key a b same some = record {
  some = subst (λ (k : Key). 0 < k.share.whole) (sym same) some;
  share = ap (λ (k : Key). fraction_cmp k.share b.share) same ∙ tied_itself nat_cmp_total (b.share.part * b.share.whole);
  count = ap (λ (k : Key). k.count) same;
  name = ap (λ (k : Key). k.name) same;
}

pub key_is : (content : Content) (parent : Path) (name : Text) (sum : Sum) → IsSumOf content (parent ++ name ∷ []) sum
    → key_for content.total sum name ≡ key_of (standing_in content) parent name
unfolding standing_in
key_is content parent name sum of =
    λ i. record {
      share = weigh (dominant_of (λ label. of.held label i) content.total) (of.weight i);
      count = of.count i;
      name = name;
    }

-- the tree is right with these families and dirty flags
pub record IsRepaired (content : Content) (tree : Tree) (families : List Family) (stale : List Bool) : Type 0 where
  pub shape : IsShape tree.places.items families stale tree.sums.items
  pub complete : IsComplete content tree.places.items families
  pub right : AreRight content tree.places.items families stale

-- ---- the key of one child is computed again

module _ (content : Content) (tree : Tree) (node : ℕ) (of : IsTreeBut node content tree)
    (live : is_live tree.places.items node ≡ true) (weighs : Weighs (standing_in content)) (sum : Sum)
    (sum_is : IsSumOf content (path_at tree.places.items node) sum) (f : Family)
    (r : IsRenewed node content.total sum (children_at tree.families.items (parent_at tree.places.items node)) f.children.items) where
  abbrev places : List (Option Place)
  places = tree.places.items

  abbrev families : List Family
  families = tree.families.items

  abbrev stale : List Bool
  stale = tree.marks.stale

  abbrev parent : ℕ
  parent = parent_at places node

  abbrev old : List Child
  old = children_at families parent

  abbrev new : List Child
  new = f.children.items

  abbrev changed : List Family
  changed = slice_set families parent f

  below : parent < length families
  below =
      omega (
        arith,
        node_within tree of.shape parent (of.shape.kept node live).0,
        of.shape.families_long,
      )

  names : child_name r.now ≡ child_name r.was
  names = ap (λ (k : Key). k.name) r.key

  number : r.now.node ≡ r.was.node
  number = r.now_is ∙ sym r.was_is

  were : IsChildOf places parent r.was × AllByRecursion (IsChildOf places parent) r.rest
  were = each_without r.was r.rest old r.gone (IsChildOf places parent) (of.shape.children parent)

  same : IsPermutation (map known old) (map known new)
  same =
      renewed_known r.was r.now r.rest old new r.gone r.put (λ i. (number i, names i))

  apart : IsDistinct same_text (child_name r.was ∷ map child_name r.rest)
  apart = once_without r.was r.rest old r.gone (of.shape.once parent)

  now_right : IsRight content places parent r.now
  now_right =
      let path : path_at places node ≡ path_at places parent ++ child_name r.was ∷ [] =
      ap (path_at places) (sym r.was_is) ∙ were.0.path in
      let sum_there = subst (λ (q : Path). IsSumOf content q sum) path sum_is in
      same_key (key_by r.now.key) (key_of (standing_in content) (path_at places parent) (child_name r.now))
      (r.key ∙ key_is content (path_at places parent) (child_name r.was) sum sum_there
      ∙ ap (key_of (standing_in content) (path_at places parent)) (sym names))
      (weighted_share-above (standing_in content) (path_at places parent ++ child_name r.now ∷ [])
      (weighs (path_at places parent ++ child_name r.now ∷ [])))

  -- the other children of the family are other nodes
  other_child : (c : Child) → IsChildOf places parent c → same_text (child_name r.was) (child_name c) ≡ false → c.node ≢ node
  other_child c child differ same =
      let alike : child_name r.was ≡ child_name c = same_name places parent r.was c were.0 child (r.was_is ∙ sym same) in
      true≢false (sym (ap (same_text (child_name r.was)) (sym alike) ∙ same_itself (child_name r.was)) ∙ differ)

  abbrev OrIsNode : ℕ → Child → Type 0
  OrIsNode i c = (c.node ≡ node) ⊎ IsMarkedOrRight content places stale i c

  rest_right : AllByRecursion (IsMarkedOrRight content places stale parent) r.rest
  rest_right =
      let others : AllByRecursion (λ c. c.node ≢ node) r.rest =
      each_from_both (IsChildOf places parent) (λ c. same_text (child_name r.was) (child_name c) ≡ false) (λ c. c.node ≢ node)
      r.rest other_child were.1
      (each_unmapped (λ n. same_text (child_name r.was) n ≡ false) child_name r.rest
      (IsDistinct-head same_text (child_name r.was) (map child_name r.rest) apart)) in
      each_from_both (OrIsNode parent) (λ c. c.node ≢ node) (IsMarkedOrRight content places stale parent) r.rest
      (λ c either other. elim either [
        | inl same ↦ absurd (other same)
        | inr right ↦ right
      ]) (each_without r.was r.rest old r.gone (OrIsNode parent) (of.right parent)).1 others

  far_right : (i : ℕ) → i ≢ parent → AllByRecursion (IsMarkedOrRight content places stale i) (children_at families i)
  far_right i other =
      each_from_both (OrIsNode i) (IsChildOf places i) (IsMarkedOrRight content places stale i) (children_at families i)
      (λ c either child. elim either [
        | inl same ↦ absurd (other (sym child.above ∙ ap (parent_at places) same))
        | inr right ↦ right
      ]) (of.right i) (of.shape.children i)

  pub renewed : IsRepaired content tree changed stale
  renewed = record {
    shape = same_shape tree of.shape parent f below same;
    complete = same_complete tree of.shape parent f below same content of.complete;
    right = each_family (λ i cs. AllByRecursion (IsMarkedOrRight content places stale i) cs) families parent f below
        (each_with r.now r.rest new r.put (IsMarkedOrRight content places stale parent) (inr now_right) rest_right)
        far_right;
  }

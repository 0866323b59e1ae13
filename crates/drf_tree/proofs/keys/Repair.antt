-- A family whose stale keys are computed again is right, and nothing else changes.
use Rattle.std.specs.List.{AllByRecursion, IsDistinct}
use Rattle.std.specs.List.Sorted.{IsPermutation}
use Rattle.std.proofs.Common.{◌≢◌, refl, sym, ap, subst, ◌∙◌, inl, inr, arith, get_or, ◌≡◌, ◌<◌, ℕ, Bool, true, false, List, [], ◌∷◌, ◌++◌, Option, Some, length, map, slice_get, slice_index_or, slice_set}
use Rattle.std.proofs.lemmas.Bool.{true≢false, cases_Bool, eqb-true}
use Rattle.std.proofs.lemmas.Option.{slice_get-get_or}
use Rattle.drf_tree.proofs.Names.{same_text, same_itself, each_at, each_from, each_from_both, each_map, key_by, key_of, ledger_content, Child, Family, Place, Sum, Tree, IsShapeOf, AreFresh, CanKeyAt, IsFresh, IsKeyed, WasRight, child_name, has_child, is_same, known, numbers_of, children_at, is_live, parent_at, path_at, AreRight, IsChildOf, IsMarkedOrRight, IsRight, IsSumOf, IsTreeOf}
use Rattle.drf_sorter.specs.Content.{Content, IsSound, standing_in}
use Rattle.drf_sorter.proofs.theorems.OrderLaws.{weighted_share-above}
use Rattle.drf_sorter.specs.Served.{Weighs}
use Rattle.drf_tree.specs.declared.ledger.Ledger.{Ledger}
use Rattle.drf_tree.proofs.shape.Node.{live_within}
use Rattle.drf_tree.proofs.keys.Renew.{IsRepaired, can_key, key_is, same_key}
use Rattle.drf_tree.proofs.shape.SameFamily.{children_now, each_unmapped, same_complete, same_name, same_shape}
use Rattle.drf_tree.proofs.change.Tree.{shape_again}
use Rattle.drf_tree.proofs.shape.Way.{child_there}
use Rattle.drf_tree.proofs.growth.With.{each_family}

-- children with different names have different numbers
pub numbers_once : (places : List (Option Place)) (parent : ℕ) (cs : List Child) → AllByRecursion (IsChildOf places parent) cs
    → IsDistinct same_text (map child_name cs) → IsDistinct is_same (numbers_of cs)
unfolding IsDistinct
numbers_once places parent [] all once = tt
numbers_once places parent (c ∷ cs) all once = (
  each_map (λ n. is_same c.node n ≡ false) (λ d. d.node) cs
      (each_from_both (IsChildOf places parent) (λ d. same_text (child_name c) (child_name d) ≡ false) (λ d. is_same c.node d.node ≡ false)
      cs
      (λ d child differ. elim (cases_Bool (is_same c.node d.node)) [
        | inl same ↦
            let alike : child_name c ≡ child_name d = same_name places parent c d all.0 child (eqb-true c.node d.node same) in
            absurd (true≢false (sym (ap (same_text (child_name c)) (sym alike) ∙ same_itself (child_name c)) ∙ differ))
        | inr other ↦ other
      ]) all.1
      (each_unmapped (λ n. same_text (child_name c) n ≡ false) child_name cs once.0)),
  numbers_once places parent cs all.1 once.1,
)

-- each node has a sum
pub sum_there : (tree : Tree) → IsShapeOf tree → (node : ℕ) → is_live tree.places.items node ≡ true
    → (sum : Sum) × (slice_get tree.sums.items node ≡ Some sum)
sum_there tree shape node live =
    let none : Sum = record { held = []; count = 0; clients = 0; active = 0; weight = 0 } in (
      get_or tree.sums.items node none,
      slice_get-get_or tree.sums.items node none (omega (arith, live_within tree.places.items node live, shape.sums_long)),
    )

-- the keys of all children can be computed
pub can_key_all : (ledger : Ledger) (tree : Tree) (parent : ℕ) → IsSound (ledger_content ledger)
    → IsTreeOf (ledger_content ledger) tree
    → AllByRecursion (λ c. CanKeyAt (ledger_content ledger).total tree.sums.items c.node) (children_at tree.families.items parent)
can_key_all ledger tree parent sound of =
    each_from (IsChildOf tree.places.items parent) (λ c. CanKeyAt (ledger_content ledger).total tree.sums.items c.node)
    (children_at tree.families.items parent)
    (λ c child.
    let sum = sum_there tree of.shape c.node child.live in
    record {
      sum = sum.0;
      there = sum.1;
      can = can_key ledger (path_at tree.places.items c.node) sum.0 sound (of.sums c.node sum.0 child.live sum.1);
    }) (of.shape.children parent)

module _ (content : Content) (tree : Tree) (parent : ℕ) (of : IsTreeOf content tree) (weighs : Weighs (standing_in content))
    (f : Family) (now : List Bool) (below : parent < length tree.families.items)
    (same : IsPermutation (map known (children_at tree.families.items parent)) (map known f.children.items))
    (renewed : AreFresh content.total tree.sums.items tree.marks.stale (children_at tree.families.items parent) f.children.items)
    (others : (i : ℕ) → has_child i (children_at tree.families.items parent) ≡ false → slice_index_or now i false ≡ slice_index_or tree.marks.stale i false)
    (down : (i : ℕ) → slice_index_or now i false ≡ true → slice_index_or tree.marks.stale i false ≡ true)
    (long : length now ≡ length tree.marks.stale) where
  abbrev places : List (Option Place)
  places = tree.places.items

  abbrev old : List Child
  old = children_at tree.families.items parent

  abbrev changed : List Family
  changed = slice_set tree.families.items parent f

  keyed_right : (c : Child) → IsChildOf places parent c → IsKeyed content.total tree.sums.items c → IsRight content places parent c
  keyed_right c child keyed =
      let sum = sum_there tree of.shape c.node child.live in
      let sum_is = subst (λ p. IsSumOf content p sum.0) child.path (of.sums c.node sum.0 child.live sum.1) in
      same_key (key_by c.key) (key_of (standing_in content) (path_at places parent) (child_name c))
      (keyed sum.0 sum.1 ∙ key_is content (path_at places parent) (child_name c) sum.0 sum_is)
      (weighted_share-above (standing_in content) (path_at places parent ++ child_name c ∷ [])
      (weighs (path_at places parent ++ child_name c ∷ [])))

  was_right : (c : Child) → WasRight tree.marks.stale old c → IsRight content places parent c
  was_right c was = elim (each_at (IsMarkedOrRight content places tree.marks.stale parent) old was.place c (of.right parent) was.there) [
    | inl marked ↦ absurd (true≢false (sym marked ∙ was.unmarked))
    | inr right ↦ right
  ]

  here : AllByRecursion (IsMarkedOrRight content places now parent) f.children.items
  here =
      each_from_both (IsChildOf places parent) (IsFresh content.total tree.sums.items tree.marks.stale old)
      (IsMarkedOrRight content places now parent) f.children.items
      (λ c child either. elim either [
        | inl keyed ↦ inr (keyed_right c child keyed)
        | inr was ↦ inr (was_right c was)
      ]) (children_now tree of.shape parent f below same) renewed

  not_here : (i : ℕ) → i ≢ parent → (c : Child) → IsChildOf places i c → has_child c.node old ≡ false
  not_here i other c child = elim (cases_Bool (has_child c.node old)) [
    | inl some ↦
        let there = child_there (IsChildOf places parent) c.node old (of.shape.children parent) some in
        absurd (other (sym child.above ∙ ap (parent_at places) (sym there.number) ∙ there.holds.above))
    | inr none ↦ none
  ]

  far : (i : ℕ) → i ≢ parent → AllByRecursion (IsMarkedOrRight content places now i) (children_at tree.families.items i)
  far i other =
      each_from_both (IsChildOf places i) (IsMarkedOrRight content places tree.marks.stale i) (IsMarkedOrRight content places now i)
      (children_at tree.families.items i)
      (λ c child either. elim either [
        | inl marked ↦ inl (others c.node (not_here i other c child) ∙ marked)
        | inr right ↦ inr right
      ]) (of.shape.children i) (of.right i)

  right_now : AreRight content places changed now
  right_now = each_family (λ i cs. AllByRecursion (IsMarkedOrRight content places now i) cs) tree.families.items parent f below here far

  pub repaired : IsRepaired content tree changed now
  repaired = record {
    shape = shape_again places changed tree.marks.stale now tree.sums.items tree.sums.items (same_shape tree of.shape parent f below same) long
        refl (λ i up. of.shape.unmarked i (down i up));
    complete = same_complete tree of.shape parent f below same content of.complete;
    right = right_now;
  }

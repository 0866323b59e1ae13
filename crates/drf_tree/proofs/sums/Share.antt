-- The shares of a node, computed from its sum.
use Rattle.std.specs.List.{list_any}
use Rattle.std.proofs.Common.{refl, subst, ◌∙◌, arith, ◌≡◌, ◌≤◌, ◌<◌, ℕ, Bool, true, false, cond, ◌||◌, List, [], ◌∷◌, Some, filter, length, slice_get}
use Rattle.drf_tree.proofs.Names.{amount_of, Path, begins_with, Text, share_of, Sum, Tree, is_live, path_at, IsSumOf, IsTreeOf}
use Rattle.drf_sorter.specs.Content.{Content, IsSound, Ranked, has_node, standing_in}
use Rattle.drf_sorter.proofs.theorems.FractionLaws.{same_as_weighed}
use Rattle.drf_sorter.specs.Fractions.{dominant_of, weigh}
use Rattle.drf_sorter.specs.Share.{IsShareOf, fraction_of}
use Rattle.drf_sorter.specs.declared.share.Share.{Share}
use Rattle.drf_tree.proofs.keys.Renew.{sum_within}

-- if not none of the elements passes a test, one does
any_is : {X : Type 0} (p : X → Bool) (xs : List X) → (0 < length (filter p xs) → list_any p xs ≡ true)
    × (length (filter p xs) ≡ 0 → list_any p xs ≡ false)
any_is p [] = (λ some. absurd (omega (arith, some)), λ none. refl)
any_is {X} p (x ∷ xs) = by (p x) (any_is p xs)
  where
    by : (b : Bool) → (0 < length (filter p xs) → list_any p xs ≡ true) × (length (filter p xs) ≡ 0 → list_any p xs ≡ false)
        → (0 < length (cond b (x ∷ filter p xs) (filter p xs)) → (b || list_any p xs) ≡ true)
        × (length (cond b (x ∷ filter p xs) (filter p xs)) ≡ 0 → (b || list_any p xs) ≡ false)
    by true rest = (λ some. refl, λ none. absurd (omega (arith, none)))
    by false rest = rest

module _ (content : Content) (tree : Tree) (of : IsTreeOf content tree) (node : ℕ) (path : Path)
    (live : is_live tree.places.items node ≡ true) (at : path_at tree.places.items node ≡ path) (sum : Sum)
    (there : slice_get tree.sums.items node ≡ Some sum) where
  pub sum_is : IsSumOf content path sum
  sum_is = subst (λ (p : Path). IsSumOf content p sum) at (of.sums node sum live there)

  pub somebody : 0 < sum.clients → has_node content path ≡ true
  somebody some =
      (any_is (λ (c : Ranked). begins_with c.path path) content.clients).0 (omega (arith, some, sum_is.clients))

  pub nobody : sum.clients ≡ 0 → has_node content path ≡ false
  nobody none =
      (any_is (λ (c : Ranked). begins_with c.path path) content.clients).1 (omega (arith, none, sum_is.clients))

  pub held_within : IsSound content → (label : Text) → amount_of sum.held label ≤ amount_of content.total label
  held_within sound label = sum_within content path sum sound sum_is label

  pub shares_are : (a b : Share) → fraction_of a ≡ weigh (dominant_of (amount_of sum.held) content.total) 1000
      → fraction_of b ≡ weigh (dominant_of (amount_of sum.held) content.total) sum.weight
      → IsShareOf content path (a, b, sum.count)
  unfolding standing_in
  shares_are a b first second = record {
    share = same_as_weighed (fraction_of a) (share_of (standing_in content) path)
        (first ∙ (λ i. weigh (dominant_of (λ (label : Text). sum_is.held label i) content.total) 1000));
    weighted = second ∙ (λ i. weigh (dominant_of (λ (label : Text). sum_is.held label i) content.total) (sum_is.weight i));
    count = sum_is.count;
  }

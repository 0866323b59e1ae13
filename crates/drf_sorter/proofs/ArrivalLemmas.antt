-- Clients that were added in another order are served in the same order.
use Rattle.std.proofs.Common.{◌≡◌, ℕ, Bool, true, not, ◌&&◌, ◌||◌, IsTrue, List, [], ◌∷◌, map, refl, sym, ap, ◌∙◌, inl, inr}
use Rattle.std.specs.List.{filter, list_all, list_any, sum_by}
use Rattle.std.specs.List.Sorted.{IsPermutation}
use Rattle.std.proofs.lemmas.Bool.{true≢false, cases_Bool, and_parts, or_cases, or_left}
use Rattle.std.proofs.lemmas.List.Sorted.{list_any-IsPermutation, sum_by-IsPermutation}
use Rattle.drf_role.specs.Path.{same_path, begins_with}
use Rattle.drf_role.specs.PathLaws.{same_path-true, same_path_itself}
use Rattle.drf_rows.specs.Share.{Standing, stands_before, is_serving_order}
use Rattle.drf_rows.specs.Held.{weight_of}
use Rattle.drf_row_laws.proofs.ServingOrder.{stands_before-back, same_path-before}
use Rattle.drf_sorter.specs.Content.{Ranked, Content, IsOrderOf, active_paths, standing_in, clients_under}
use Rattle.drf_bundle.proofs.ListLaws.{sum_by-filter}
use Rattle.drf_sorter.proofs.SumLemmas.{part_of}

-- ---- a serving order is determined by its members

abbrev SameMembers : List (List (List ℕ)) → List (List (List ℕ)) → Type 0
SameMembers xs ys = (t : List (List ℕ) → Bool) → list_any t xs ≡ list_any t ys

all_at : (t : List (List ℕ) → Bool) (x : List (List ℕ)) (ps : List (List (List ℕ))) → list_any (same_path x) ps ≡ true
    → list_all t ps ≡ true → t x ≡ true
all_at t x [] there all = absurd (true≢false (sym there))
all_at t x (p ∷ ps) there all = elim (or_cases (same_path x p) (list_any (same_path x) ps) there) [
  | inl same ↦ rw (same_path-true x p same) ((and_parts (t p) (list_all t ps) all).0)
  | inr later ↦ all_at t x ps later (and_parts (t p) (list_all t ps) all).1
]

module _ (s : Standing) where
  -- the first path is not among the later ones
  none_later : (p : List (List ℕ)) (t : List (List ℕ) → Bool) (ps : List (List (List ℕ)))
      → list_all (stands_before s p) ps ≡ true → list_any (λ q. not (same_path p q) && t q) ps ≡ list_any t ps
  none_later p t [] all = refl
  none_later p t (q ∷ ps) all =
      let here = and_parts (stands_before s p q) (list_all (stands_before s p) ps) all in
      rw (same_path-before s p q here.0) (ap (λ b. t q || b) (none_later p t ps here.1))

  others : (p : List (List ℕ)) (t : List (List ℕ) → Bool) (ps : List (List (List ℕ)))
      → list_all (stands_before s p) ps ≡ true → list_any (λ q. not (same_path p q) && t q) (p ∷ ps) ≡ list_any t ps
  others p t ps all = rw (same_path_itself p) (none_later p t ps all)

  same_first : (x y : List (List ℕ)) (xs ys : List (List (List ℕ))) → list_all (stands_before s x) xs ≡ true
      → list_all (stands_before s y) ys ≡ true → SameMembers (x ∷ xs) (y ∷ ys) → x ≡ y
  same_first x y xs ys first second same =
      elim
      (or_cases (same_path x y) (list_any (same_path x) ys)
      (sym (same (same_path x)) ∙ or_left (same_path x x) (list_any (same_path x) xs) (same_path_itself x))) [
        | inl here ↦ same_path-true x y here
        | inr later ↦
            elim
            (or_cases (same_path y x) (list_any (same_path y) xs)
            (same (same_path y) ∙ or_left (same_path y y) (list_any (same_path y) ys) (same_path_itself y))) [
              | inl here ↦ sym (same_path-true y x here)
              | inr back ↦
                  let before = all_at (stands_before s x) y xs back first in
                  let after = all_at (stands_before s y) x ys later second in
                  absurd (true≢false (sym after ∙ stands_before-back s x y before))
            ]
      ]

  one_order : (xs ys : List (List (List ℕ))) → SameMembers xs ys → IsTrue (is_serving_order s xs)
      → IsTrue (is_serving_order s ys) → xs ≡ ys
  one_order [] [] same first second = refl
  one_order [] (y ∷ ys) same first second = absurd (true≢false (sym (same (λ p. true))))
  one_order (x ∷ xs) [] same first second = absurd (true≢false (same (λ p. true)))
  one_order (x ∷ xs) (y ∷ ys) same first second =
      let one = and_parts (list_all (stands_before s x) xs) (is_serving_order s xs) first in
      let two = and_parts (list_all (stands_before s y) ys) (is_serving_order s ys) second in
      let head = same_first x y xs ys one.0 two.0 same in
      let tails : SameMembers xs ys = λ t.
      sym (others x t xs one.0) ∙ same (λ q. not (same_path x q) && t q)
      ∙ ap (λ p. list_any (λ q. not (same_path p q) && t q) (y ∷ ys)) head ∙ others y t ys two.0 in
      let rest = one_order xs ys tails one.1 two.1 in
      λ i. head i ∷ rest i

-- ---- what decides the order does not depend on the order of arrival

any_active : (t : List (List ℕ) → Bool) (cs : List Ranked)
    → list_any t (map (λ c. c.path) (filter (λ c. c.active) cs)) ≡ list_any (λ c. c.active && t c.path) cs
any_active t [] = refl
any_active t (c ∷ cs) = elim (cases_Bool c.active) [
  | inl active ↦ rw active (ap (λ b. t c.path || b) (any_active t cs))
  | inr idle ↦ rw idle (any_active t cs)
]

module _ (one other : Content) (moved : IsPermutation one.clients other.clients) where
  same_active : SameMembers (active_paths one) (active_paths other)
  same_active t =
      any_active t one.clients
      ∙ list_any-IsPermutation (λ c. c.active && t c.path) one.clients other.clients moved
      ∙ sym (any_active t other.clients)

  same_sum : (f : Ranked → ℕ) (node : List (List ℕ))
      → sum_by f (clients_under one node) ≡ sum_by f (clients_under other node)
  same_sum f node =
      let under : Ranked → Bool = λ c. begins_with c.path node in
      sum_by-filter f under one.clients
      ∙ sym (sum_by-IsPermutation (part_of under f) one.clients other.clients moved)
      ∙ sym (sum_by-filter f under other.clients)

  same_standing : one.total ≡ other.total → one.weights ≡ other.weights → standing_in one ≡ standing_in other
  unfolding standing_in
  same_standing total weights = λ i. record {
    held = λ node label. same_sum (λ c. c.held label) node i;
    count = λ node. same_sum (λ c. c.count) node i;
    total = total i;
    weight = λ node. weight_of (weights i) node;
  }

pub arrival_does_not_matter : (one other : Content) (first second : List (List (List ℕ)))
    → IsPermutation one.clients other.clients → one.total ≡ other.total → one.weights ≡ other.weights
    → IsOrderOf one first → IsOrderOf other second → first ≡ second
arrival_does_not_matter one other first second moved total weights here there =
    one_order (standing_in other) first second
    (λ t. sym (list_any-IsPermutation t (active_paths one) first here.active) ∙ same_active one other moved t
    ∙ list_any-IsPermutation t (active_paths other) second there.active)
    (ap (λ s. is_serving_order s first) (sym (same_standing one other moved total weights)) ∙ here.in_order)
    there.in_order

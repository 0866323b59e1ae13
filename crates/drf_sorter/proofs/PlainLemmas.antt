-- What a sound content says about single clients.
use Rattle.std.proofs.Common.{◌≡◌, ◌<◌, ◌≤◌, ◌+◌, ◌^◌, ◌-◌, ℕ, Bool, true, false, List, [], ◌∷◌, ◌++◌, map, min, length, take, get_or, refl, sym, ap, ◌∙◌, inl, inr, arith}
use Rattle.std.proofs.lemmas.Bool.{cases_Bool}
use Rattle.std.proofs.lemmas.List.{append-nil, map-append, take_more}
use Rattle.std.proofs.lemmas.List.Elements.{filter-append}
use Rattle.std.proofs.lemmas.List.Sums.{sum_by_push}
use Rattle.std.proofs.lemmas.Simd.{map-map}
use Rattle.std.specs.List.{IsDistinct, sum_by, filter, list_any}
use Rattle.drf_bundle.specs.Quantities.{amount_of}
use Rattle.drf_role.specs.Path.{same_path, begins_with}
use Rattle.drf_sorter.specs.declared.client.Client.{Client}
use Rattle.drf_sorter.specs.declared.plain.PlainSorter.{PlainSorter}
use Rattle.drf_sorter.specs.Content.{Ranked, IsSound, standing_in, active_paths, has_node}
use Rattle.drf_rows.specs.Held.{weight_of}
use Rattle.drf_rows.specs.Share.{share_of, weighted_share_of}
use Rattle.drf_sorter.specs.Fractions.{dominant_of, weigh}
use Rattle.drf_sorter.specs.Plain.{ranked, held_by, count_by, plain_content, plain_standing}
use Rattle.drf_sorter.proofs.ChangeLemmas.{any_ranked}
use Rattle.drf_sorter.proofs.OrderLemmas.{distinct_filter}
use Rattle.drf_bundle.proofs.ListLaws.{sum_by-map}
use Rattle.drf_sorter.proofs.SumLemmas.{sum_part_le}

pub filter-map : {X Y : Type 0} (p : Y → Bool) (f : X → Y) (xs : List X)
    → filter p (map f xs) ≡ map f (filter (λ x. p (f x)) xs)
filter-map p f [] = refl
filter-map p f (x ∷ xs) = elim (cases_Bool (p (f x))) [
  | inl passes ↦ rw passes (ap (λ ys. f x ∷ ys) (filter-map p f xs))
  | inr fails ↦ rw fails (filter-map p f xs)
]

-- ---- what the clients of a node hold

module _ (sorter : PlainSorter) (sound : IsSound (plain_content sorter)) (node : List (List ℕ)) where
  pub held-within : (label : List ℕ) → held_by sorter.clients.items node label ≤ amount_of sorter.total label
  held-within label =
      let all = rw (sum_by-map (λ c. c.held label) ranked sorter.clients.items) at (sound.held label) in
      omega (
        arith,
        all,
        sum_part_le (λ (x : Client). begins_with x.path node) (λ x. amount_of x.held label)
            sorter.clients.items,
      )

  pub count-fits : count_by sorter.clients.items node < 2 ^ 64
  count-fits =
      let all = rw (sum_by-map (λ c. c.count) ranked sorter.clients.items) at sound.count in
      omega (arith, all, sum_part_le (λ (x : Client). begins_with x.path node) (λ x. x.count) sorter.clients.items)

-- a sum over the clients of a node
sum_of_node : (f : Ranked → ℕ) (node : List (List ℕ)) (clients : List Client)
    → sum_by (λ (x : Client). f (ranked x)) (filter (λ x. begins_with x.path node) clients)
    ≡ sum_by f (filter (λ c. begins_with c.path node) (map ranked clients))
sum_of_node f node clients =
    sym
    (ap (λ cs. sum_by f cs) (filter-map (λ c. begins_with c.path node) ranked clients)
    ∙ sum_by-map f ranked (filter (λ x. begins_with x.path node) clients))

pub held-standing : (sorter : PlainSorter) (node : List (List ℕ)) (label : List ℕ)
    → held_by sorter.clients.items node label ≡ (plain_standing sorter).held node label
unfolding standing_in
held-standing sorter node label = sum_of_node (λ c. c.held label) node sorter.clients.items

pub count-standing : (sorter : PlainSorter) (node : List (List ℕ))
    → count_by sorter.clients.items node ≡ (plain_standing sorter).count node
unfolding standing_in
count-standing sorter node = sum_of_node (λ c. c.count) node sorter.clients.items

total-standing : (sorter : PlainSorter) → sorter.total ≡ (plain_standing sorter).total
unfolding standing_in
total-standing sorter = refl

pub weight-standing : (sorter : PlainSorter) (node : List (List ℕ))
    → weight_of sorter.weights.rows.items node ≡ (plain_standing sorter).weight node
unfolding standing_in
weight-standing sorter node = refl

pub share-standing : (sorter : PlainSorter) (node : List (List ℕ))
    → dominant_of (held_by sorter.clients.items node) sorter.total ≡ share_of (plain_standing sorter) node
share-standing sorter node = λ i. dominant_of (λ label. held-standing sorter node label i) (total-standing sorter i)

pub weighted-standing : (sorter : PlainSorter) (node : List (List ℕ)) (weight : ℕ)
    → weight ≡ weight_of sorter.weights.rows.items node
    → weigh (dominant_of (held_by sorter.clients.items node) sorter.total) weight
    ≡ weighted_share_of (plain_standing sorter) node
weighted-standing sorter node weight is =
    λ i. weigh (share-standing sorter node i) ((is ∙ weight-standing sorter node) i)

pub has_node-is : (sorter : PlainSorter) (node : List (List ℕ))
    → list_any (λ (x : Client). begins_with x.path node) sorter.clients.items ≡ has_node (plain_content sorter) node
has_node-is sorter node = sym (any_ranked (λ c. begins_with c.path node) sorter.clients.items)

-- one more client is visited
module _ {X Y : Type 0} (p : X → Bool) (f : X → Y) (xs : List X) (i : ℕ) (x : X) (inside : i < length xs)
    (is : x ≡ get_or xs i x) where
  one_more : take (i + 1) xs ≡ take i xs ++ x ∷ []
  one_more = take_more xs i x inside ∙ ap (λ y. take i xs ++ y ∷ []) (sym is)

  pub passed_more : p x ≡ true → map f (filter p (take (i + 1) xs)) ≡ map f (filter p (take i xs)) ++ f x ∷ []
  passed_more passes =
      rw (one_more, filter-append p (take i xs) (x ∷ []), passes, map-append f (filter p (take i xs)) (x ∷ []))

  pub passed_same : p x ≡ false → map f (filter p (take (i + 1) xs)) ≡ map f (filter p (take i xs))
  passed_same fails = rw (one_more, filter-append p (take i xs) (x ∷ []), fails, append-nil (filter p (take i xs)))

-- the keys for one more path are computed
pub made_more : (old mid new : ℕ) (paths more : List (List (List ℕ))) (path : List (List ℕ))
    → mid ≡ min (old + sum_by length paths) (2 ^ 64 - 1) → new ≡ min (mid + length path) (2 ^ 64 - 1)
    → more ≡ paths ++ path ∷ [] → new ≡ min (old + sum_by length more) (2 ^ 64 - 1)
made_more old mid new paths more path before then is =
    rw (is, sum_by_push length paths path) (omega (arith, before, then))

pub active_paths-ranked : (sorter : PlainSorter)
    → map (λ (x : Client). x.path) (filter (λ x. x.active) sorter.clients.items) ≡ active_paths (plain_content sorter)
active_paths-ranked sorter =
    sym
    (ap (map (λ c. c.path)) (filter-map (λ c. c.active) ranked sorter.clients.items)
    ∙ map-map (λ c. c.path) ranked (filter (λ (x : Client). x.active) sorter.clients.items))

pub distinct_active : (sorter : PlainSorter) → IsDistinct same_path (active_paths (plain_content sorter))
distinct_active sorter =
    rw (← active_paths-ranked sorter)
    (distinct_filter (λ (x : Client). x.path) (λ x. x.active) sorter.clients.items sorter.distinct)

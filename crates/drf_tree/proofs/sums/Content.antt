-- How a change of one client changes the sums over the clients below a node.
use Rattle.std.specs.List.{AllByRecursion, IsDistinct, list_any}
use Rattle.std.proofs.Common.{refl, sym, ap, subst, ◌∙◌, inl, inr, arith, ◌≡◌, ◌+◌, ℕ, Bool, true, false, ◌||◌, cond, if◌then◌else◌, List, [], ◌∷◌, filter, map, sum_by}
use Rattle.std.proofs.lemmas.Bool.{false≢true, cases_Bool}
use Rattle.std.proofs.lemmas.List.Sums.{sum_by-cons}
use Rattle.std.proofs.lemmas.Map.Keys.{IsDistinct-head, IsDistinct-tail}
use Rattle.drf_tree.proofs.Names.{Path, begins_with, same_path, same_path-swap, same_path-true, sum_by-filter, Ranked}

-- the value of a client below a node, and 0 for the others
abbrev pub below : Path → (Ranked → ℕ) → Ranked → ℕ
below node f c = cond (begins_with c.path node) (f c) 0

pub sum_below : (node : Path) (f : Ranked → ℕ) (cs : List Ranked)
    → sum_by f (filter (λ c. begins_with c.path node) cs) ≡ sum_by (below node f) cs
sum_below node f cs = sum_by-filter f (λ (c : Ranked). begins_with c.path node) cs

module _ (path : Path) (change : Ranked → Ranked) where
  -- the client with this path is changed
  abbrev pub step : Ranked → Ranked
  step c = if same_path c.path path then change c else c

  pub others_stay : (cs : List Ranked) → AllByRecursion (λ p. same_path path p ≡ false) (map (λ (c : Ranked). c.path) cs)
      → map step cs ≡ cs
  others_stay [] all = refl
  others_stay (c ∷ cs) all = rw (same_path-swap c.path path ∙ all.0) (ap (λ (ds : List Ranked). c ∷ ds) (others_stay cs all.1))

  -- if the value of the client changes, the sum changes by the same amount
  module _ (g : Ranked → ℕ) (less more : ℕ) where
    pub sum_moved : (cs : List Ranked) → IsDistinct same_path (map (λ (c : Ranked). c.path) cs)
        → list_any (λ c. same_path c.path path) cs ≡ true
        → AllByRecursion (λ c. same_path c.path path ≡ true → g (change c) + less ≡ g c + more) cs
        → sum_by g (map step cs) + less ≡ sum_by g cs + more
    sum_moved [] distinct some at = absurd (false≢true some)
    sum_moved (c ∷ cs) distinct some at = elim (cases_Bool (same_path c.path path)) [
      | inl here ↦
          let far : AllByRecursion (λ p. same_path path p ≡ false) (map (λ (c : Ranked). c.path) cs) =
          subst (λ (q : Path). AllByRecursion (λ p. same_path q p ≡ false) (map (λ (c : Ranked). c.path) cs))
          (same_path-true c.path path here) (IsDistinct-head same_path c.path (map (λ (c : Ranked). c.path) cs) distinct) in
          let first : step c ≡ change c = ap (λ (b : Bool). if b then change c else c) here in
          let new : sum_by g (map step (c ∷ cs)) ≡ g (change c) + sum_by g cs =
          sum_by-cons g (step c) (map step cs) ∙ (λ i. g (first i) + sum_by g (others_stay cs far i)) in
          let old : sum_by g (c ∷ cs) ≡ g c + sum_by g cs = sum_by-cons g c cs in
          let one : g (change c) + less ≡ g c + more = at.0 here in
          omega (arith, new, old, one)
      | inr past ↦
          let first : step c ≡ c = ap (λ (b : Bool). if b then change c else c) past in
          let later : list_any (λ c. same_path c.path path) cs ≡ true =
          subst (λ (b : Bool). (b || list_any (λ c. same_path c.path path) cs) ≡ true) past some in
          let rest : sum_by g (map step cs) + less ≡ sum_by g cs + more =
          sum_moved cs (IsDistinct-tail same_path c.path (map (λ (c : Ranked). c.path) cs) distinct) later at.1 in
          let new : sum_by g (map step (c ∷ cs)) ≡ g c + sum_by g (map step cs) =
          sum_by-cons g (step c) (map step cs) ∙ ap (λ (d : Ranked). g d + sum_by g (map step cs)) first in
          let old : sum_by g (c ∷ cs) ≡ g c + sum_by g cs = sum_by-cons g c cs in
          omega (arith, new, old, rest)
    ]

  -- if the change does not affect the value, the sum stays the same
  pub sum_stays : (g : Ranked → ℕ) → ((c : Ranked) → same_path c.path path ≡ true → g (change c) ≡ g c)
      → (cs : List Ranked) → sum_by g (map step cs) ≡ sum_by g cs
  sum_stays g at [] = refl
  sum_stays g at (c ∷ cs) =
      let first : g (step c) ≡ g c = by (same_path c.path path) refl in
      sum_by-cons g (step c) (map step cs)
      ∙ (λ i. first i + sum_stays g at cs i)
      ∙ sym (sum_by-cons g c cs)
    where
      by : (b : Bool) → same_path c.path path ≡ b → g (if b then change c else c) ≡ g c
      by true here = at c here
      by false past = refl

  -- the paths stay
  pub paths_stay : ((c : Ranked) → (change c).path ≡ c.path) → (cs : List Ranked)
      → map (λ c. c.path) (map step cs) ≡ map (λ (c : Ranked). c.path) cs
  paths_stay keeps [] = refl
  paths_stay keeps (c ∷ cs) = λ i. by (same_path c.path path) i ∷ paths_stay keeps cs i
    where
      by : (b : Bool) → (cond b (change c) c).path ≡ c.path
      by true = keeps c
      by false = refl

-- What a node holds is part of what the nodes above it hold, and of the cluster's total.
use Rattle.std.proofs.Common.{refl, ap, arith, ◌≡◌, ◌≤◌, ℕ, Bool, true, false, cond, List, filter, sum_by}
use Rattle.std.proofs.lemmas.List.Sums.{sum_by-le-sum_by}
use Rattle.drf_tree.proofs.Names.{Path, begins_with, cond_le, sum_by-filter, Content, Ranked, clients_under}
use Rattle.drf_tree.proofs.shape.Path.{begins_trans}

narrower_at : (n : ℕ) (a b : Bool) → (a ≡ true → b ≡ true) → cond a n 0 ≤ cond b n 0
narrower_at n true b so = omega (arith, ap (λ (t : Bool). cond t n 0) (so refl))
narrower_at n false b so = omega arith

-- a narrower test has a smaller sum
pub narrower_less : {X : Type 0} (f : X → ℕ) (p q : X → Bool) → ((x : X) → p x ≡ true → q x ≡ true) → (xs : List X)
    → sum_by f (filter p xs) ≤ sum_by f (filter q xs)
narrower_less {X} f p q so xs =
    omega (
      arith,
      sum_by-filter f p xs,
      sum_by-filter f q xs,
      sum_by-le-sum_by (λ (x : X). cond (p x) (f x) 0) (λ (x : X). cond (q x) (f x) 0) xs (λ x. narrower_at (f x) (p x) (q x) (so x)),
    )

pub part_less : {X : Type 0} (f : X → ℕ) (p : X → Bool) (xs : List X) → sum_by f (filter p xs) ≤ sum_by f xs
part_less {X} f p xs =
    omega (arith, sum_by-filter f p xs, sum_by-le-sum_by (λ (x : X). cond (p x) (f x) 0) f xs (λ x. cond_le (p x) (f x)))

-- the sum over the clients below a node is at most that of a node above it
pub below_less : (f : Ranked → ℕ) (content : Content) (path node : Path) → begins_with path node ≡ true
    → sum_by f (clients_under content path) ≤ sum_by f (clients_under content node)
below_less f content path node begins =
    narrower_less f (λ (c : Ranked). begins_with c.path path) (λ (c : Ranked). begins_with c.path node)
    (λ c under. begins_trans c.path path node under begins) content.clients

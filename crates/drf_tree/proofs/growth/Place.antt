-- No number below the first free one is free, after places are set and freed.
use Rattle.std.specs.Option.{is_some}
use Rattle.std.proofs.Common.{refl, ap, ◌∙◌, inl, inr, arith, get_or-set_other, get_or-set_same, ◌≡◌, ◌≢◌, ◌<◌, ◌+◌, ◌==◌, ◌||◌, ◌++◌, ◌∷◌, [], ℕ, zero, suc, Bool, true, false, max, min, List, Option, None, Some, length, slice_set}
use Rattle.std.proofs.lemmas.Bool.{cases_eq}
use Rattle.drf_tree.proofs.Names.{Place, is_node, place_at}
use Rattle.drf_tree.specs.Places.{AreTaken}
use Rattle.drf_tree.proofs.growth.Vacant.{read_more}

node_like : (o p : Option Place) (i : ℕ) → o ≡ p → ((i == 0) || is_some o) ≡ ((i == 0) || is_some p)
node_like o p i same = ap (λ (q : Option Place). (i == 0) || is_some q) same

-- setting or freeing another number changes nothing at this one
stays : (places : List (Option Place)) (node : ℕ) (o : Option Place) (i : ℕ) → i ≢ node
    → is_node (slice_set places node o) i ≡ is_node places i
stays places node o i other =
    node_like (place_at (slice_set places node o) i) (place_at places i) i (get_or-set_other places node i o None other)

-- the root's number is never free
pub taken_first : (places : List (Option Place)) (first : ℕ) → AreTaken places first → AreTaken places (max first 1)
taken_first places first taken zero below = refl
taken_first places first taken (suc i) below = taken (suc i) (omega (arith, below))

pub taken_pushed : (places : List (Option Place)) (first : ℕ) → AreTaken places first → AreTaken (places ++ None ∷ []) first
taken_pushed places first taken i below =
    node_like (place_at (places ++ None ∷ []) i) (place_at places i) i (read_more places None i) ∙ taken i below

pub taken_put : (places : List (Option Place)) (node : ℕ) (place : Place) → node < length places → AreTaken places node
    → AreTaken (slice_set places node (Some place)) (node + 1)
taken_put places node place within taken i below = elim (cases_eq i node) [
  | inl same ↦
      ap (is_node (slice_set places node (Some place))) same
      ∙ node_like (place_at (slice_set places node (Some place)) node) (Some place) node
      (get_or-set_same places node (Some place) None within)
      ∙ either_way (node == 0)
  | inr other ↦ stays places node (Some place) i other ∙ taken i (omega (arith, below, other))
]
  where
    either_way : (b : Bool) → (b || true) ≡ true
    either_way true = refl
    either_way false = refl

pub taken_freed : (places : List (Option Place)) (first node : ℕ) → AreTaken places first
    → AreTaken (slice_set places node None) (min first node)
taken_freed places first node taken i below =
    let other : i ≢ node = omega (arith, below) in
    stays places node None i other ∙ taken i (omega (arith, below))

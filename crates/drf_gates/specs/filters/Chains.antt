-- Chains: places of one bucket, from the last to the first. A place is told as the number after it, and 0 ends a chain. A place in none of
-- the buckets is in no chain.
use Rattle.std.specs.Prelude.{◌≡◌, ◌≢◌, ℕ, ◌+◌, ◌<◌, ◌≤◌, List, length, slice_index}

-- of the places before an end, the last in a bucket
pub record IsLast (buckets : List ℕ) (bucket end last : ℕ) : Type 0 where
  pub within : last ≤ end
  pub own : (place : ℕ) → last ≡ place + 1 → slice_index buckets place ≡ bucket
  pub none_after : (place : ℕ) → last ≤ place → place < end → slice_index buckets place ≢ bucket

-- each bucket has its last place, and each place in a bucket the last before it there
pub record IsChained (buckets heads links : List ℕ) : Type 0 where
  pub number : length links ≡ length buckets
  pub head : (bucket : ℕ) → bucket < length heads → IsLast buckets bucket (length buckets) (slice_index heads bucket)
  pub link : (place : ℕ) → place < length buckets → slice_index buckets place < length heads → IsLast buckets (slice_index buckets place) place (slice_index links place)

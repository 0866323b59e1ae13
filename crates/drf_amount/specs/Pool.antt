-- A pool: an amount of which numbered parts are taken, and the rest is free.
use Rattle.std.specs.Prelude.{◌≡◌, ℕ, ◌+◌, ◌≤◌, List, [], ◌∷◌, Option, Some, option_and_then, All}
use Rattle.std.specs.Map.{lookup, remove_entry, set_value, values_of}
use Rattle.std.specs.BTreeMap.{is_at}
use Rattle.std.specs.Ordering.{nat_cmp}

-- what contracts see of a pool: its parts with their numbers, in ascending order, and the number of the next part
pub record PoolContent (A : Type 0) : Type 0 where
  pub total : A
  pub free : A
  pub parts : List (ℕ × A)
  pub next : ℕ

abbrev pub pool_of : {A : Type 0} → A → A → List (ℕ × A) → ℕ → PoolContent A
pool_of total free parts next = record { total = total; free = free; parts = parts; next = next }

-- `base` joined with each part
abbrev pub joined_with : {A : Type 0} → (A → A → Option A) → A → List (ℕ × A) → Option A
joined_with join base [] = Some base
joined_with join base (part ∷ parts) = option_and_then (λ rest. join rest part.1) (joined_with join base parts)

-- `base` joined with each amount, from the left
abbrev pub joined_all : {A : Type 0} → (A → A → Option A) → A → List A → Option A
joined_all join base [] = Some base
joined_all join base (amount ∷ amounts) = option_and_then (λ more. joined_all join more amounts) (join base amount)

-- the amounts with consecutive numbers, from `first` on
abbrev pub numbered : {A : Type 0} → ℕ → List A → List (ℕ × A)
numbered first [] = []
numbered first (amount ∷ amounts) = (first, amount) ∷ numbered (first + 1) amounts

-- the total is the join of the free amount and all parts
abbrev pub IsWhole : {A : Type 0} → (A → A → Option A) → PoolContent A → Type 0
IsWhole join pool = joined_with join pool.free pool.parts ≡ Some pool.total

-- the numbers of the parts rise strictly, are at least `low`, and are less than `next`
abbrev pub NumbersRise : {A : Type 0} → ℕ → List (ℕ × A) → ℕ → Type 0
NumbersRise low [] next = low ≤ next
NumbersRise low (part ∷ parts) next = (low ≤ part.0) × NumbersRise (part.0 + 1) parts next

-- all parts have different numbers, which are less than the next number
abbrev pub IsNumbered : {A : Type 0} → PoolContent A → Type 0
IsNumbered pool = NumbersRise 0 pool.parts pool.next

-- the invariant of a pool
pub record IsPool {A : Type 0} (is_given : A → Type 0) (join : A → A → Option A) (pool : PoolContent A) : Type 0 where
  pub total_given : is_given pool.total
  pub free_given : is_given pool.free
  pub parts_given : All is_given (values_of pool.parts)
  pub whole : IsWhole join pool
  pub numbered : IsNumbered pool

-- the part with a number
abbrev pub part_at : {A : Type 0} → List (ℕ × A) → ℕ → Option A
part_at parts number = lookup (is_at (nat_cmp number)) parts

-- the parts without the one with that number
abbrev pub parts_without : {A : Type 0} → List (ℕ × A) → ℕ → List (ℕ × A)
parts_without parts number = remove_entry (is_at (nat_cmp number)) parts

-- the parts with the one with that number replaced
abbrev pub parts_with : {A : Type 0} → List (ℕ × A) → ℕ → A → List (ℕ × A)
parts_with parts number amount = set_value (is_at (nat_cmp number)) parts amount

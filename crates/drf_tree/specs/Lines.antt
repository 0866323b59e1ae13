-- Lists of node numbers.
use Rattle.std.specs.Prelude.{◌≡◌, ◌<◌, ◌==◌, ℕ, Bool, false, true, List, slice_index_or}
use Rattle.std.specs.List.{list_any}

-- each number below `end` is in the list
abbrev pub HasEach : ℕ → List ℕ → Type 0
HasEach end numbers = (i : ℕ) → i < end → list_any (λ n. n == i) numbers ≡ true

-- each number whose flag is set is in the list
abbrev pub AreListed : List Bool → List ℕ → Type 0
AreListed flags numbers = (i : ℕ) → slice_index_or flags i false ≡ true → list_any (λ n. n == i) numbers ≡ true

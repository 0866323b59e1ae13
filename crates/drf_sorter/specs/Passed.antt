-- Clients that are passed together.
use Rattle.std.specs.Prelude.{◌≡◌, ◌<◌, ℕ, List, ◌++◌, Some, length, slice_get, take}
use Rattle.std.specs.List.{AllByRecursion}
use Rattle.drf_role.specs.Path.{Path}

-- the current client is passed, and perhaps clients right after it whose paths have the same first `len` parts
pub record IsPassedPrefix (len : ℕ) (old new : List Path) : Type 0 where
  pub passed : List Path
  pub split : old ≡ passed ++ new
  pub alike : (first : Path) → slice_get old 0 ≡ Some first → AllByRecursion (λ path. take len path ≡ take len first) passed
  pub some : (first : Path) → slice_get old 0 ≡ Some first → 0 < length passed

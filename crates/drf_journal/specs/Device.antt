-- What a device records about its calls.
use Rattle.std.specs.Prelude.{◌≡◌, ℕ, Bool, true, false, ◌==◌, List, take, Option, Result, Ok, Err}
use Rattle.std.specs.Io.KnownBytes.{Appends}

-- the call failed, or moved no bytes
abbrev pub moved_nothing : {E : Type 0} → Result ℕ E → Bool
moved_nothing (Ok count) = count == 0
moved_nothing (Err error) = true

-- known bytes grew by a prefix of these bytes
abbrev pub AppendsPrefixOf : Option (List ℕ) → Option (List ℕ) → List ℕ → Type 0
AppendsPrefixOf old new bytes = (count : ℕ) × Appends old new (take count bytes)

-- a device that has not been called yet
abbrev pub IsNew : ℕ → Bool → Type 0
IsNew calls failed = (calls ≡ 0) × (failed ≡ false)

-- The quantity of a name is the sum of its scalars over all reservations.
use Rattle.std.specs.Prelude.{Bool}
use Rattle.drf_role.specs.Text.{Text, same_text}
use Rattle.drf_bundle.specs.Bundle.{Key}

-- the keys of a name
abbrev pub of_name : Text → Key → Bool
of_name name key = same_text name key.0

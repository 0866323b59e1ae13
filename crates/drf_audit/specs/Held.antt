-- The bundles that are held on agents, as the code stores them by name.
use Rattle.std.specs.Prelude.{List, [], map}
use Rattle.std.specs.Borrow.{Bor}
use Rattle.std.specs.Map.{lookup}
use Rattle.std.specs.Option.{option_map_or}
use Rattle.drf_bundle.specs.declared.resource.Resource.{Resource}
use Rattle.drf_role.specs.Text.{Text, same_text}
use Rattle.drf_audit.specs.declared.held.Held.{Held}

-- borrowed bundles as a list
abbrev pub parts_of : List (Bor (List Resource)) → List (List Resource)
parts_of bundles = map (λ b. b.now) bundles

-- the bundles that are stored for an agent
abbrev pub parts_in : Held → Text → List (List Resource)
parts_in held agent = option_map_or (λ bundles. parts_of bundles.items) (lookup (same_text agent) held.by_agent.entries) []

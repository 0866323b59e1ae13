-- Tasks that are started with parts of one offer.
use Rattle.std.specs.Prelude.{◌≤◌, Bool, false, List, [], length, map}
use Rattle.std.specs.List.{AllByRecursion}
use Rattle.std.specs.Option.{option_map_or}
use Rattle.drf_role.specs.Text.{Text}
use Rattle.drf_bundle.specs.Bundle.{IsBundle, covers}
use Rattle.drf_bundle.specs.Taken.{joined}
use Rattle.drf_bundle.specs.declared.resource.Resource.{Resource}

-- a task to start: its name, and the part of the offer that it uses
abbrev pub Start : Type 0
Start = Text × List Resource

-- the names of the tasks
abbrev pub names_of : List Start → List Text
names_of starts = map (λ s. s.0) starts

-- the parts that the tasks use
abbrev pub uses : List Start → List (List Resource)
uses starts = map (λ s. s.1) starts

-- there are 1 to 16 tasks, and their parts are valid bundles
pub record IsTaskList (starts : List Start) : Type 0 where
  pub some : 1 ≤ length starts
  pub few : length starts ≤ 16
  pub bundles : AllByRecursion IsBundle (uses starts)

-- the parts have a join, and the bundle covers it
abbrev pub covers_all : List Resource → List (List Resource) → Bool
covers_all whole parts = option_map_or (covers whole) (joined [] parts) false

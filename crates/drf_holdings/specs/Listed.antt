-- The content of an index: for each key, the numbers of the things that pass the key's test.
use Rattle.std.specs.Prelude.{◌≡◌, ℕ, ◌<◌, ◌==◌, ◌∷◌, Bool, List, [], map, filter, find}
use Rattle.std.specs.List.{AllByRecursion}
use Rattle.std.specs.Map.{lookup}
use Rattle.std.specs.Option.{option_map_or, option_to_list}
use Rattle.drf_bundle.specs.declared.resource.Resource.{Resource}
use Rattle.drf_role.specs.Text.{Text, same_text}
use Rattle.drf_rows.specs.Releases.{is_task}
use Rattle.drf_rows.specs.declared.rows.OfferRow.{OfferRow}
use Rattle.drf_rows.specs.declared.rows.TaskRow.{TaskRow}
use Rattle.drf_holdings.specs.Rising.{IsRising}
use Rattle.drf_holdings.specs.declared.index.Index.{Index}
use Rattle.drf_holdings.specs.declared.names.Names.{Names}
use Rattle.drf_holdings.specs.declared.offers.OfferIndex.{OfferIndex}
use Rattle.drf_holdings.specs.declared.tasks.Task.{Task}
use Rattle.drf_holdings.specs.declared.tasks.TaskIndex.{TaskIndex}

-- for each key the index lists the numbers of the things that pass its test, in their order
abbrev pub IsListed : {K X : Type 0} → (K → X → Bool) → (X → ℕ) → (K → List ℕ) → List X → Type 0
IsListed {K} test number listed xs = (k : K) → listed k ≡ map number (filter (test k) xs)

-- the numbers that an index lists for a name
abbrev pub numbers_in : Index → Text → List ℕ
numbers_in index name = option_map_or (λ numbers. numbers.items) (lookup (same_text name) index.lists.entries) []

abbrev pub offer_number : OfferRow → ℕ
offer_number o = o.number

abbrev pub offer_on : Text → OfferRow → Bool
offer_on agent o = same_text o.agent agent

abbrev pub offer_of : Text → OfferRow → Bool
offer_of framework o = same_text o.framework framework

-- the offers are listed by agent and by framework
pub record AreOffersListed (index : OfferIndex) (offers : List OfferRow) : Type 0 where
  pub agents : IsListed offer_on offer_number (numbers_in index.agents) offers
  pub frameworks : IsListed offer_of offer_number (numbers_in index.frameworks) offers

-- the offers are listed, and their numbers are increasing
pub record AreOffersKept (index : OfferIndex) (offers : List OfferRow) : Type 0 where
  pub rising : IsRising (map offer_number offers)
  pub listed : AreOffersListed index offers

-- ---- tasks

-- a framework, and the name of a task
abbrev pub TaskKey : Type 0
TaskKey = Text × Text

-- the serial number of a framework's task with this name, if there is one
abbrev pub serials_in : Names → TaskKey → List ℕ
serials_in names key =
    option_map_or (λ tasks. option_to_list (lookup (same_text key.1) tasks.entries)) (lookup (same_text key.0) names.frameworks.entries) []

abbrev pub task_serial : Task → ℕ
task_serial t = t.serial

abbrev pub task_row : Task → TaskRow
task_row t = t.row

abbrev pub task_on : Text → Task → Bool
task_on agent t = same_text t.row.agent agent

abbrev pub task_of : Text → Task → Bool
task_of framework t = same_text t.row.framework framework

abbrev pub task_named : TaskKey → Task → Bool
task_named key t = is_task key.0 key.1 t.row

-- the tasks are listed by agent, and by framework and name
pub record AreTasksListed (index : TaskIndex) (tasks : List Task) : Type 0 where
  pub agents : IsListed task_on task_serial (numbers_in index.agents) tasks
  pub names : IsListed task_named task_serial (serials_in index.names) tasks

-- the tasks are listed, and their serial numbers are increasing and less than `next`
pub record AreTasksKept (index : TaskIndex) (tasks : List Task) (next : ℕ) : Type 0 where
  pub rising : IsRising (map task_serial tasks)
  pub below : AllByRecursion (λ t. t.serial < next) tasks
  pub listed : AreTasksListed index tasks

-- the bundle of the thing with this number, if there is one
abbrev pub bundles_at : {X : Type 0} → (X → ℕ) → (X → List Resource) → List X → ℕ → List (List Resource)
bundles_at number bundle xs n = option_map_or (λ x. bundle x ∷ []) (find (λ x. number x == n) xs) []

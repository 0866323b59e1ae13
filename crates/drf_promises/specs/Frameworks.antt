-- The promise that more frameworks gain their role nothing: clusters that differ only in frameworks and names offer the
-- same to each role.
use Rattle.std.specs.Prelude.{◌≡◌, Bool, true, ⊤, List, [], ◌∷◌, map, is_some, flat_map}
use Rattle.std.specs.List.{AllByRecursion, list_any}
use Rattle.drf_role.specs.Path.{Path, begins_with, client_path, same_path}
use Rattle.drf_role.specs.Text.{Text}
use Rattle.drf_rows.specs.Consistent.{IsConsistent}
use Rattle.drf_rows.specs.Releases.{is_task}
use Rattle.drf_rows.specs.Held.{active_clients, count_of}
use Rattle.drf_rows.specs.LimitNumbers.{LimitNumbers}
use Rattle.drf_rows.specs.Step.{refusal_of, effect, rows_after, rows_after_all, replies_to}
use Rattle.drf_row_laws.specs.LifeLaws.{lines_reported}
use Rattle.drf_rows.specs.declared.event.Event.{Event}
use Rattle.drf_rows.specs.declared.event.Event.TheVariants.{AddFramework, SetFramework, RemoveFramework, Accept, Decline, Finish, Suppress, Revive}
use Rattle.drf_rows.specs.declared.reply.OfferLine.{OfferLine}
use Rattle.drf_rows.specs.declared.rows.OfferRow.{OfferRow}
use Rattle.drf_rows.specs.declared.rows.Rows.{Rows}
use Rattle.drf_rows.specs.declared.rows.TaskRow.{TaskRow}
use Rattle.drf_laws.specs.RunLaws.{AreGiven}
use Rattle.drf_promises.specs.Cycles.{IsUnfiltered}

-- ---- two clusters

-- the offer without the framework that it is made to
abbrev pub unnamed_offer : OfferRow → OfferRow
unnamed_offer o = record o { framework = [] }

-- the task without its framework and its name
abbrev pub unnamed_task : TaskRow → TaskRow
unnamed_task t = record t { framework = []; name = [] }

-- the role is active: one of its clients is
abbrev pub has_part : Rows → Path → Bool
has_part rows role = list_any (λ c. same_path c.role role) (active_clients rows)

-- the node has all clients of a role, or none of them
abbrev pub IsOfRoles : Path → Type 0
IsOfRoles node = (role : Path) (f g : Text) → begins_with (client_path role f) node ≡ begins_with (client_path role g) node

-- Two clusters differ only in how many frameworks each role has, and in which framework has what. Agents, weights and
-- limits are the same, and so is each offer and each task except for its framework. The same roles are active, and
-- received as many offers. No filter is in force.
pub record StandAlike (rows other : Rows) : Type 0 where
  pub agents : other.agents ≡ rows.agents
  pub weights : other.weights ≡ rows.weights
  pub limits : other.limits ≡ rows.limits
  pub next_offer : other.next_offer ≡ rows.next_offer
  pub offers : map unnamed_offer other.offers ≡ map unnamed_offer rows.offers
  pub tasks : map unnamed_task other.tasks ≡ map unnamed_task rows.tasks
  pub parts : (role : Path) → has_part other role ≡ has_part rows role
  pub counts : (node : Path) → IsOfRoles node → count_of other node ≡ count_of rows node
  pub unfiltered : IsUnfiltered rows
  pub unfiltered_too : IsUnfiltered other

-- a cluster in which no filter is in force is like itself
abbrev pub EachStandsAsItself : Type 0
EachStandsAsItself = (rows : Rows) → IsUnfiltered rows → StandAlike rows rows

-- it stays like another one when one more framework registers in roles that are already active
abbrev pub OneMoreStandsAlike : Type 0
OneMoreStandsAlike =
    (rows other : Rows) (framework : Text) (roles : List Path)
    → StandAlike rows other
    → AllByRecursion (λ role. has_part other role ≡ true) roles
    → StandAlike rows (effect other (AddFramework framework roles))

-- ---- two runs

-- another framework, and its names for tasks
pub record Names : Type 0 where
  pub framework : Text
  pub task : Text → Text

-- the event with the framework and the task names replaced
abbrev pub with_names : Names → Event → Event
with_names names (Accept a) = Accept (record a { framework = names.framework; tasks = map (λ s. (names.task s.0, s.1)) a.tasks })
with_names names (Decline d) = Decline (record d { framework = names.framework })
with_names names (Finish framework task) = Finish names.framework (names.task task)
with_names names other = other

-- for each task, whether the event finishes it
abbrev pub finished : Rows → Event → List Bool
finished rows (Finish framework task) = map (is_task framework task) rows.tasks
finished rows other = []

-- in both clusters the event is refused or in neither, it finishes the same task, and no filter is in force after it
pub record ComesToTheSame (limits : LimitNumbers) (rows other : Rows) (event : Event) (names : Names) : Type 0 where
  pub refused : is_some (refusal_of limits other (with_names names event)) ≡ is_some (refusal_of limits rows event)
  pub finishes : finished other (with_names names event) ≡ finished rows event
  pub unfiltered : IsUnfiltered (rows_after limits rows event)

-- a step of two runs side by side
pub data Step : Type 0 where
  -- an event in both, with other names in the other run
  in_both : Event → Names → Step
  -- a framework that registers only in the other run, in some roles
  comes : Text → List Path → Step

-- the events of the first run, and those of the other run
abbrev pub events_of_one : List Step → List Event
events_of_one [] = []
events_of_one (in_both event names ∷ steps) = event ∷ events_of_one steps
events_of_one (comes framework roles ∷ steps) = events_of_one steps

abbrev pub events_of_other : List Step → List Event
events_of_other [] = []
events_of_other (in_both event names ∷ steps) = with_names names event ∷ events_of_other steps
events_of_other (comes framework roles ∷ steps) = AddFramework framework roles ∷ events_of_other steps

-- the event does not remove a framework, change its roles, suppress or revive
abbrev pub NobodyGoes : Event → Type 0
NobodyGoes (SetFramework framework roles) = ⊥
NobodyGoes (RemoveFramework framework) = ⊥
NobodyGoes (Suppress framework role) = ⊥
NobodyGoes (Revive framework role) = ⊥
NobodyGoes other = ⊤

-- each event does the same in both, and frameworks that register only in the other run do so in roles that are already
-- active
abbrev pub ComeToTheSame : LimitNumbers → Rows → Rows → List Step → Type 0
ComeToTheSame limits rows other [] = ⊤
ComeToTheSame limits rows other (in_both event names ∷ steps) =
    ComesToTheSame limits rows other event names × ComeToTheSame limits (rows_after limits rows event) (rows_after limits other (with_names names event)) steps
ComeToTheSame limits rows other (comes framework roles ∷ steps) =
    AllByRecursion (λ role. has_part other role ≡ true) roles
    × ComeToTheSame limits rows (rows_after limits other (AddFramework framework roles)) steps

-- the line of an offer without its framework
abbrev pub to_role : OfferLine → OfferLine
to_role line = record line { framework = [] }

-- what a run offers to roles: number, agent, role and bundle of each offer in its replies
abbrev pub offers_to_roles : LimitNumbers → Rows → List Event → List OfferLine
offers_to_roles limits rows events = map to_role (flat_map lines_reported (replies_to limits rows events))

-- Two clusters that are alike in this sense stay alike in such runs, and each role is made the same offers in both.
-- There can be limits, reservations and weights, agents can change in any way, and frameworks can register, while no
-- framework is removed, changes its roles, is suppressed or revives.
abbrev pub MoreFrameworksGainNothing : Type 0
MoreFrameworksGainNothing =
    (limits : LimitNumbers) (rows other : Rows) (steps : List Step)
    → IsConsistent rows
    → IsConsistent other
    → AreGiven (events_of_one steps)
    → AreGiven (events_of_other steps)
    → AllByRecursion NobodyGoes (events_of_one steps)
    → StandAlike rows other
    → ComeToTheSame limits rows other steps
    → StandAlike (rows_after_all limits rows (events_of_one steps)) (rows_after_all limits other (events_of_other steps))
    × (offers_to_roles limits other (events_of_other steps) ≡ offers_to_roles limits rows (events_of_one steps))

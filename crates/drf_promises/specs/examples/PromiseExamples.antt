-- The runs of the promises and of the expectations that fail.
use Rattle.std.specs.Prelude.{ℕ, List, [], ◌∷◌, ◌++◌, codes, flat_map, map}
use Rattle.drf_role.specs.Path.{Path}
use Rattle.drf_role.specs.Text.{Text}
use Rattle.drf_bundle.specs.declared.resource.Resource.{Resource}
use Rattle.drf_rows.specs.LimitNumbers.{ceilings}
use Rattle.drf_rows.specs.Step.{opening, replies_to, rows_after_all}
use Rattle.drf_worked.specs.Examples.{cpus, cpus_for, framework_in, mem}
use Rattle.drf_worked.specs.LifeExamples.{accept, decline, decline_for}
use Rattle.drf_worked.specs.QuotaExamples.{cpus_limit}
use Rattle.drf_worked.specs.WeightExamples.{weighing}
use Rattle.drf_row_laws.specs.LifeLaws.{lines_reported}
use Rattle.drf_rows.specs.declared.event.Event.{Event}
use Rattle.drf_rows.specs.declared.event.Event.TheVariants.{AddAgent, ActivateAgent, DeactivateAgent, AddFramework, Cycle}
use Rattle.drf_rows.specs.declared.rows.Rows.{Rows}
use Rattle.drf_rows.specs.declared.rows.TaskRow.{TaskRow}
use Rattle.drf_promises.specs.Waiting.{made_in}

abbrev pub rows_of : List Event → Rows
rows_of events = rows_after_all ceilings opening events

-- the frameworks to which the offers of a run are made, in order
abbrev pub offered_to : List Event → List Text
offered_to events = map (λ line. line.framework) (flat_map lines_reported (replies_to ceilings opening events))

abbrev pub fa : Text
fa = codes "fa"

abbrev pub fb : Text
fb = codes "fb"

abbrev pub fc : Text
fc = codes "fc"

abbrev pub a : Path
a = codes "a" ∷ []

abbrev pub b : Path
b = codes "b" ∷ []

-- two frameworks, each in its own role
abbrev both : List Event
both = framework_in fa (codes "a") ∷ framework_in fb (codes "b") ∷ []

abbrev agent : Text → List Resource → Event
agent name total = AddAgent name total

-- ---- what is promised

-- a limit leaves 3 of 4 `cpus`, which no client would be granted
abbrev pub cut : List Event
cut = agent (codes "n1") (cpus 4000 ∷ []) ∷ framework_in fa (codes "a") ∷ cpus_limit a 1000 ∷ Cycle 0 ∷ []

-- a task of `fa` keeps running when `fb` registers with weight 1000, and when the limit of `a` becomes less than it
-- uses
abbrev pub running : List Event
running =
    agent (codes "n1") (cpus 4000 ∷ [])
    ∷ framework_in fa (codes "a")
    ∷ Cycle 0
    ∷ accept fa 1 (codes "t") (cpus 3000 ∷ [])
    ∷ framework_in fb (codes "b")
    ∷ weighing (codes "b") 1000000
    ∷ cpus_limit a 1000
    ∷ Cycle 0
    ∷ []

abbrev pub its_task : TaskRow
its_task = record { name = codes "t"; agent = codes "n1"; framework = fa; role = a; bundle = cpus 3000 ∷ [] }

-- resources reserved for `a` are not offered to `fb`
abbrev pub reserved : List Event
reserved = agent (codes "n1") (cpus_for (codes "a") 4000 ∷ []) ∷ framework_in fb (codes "b") ∷ Cycle 0 ∷ framework_in fa (codes "a") ∷ Cycle 0 ∷ []

-- five equal agents
abbrev five : List Event
five =
    agent (codes "n1") (cpus 1000 ∷ [])
    ∷ agent (codes "n2") (cpus 1000 ∷ [])
    ∷ agent (codes "n3") (cpus 1000 ∷ [])
    ∷ agent (codes "n4") (cpus 1000 ∷ [])
    ∷ agent (codes "n5") (cpus 1000 ∷ [])
    ∷ []

abbrev pub shared : List Event
shared = five ++ (both ++ Cycle 0 ∷ [])

-- one agent, all of which each of two clients would be granted
abbrev pub alone : List Event
alone = agent (codes "n1") (cpus 1000 ∷ []) ∷ both

-- the frameworks to which the agent is offered in some cycles, if each declines it for 5000 ms
abbrev pub declined_by_each : List ℕ → List Text
declined_by_each timestamps = map (λ o. o.framework) (made_in 5000 (rows_of alone) timestamps)

-- two of three agents become active later: the client that got nothing comes before the one that got the first agent
abbrev pub waiting : List Event
waiting =
    agent (codes "n1") (cpus 4000 ∷ [])
    ∷ framework_in fa (codes "a")
    ∷ agent (codes "n2") (cpus 4000 ∷ [])
    ∷ agent (codes "n3") (cpus 4000 ∷ [])
    ∷ DeactivateAgent (codes "n2")
    ∷ DeactivateAgent (codes "n3")
    ∷ framework_in fb (codes "b")
    ∷ framework_in fc (codes "c")
    ∷ Cycle 0
    ∷ ActivateAgent (codes "n2")
    ∷ Cycle 0
    ∷ ActivateAgent (codes "n3")
    ∷ Cycle 0
    ∷ []

-- ---- not promised

-- When `fb` in `eng/b` is offered 7 of 8 `cpus`, `eng` has 1 and `ops` nothing: the order is that at the beginning of
-- the turn.
abbrev pub in_turn : List Event
in_turn =
    agent (codes "n1") (cpus 8000 ∷ [])
    ∷ AddFramework fa ((codes "eng" ∷ a) ∷ [])
    ∷ AddFramework fb ((codes "eng" ∷ b) ∷ [])
    ∷ framework_in fc (codes "ops")
    ∷ cpus_limit (codes "eng" ∷ a) 1000
    ∷ Cycle 0
    ∷ []

-- of two clients, one gets the only agent
abbrev pub one : List Event
one = alone ++ Cycle 0 ∷ []

-- six equal agents, shared with some other frameworks
abbrev pub six : List Event → List Event
six others = five ++ (agent (codes "n6") (cpus 1000 ∷ []) ∷ both ++ (others ++ Cycle 0 ∷ []))

-- `fa` needs 2 of 4 `cpus` now and 2 later; if it uses only what it needs now, `fb` gets the others
abbrev pub modest : List Event
modest = agent (codes "n1") (cpus 4000 ∷ []) ∷ both ++ (Cycle 0 ∷ accept fa 1 (codes "t") (cpus 2000 ∷ []) ∷ Cycle 0 ∷ [])

-- `fb` declines several times, first without a filter and then for 5000 ms
abbrev pub declined : List Event
declined =
    agent (codes "n1") (cpus 1000 ∷ [])
    ∷ framework_in fa (codes "a")
    ∷ Cycle 0
    ∷ agent (codes "n2") (cpus 3000 ∷ [])
    ∷ framework_in fb (codes "b")
    ∷ Cycle 0
    ∷ decline fb 2
    ∷ Cycle 0
    ∷ decline fb 3
    ∷ Cycle 0
    ∷ decline_for fb 4 0 5000
    ∷ Cycle 0
    ∷ []

-- four agents of different shapes, shared by two roles of which the first has this weight
abbrev pub weighed : ℕ → List Event
weighed weight =
    agent (codes "n1") (cpus 4000 ∷ mem 32000 ∷ [])
    ∷ agent (codes "n2") (cpus 2000 ∷ mem 32000 ∷ [])
    ∷ agent (codes "n3") (cpus 2000 ∷ mem 32000 ∷ [])
    ∷ agent (codes "n4") (cpus 4000 ∷ mem 128000 ∷ [])
    ∷ both ++ (weighing (codes "a") weight ∷ Cycle 0 ∷ [])

-- four agents, shared with some other frameworks
abbrev pub among : List Event → List Event
among others =
    agent (codes "n1") (cpus 4000 ∷ mem 32000 ∷ [])
    ∷ agent (codes "n2") (cpus 4000 ∷ mem 32000 ∷ [])
    ∷ agent (codes "n3") (cpus 4000 ∷ mem 64000 ∷ [])
    ∷ agent (codes "n4") (cpus 4000 ∷ mem 128000 ∷ [])
    ∷ both ++ (others ++ Cycle 0 ∷ [])

abbrev pub one_more : List Event
one_more = framework_in fc (codes "c") ∷ []

-- `fa` takes three of five agents and uses almost nothing there; `fb` keeps two
abbrev pub little_used : List Event
little_used =
    shared
    ++ accept fa 1 (codes "t1") (cpus 1 ∷ [])
    ∷ accept fb 2 (codes "t2") (cpus 1000 ∷ [])
    ∷ accept fa 3 (codes "t3") (cpus 1 ∷ [])
    ∷ accept fb 4 (codes "t4") (cpus 1000 ∷ [])
    ∷ accept fa 5 (codes "t5") (cpus 1 ∷ [])
    ∷ []

-- `fb` declines an agent for 5000 ms while its role comes first; it then goes to `fa`, or to another framework of that
-- role
abbrev pub declined_in_role : List Event → List Event
declined_in_role others =
    agent (codes "n1") (cpus 4000 ∷ [])
    ∷ framework_in fa (codes "a")
    ∷ Cycle 0
    ∷ agent (codes "n2") (cpus 4000 ∷ [])
    ∷ framework_in fb (codes "b")
    ∷ others ++ (Cycle 0 ∷ decline_for fb 2 0 5000 ∷ Cycle 0 ∷ [])

abbrev pub colleague : List Event
colleague = framework_in fc (codes "b") ∷ []

-- three agents of different shapes, and some others
abbrev pub grown : List Event → List Event
grown others =
    agent (codes "n1") (cpus 4000 ∷ mem 32000 ∷ [])
    ∷ agent (codes "n2") (cpus 2000 ∷ mem 32000 ∷ [])
    ∷ agent (codes "n3") (cpus 8000 ∷ mem 32000 ∷ [])
    ∷ others ++ (both ++ (Cycle 0 ∷ []))

abbrev pub small_agent : List Event
small_agent = agent (codes "n4") (cpus 1000 ∷ mem 32000 ∷ []) ∷ []

-- each of two agents is 3/4 of the total for the client that gets it, but one has room for three tasks with one of the
-- `cpus`, and the other for one
abbrev pub unlike : List Event
unlike = agent (codes "n1") (cpus 3000 ∷ mem 32000 ∷ []) ∷ agent (codes "n2") (cpus 1000 ∷ mem 96000 ∷ []) ∷ both ++ (Cycle 0 ∷ [])

-- two agents, which register in this order
abbrev pub arrived : Event → Event → List Event
arrived first second = first ∷ second ∷ both ++ (Cycle 0 ∷ [])

abbrev pub large : Event
large = agent (codes "n1") (cpus 4000 ∷ [])

abbrev pub small : Event
small = agent (codes "n2") (cpus 1000 ∷ [])

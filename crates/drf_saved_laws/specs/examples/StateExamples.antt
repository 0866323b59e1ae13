-- A state, the rows that it restores, and rows that may not occur in it.
use Rattle.std.specs.FinSet as set
use Rattle.std.specs.Prelude.{◌≡◌, ◌<◌, ℕ, ◌+◌, ◌^◌, true, false, List, [], ◌∷◌, codes, fold, take, Some, nat_lt, IsTrue}
use Rattle.std.proofs.Common.{refl}
use Rattle.std.proofs.lemmas.Bool.{lt-ltb}
use Rattle.drf_role.specs.Path.{Path}
use Rattle.drf_role.specs.Role.{default_role}
use Rattle.drf_role.specs.Text.{Text}
use Rattle.drf_bundle.specs.declared.resource.Resource.{Resource}
use Rattle.drf_rows.specs.Cycle.{free_of}
use Rattle.drf_rows.specs.LimitNumbers.{LimitNumbers, ceilings}
use Rattle.drf_worked.specs.Examples.{cpus, cpus_for, mem}
use Rattle.drf_worked.specs.PortExamples.{Numbers, ports}
use Rattle.drf_rows.specs.declared.limits.TheConstants.{LATEST_TIMESTAMP}
use Rattle.drf_rows.specs.declared.reply.Refusal.TheVariants.{HistoryFull, BadMoment, UnknownAgent, KnownAgent, UnknownFramework, KnownFramework, KnownTask, NotInRole, DefaultRole, Empty, NotCovered, BadWeight, TooLarge}
use Rattle.drf_rows.specs.declared.rows.AgentRow.{AgentRow}
use Rattle.drf_rows.specs.declared.rows.ClientRow.{ClientRow}
use Rattle.drf_rows.specs.declared.rows.FilterRow.{FilterRow}
use Rattle.drf_rows.specs.declared.rows.FrameworkRow.{FrameworkRow}
use Rattle.drf_rows.specs.declared.rows.LimitRow.{LimitRow}
use Rattle.drf_rows.specs.declared.rows.OfferRow.{OfferRow}
use Rattle.drf_rows.specs.declared.rows.Rows.{Rows}
use Rattle.drf_rows.specs.declared.rows.TaskRow.{TaskRow}
use Rattle.drf_rows.specs.declared.rows.WeightRow.{WeightRow}
use Rattle.drf_saved.specs.Saved.{begun, head_fault, restored, row_fault, with_row}
use Rattle.drf_saved.specs.declared.fault.RowFault.{RowFault}
use Rattle.drf_saved.specs.declared.fault.RowFault.TheVariants.{Refused, OutOfOrder, KnownRole, BadNumber}
use Rattle.drf_saved.specs.declared.saved.Head.{Head}
use Rattle.drf_saved.specs.declared.saved.SavedRow.{SavedRow}
use Rattle.drf_saved.specs.declared.saved.SavedRow.TheVariants.{Agent, Framework, Weight, Limit, Offer, Task, Filter}

abbrev eng : Path
eng = codes "eng" ∷ []

abbrev web : Path
web = codes "eng" ∷ codes "web" ∷ []

abbrev ops : Path
ops = codes "ops" ∷ []

-- ---- the state

-- the first agent, its offer, its task and its filter, each with additional resources such as ports
abbrev first_agent : List Resource → AgentRow
first_agent others = record { name = codes "n1"; total = cpus 4000 ∷ mem 1024000 ∷ others; active = true }

abbrev second_agent : AgentRow
second_agent = record { name = codes "n2"; total = cpus 2000 ∷ cpus_for (codes "eng") 1000 ∷ []; active = false }

abbrev client : Path → ℕ → ClientRow
client role count = record { role = role; count = count; suppressed = false }

abbrev first_framework : FrameworkRow
first_framework = record { name = codes "f1"; clients = record { role = web; count = 2; suppressed = true } ∷ [] }

abbrev second_framework : FrameworkRow
second_framework = record { name = codes "f2"; clients = client ops 2 ∷ [] }

abbrev weight : WeightRow
weight = record { role = eng; weight = 2000 }

abbrev limit : LimitRow
limit = record { role = ops; limit = record { label = codes "cpus"; amount = 2000 } ∷ [] }

abbrev offer : List Resource → OfferRow
offer others = record { number = 4; agent = codes "n1"; framework = codes "f2"; role = ops; bundle = cpus 2000 ∷ mem 1024000 ∷ others }

abbrev task : List Resource → TaskRow
task others = record { name = codes "t1"; agent = codes "n1"; framework = codes "f1"; role = web; bundle = cpus 1000 ∷ others }

abbrev filter : List Resource → FilterRow
filter others = record { framework = codes "f1"; role = web; agent = codes "n1"; bundle = cpus 3000 ∷ mem 1024000 ∷ others; until = 6000 }

abbrev pub state_head : Head
state_head = record { clock = 2000; next_offer = 5; events = 11 }

abbrev pub state_with : List Resource → List Resource → List Resource → List SavedRow
state_with all offered used =
    Agent (first_agent all)
    ∷ Agent second_agent
    ∷ Framework first_framework
    ∷ Framework second_framework
    ∷ Weight weight
    ∷ Limit limit
    ∷ Offer (offer offered)
    ∷ Task (task used)
    ∷ Filter (filter offered)
    ∷ []

abbrev pub rows_with : List Resource → List Resource → List Resource → Rows
rows_with all offered used = record {
  agents = first_agent all ∷ second_agent ∷ [];
  frameworks = first_framework ∷ second_framework ∷ [];
  offers = offer offered ∷ [];
  tasks = task used ∷ [];
  weights = weight ∷ [];
  limits = limit ∷ [];
  filters = filter offered ∷ [];
  clock = 2000;
  next_offer = 5;
  events = 11;
}

-- ---- without ports, and with any ports

abbrev pub state : List SavedRow
state = state_with [] [] []

abbrev pub state_rows : Rows
state_rows = rows_with [] [] []

-- some of the ports of the first agent are offered, and some of the others are used
abbrev pub PortsAreRestored : Type 0
PortsAreRestored =
    (all offered used : Numbers)
    → IsTrue (set.is_subset offered all)
    → IsTrue (set.is_subset used (set.difference all offered))
    → 0 < set.len (set.difference all offered)
    → restored ceilings state_head (state_with (ports all ∷ []) (ports offered ∷ []) (ports used ∷ []))
    ≡ Some (rows_with (ports all ∷ []) (ports offered ∷ []) (ports used ∷ []))

pub ports_are_restored : PortsAreRestored
unfolding free_of head_fault row_fault
ports_are_restored all offered used first second left =
    let some : nat_lt 0 (set.len (set.difference all offered)) ≡ true = lt-ltb 0 (set.len (set.difference all offered)) left in
    simp (first, some, second) refl

-- ---- rows that may not occur in it

-- the rows that the first rows of the list restore
abbrev pub first_rows : ℕ → Rows
first_rows number = fold with_row (begun state_head) (take number state)

abbrev framework_of : List ClientRow → FrameworkRow
framework_of clients = record { name = codes "f3"; clients = clients }

abbrev offer_on : ℕ → Text → Text → Path → List Resource → SavedRow
offer_on number agent framework role bundle =
    Offer (record { number = number; agent = agent; framework = framework; role = role; bundle = bundle })

-- the number of rows before it, a row, and its error there
abbrev pub faulty_rows : List (ℕ × SavedRow × RowFault)
faulty_rows =
    (3, Agent (record (first_agent []) { name = codes "n3" }), OutOfOrder)
    ∷ (2, Agent (first_agent []), Refused KnownAgent)
    ∷ (2, Agent (record { name = codes "n3"; total = cpus (2 ^ 40) ∷ []; active = true }), Refused TooLarge)
    ∷ (5, Framework (framework_of []), OutOfOrder)
    ∷ (4, Framework first_framework, Refused KnownFramework)
    ∷ (4, Framework (framework_of (client ops 0 ∷ client ops 0 ∷ [])), KnownRole)
    ∷ (4, Framework (framework_of (client ops 1 ∷ [])), BadNumber)
    ∷ (6, Weight (record weight { role = ops }), OutOfOrder)
    ∷ (5, Weight weight, KnownRole)
    ∷ (5, Weight (record { role = ops; weight = 0 }), Refused BadWeight)
    ∷ (7, Limit (record limit { role = eng }), OutOfOrder)
    ∷ (6, Limit (record limit { role = default_role }), Refused DefaultRole)
    ∷ (6, Limit (record { role = eng; limit = [] }), Refused Empty)
    ∷ (6, Limit limit, KnownRole)
    ∷ (8, Offer (offer []), OutOfOrder)
    ∷ (6, offer_on 4 (codes "n3") (codes "f2") ops [], Refused UnknownAgent)
    ∷ (6, offer_on 4 (codes "n1") (codes "f3") ops [], Refused UnknownFramework)
    ∷ (6, offer_on 4 (codes "n1") (codes "f2") web [], Refused NotInRole)
    -- more than the `cpus` that are free there, and resources that are reserved for another role
    ∷ (7, offer_on 4 (codes "n1") (codes "f2") ops (cpus 2001 ∷ []), Refused NotCovered)
    ∷ (7, offer_on 4 (codes "n2") (codes "f2") ops (cpus_for (codes "eng") 1000 ∷ []), Refused NotCovered)
    -- the number of an offer that exists, and the next number
    ∷ (7, offer_on 4 (codes "n1") (codes "f2") ops (cpus 2000 ∷ []), BadNumber)
    ∷ (7, offer_on 5 (codes "n1") (codes "f2") ops (cpus 2000 ∷ []), BadNumber)
    ∷ (9, Task (record (task []) { name = codes "t2" }), OutOfOrder)
    ∷ (8, Task (task []), Refused KnownTask)
    ∷ (8, Task (record (task []) { name = codes "t2"; bundle = mem 1 ∷ [] }), Refused NotCovered)
    ∷ (9, Filter (record (filter []) { framework = codes "f2" }), Refused NotInRole)
    -- it has expired at the time of the clock, or ends too late
    ∷ (9, Filter (record (filter []) { until = 2000 }), BadNumber)
    ∷ (9, Filter (record (filter []) { until = 2 ^ 63 }), BadNumber)
    ∷ []

-- rows that exceed a capacity after this number of rows
abbrev pub one_too_many : List (LimitNumbers × ℕ × SavedRow)
one_too_many =
    (record ceilings { agents = 1 }, 1, Agent second_agent)
    ∷ (record ceilings { scalar_names = 1 }, 0, Agent (first_agent []))
    ∷ (record ceilings { frameworks = 1 }, 3, Framework second_framework)
    ∷ (record ceilings { clients = 1 }, 3, Framework second_framework)
    ∷ (record ceilings { roles = 1 }, 4, Framework (framework_of (client ops 0 ∷ client eng 0 ∷ [])))
    ∷ (record ceilings { weights = 1 }, 5, Weight (record weight { role = ops }))
    ∷ (record ceilings { limits = 1 }, 6, Limit (record limit { role = eng }))
    ∷ (record ceilings { filters = 1 }, 9, Filter (filter []))
    ∷ []

-- rows that may follow this number of rows: what is reserved for a role can be used by it and the roles below it
abbrev pub other_rows : List (ℕ × SavedRow)
other_rows =
    (4, Framework (framework_of (client ops 0 ∷ client eng 0 ∷ [])))
    ∷ (6, offer_on 1 (codes "n2") (codes "f1") web (cpus_for (codes "eng") 1000 ∷ []))
    ∷ (8, Task (record (task []) { name = codes "t2" }))
    ∷ (8, Task (record (task []) { agent = codes "n2"; name = codes "t2"; bundle = cpus_for (codes "eng") 1000 ∷ [] }))
    ∷ (9, Filter (record (filter []) { until = 2001 }))
    ∷ []

-- numbers that may not be the head, and their errors
abbrev pub faulty_heads : List (Head × RowFault)
faulty_heads =
    (record state_head { events = 4294967296 }, Refused HistoryFull)
    ∷ (record state_head { clock = LATEST_TIMESTAMP + 1 }, Refused BadMoment)
    ∷ (record state_head { next_offer = 0 }, BadNumber)
    ∷ (record { clock = 0; next_offer = 2; events = 0 }, BadNumber)
    ∷ []

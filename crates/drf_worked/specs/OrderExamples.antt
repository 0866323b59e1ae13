-- States, with the frameworks in the order in which they are served.
use Rattle.std.specs.Prelude.{ℕ, true, false, List, [], ◌∷◌, map, codes}
use Rattle.drf_role.specs.Path.{Path}
use Rattle.drf_role.specs.Text.{Text}
use Rattle.drf_bundle.specs.declared.resource.Resource.{Resource}
use Rattle.drf_rows.specs.Cycle.{turn_order, cycle}
use Rattle.drf_worked.specs.Examples.{cpus, mem}
use Rattle.drf_rows.specs.declared.rows.AgentRow.{AgentRow}
use Rattle.drf_rows.specs.declared.rows.FrameworkRow.{FrameworkRow}
use Rattle.drf_rows.specs.declared.rows.OfferRow.{OfferRow}
use Rattle.drf_rows.specs.declared.rows.WeightRow.{WeightRow}
use Rattle.drf_rows.specs.declared.rows.Rows.{Rows}

abbrev pub agent_with : List Resource → AgentRow
agent_with total = record { name = codes "n1"; total = total; active = true }

-- a framework in one role that has received so many offers
abbrev pub framework_row : Text → Path → ℕ → FrameworkRow
framework_row name role count =
    record { name = name; clients = record { role = role; count = count; suppressed = false } ∷ [] }

-- an offer that the framework holds
abbrev pub holding : Text → Path → List Resource → OfferRow
holding name role bundle =
    record { number = 1; agent = codes "n1"; framework = name; role = role; bundle = bundle }

abbrev pub rows_with : List AgentRow → List FrameworkRow → List OfferRow → List WeightRow → Rows
rows_with agents frameworks offers weights = record {
  agents = agents;
  frameworks = frameworks;
  offers = offers;
  tasks = [];
  weights = weights;
  limits = [];
  filters = [];
  clock = 0;
  next_offer = 1;
  events = 0;
}

-- the frameworks in the order in which they are served
abbrev pub served : Rows → List Text
served rows = map (λ c. c.framework) (turn_order rows)

abbrev pub role_a : Path
role_a = codes "a" ∷ []

abbrev pub role_b : Path
role_b = codes "b" ∷ []

-- 333/1000 is less than 1/3
abbrev pub close_shares : Rows
close_shares = rows_with
    (agent_with (cpus 3000 ∷ mem 1000000 ∷ []) ∷ [])
    (framework_row (codes "fa") role_a 1 ∷ framework_row (codes "fb") role_b 1 ∷ [])
    (holding (codes "fa") role_a (cpus 1000 ∷ []) ∷ holding (codes "fb") role_b (mem 333000 ∷ []) ∷ [])
    []

-- 12288/18432 is 6/9, and the second framework has received fewer offers
abbrev pub equal_shares : Rows
equal_shares = rows_with
    (agent_with (cpus 9000 ∷ mem 18432000 ∷ []) ∷ [])
    (framework_row (codes "fa") role_a 3 ∷ framework_row (codes "fb") role_b 2 ∷ [])
    (holding (codes "fa") role_a (cpus 3000 ∷ mem 12288000 ∷ []) ∷ holding (codes "fb") role_b (cpus 6000 ∷ mem 2048000 ∷ []) ∷ [])
    []

-- 3/9 divided by the weight 3 is 1/9, the counts are equal, and the names decide
abbrev pub weighted_shares : Rows
weighted_shares = rows_with
    (agent_with (cpus 9000 ∷ []) ∷ [])
    (framework_row (codes "fb") role_b 1 ∷ framework_row (codes "fa") role_a 1 ∷ [])
    (holding (codes "fa") role_a (cpus 1000 ∷ []) ∷ holding (codes "fb") role_b (cpus 3000 ∷ []) ∷ [])
    (record { role = role_b; weight = 3000 } ∷ [])

-- 3/9 against 8192/18432; with a second agent 3/10 against 8192/55296
abbrev pub shares_of : List AgentRow → Rows
shares_of agents = rows_with agents
    (framework_row (codes "fa") role_a 1 ∷ framework_row (codes "fb") role_b 1 ∷ [])
    (holding (codes "fa") role_a (cpus 3000 ∷ []) ∷ holding (codes "fb") role_b (mem 8192000 ∷ []) ∷ [])
    []

abbrev pub first_agent : AgentRow
first_agent = agent_with (cpus 9000 ∷ mem 18432000 ∷ [])

abbrev pub second_agent : AgentRow
second_agent = record { name = codes "n2"; total = cpus 1000 ∷ mem 36864000 ∷ []; active = true }

-- its resources count in the total, although it has no turn
abbrev pub idle_agent : AgentRow
idle_agent = record second_agent { active = false }

abbrev pub eng : Path
eng = codes "eng" ∷ []

abbrev pub eng_web : Path
eng_web = codes "eng" ∷ codes "web" ∷ []

abbrev pub ops : Path
ops = codes "ops" ∷ []

-- three roles, one of them below another
abbrev pub role_tree : ℕ → List OfferRow → List WeightRow → Rows
role_tree count_of_f3 more_for_f3 weights = rows_with
    (agent_with (cpus 8000 ∷ []) ∷ [])
    (framework_row (codes "f1") eng 1 ∷ framework_row (codes "f2") eng_web 1 ∷ framework_row (codes "f3") ops count_of_f3 ∷ [])
    (holding (codes "f1") eng (cpus 1000 ∷ [])
    ∷ holding (codes "f3") ops (cpus 2000 ∷ [])
    ∷ holding (codes "f2") eng_web (cpus 2000 ∷ [])
    ∷ more_for_f3)
    weights

abbrev pub more_for_ops : List OfferRow
more_for_ops = holding (codes "f3") ops (cpus 2000 ∷ []) ∷ []

abbrev pub half_weight_of_eng : List WeightRow
half_weight_of_eng = record { role = eng; weight = 500 } ∷ []

-- a role below can come before the clients of the role itself
abbrev pub nothing_held : Rows
nothing_held = rows_with
    (agent_with (cpus 8000 ∷ []) ∷ [])
    (framework_row (codes "f1") eng 0 ∷ framework_row (codes "f2") (codes "eng" ∷ codes "!x" ∷ []) 0 ∷ [])
    []
    []

-- one of two agents is active, and one of two clients is not suppressed
abbrev pub half_at_work : Rows
half_at_work = rows_with
    (record { name = codes "n1"; total = cpus 4000 ∷ []; active = false } ∷ record { name = codes "n2"; total = cpus 4000 ∷ []; active = true } ∷ [])
    (record { name = codes "fa"; clients = record { role = role_a; count = 0; suppressed = true } ∷ [] } ∷ framework_row (codes "fb") role_b 0 ∷ [])
    []
    []

-- the agents and frameworks of the offers of a cycle
abbrev pub offered : Rows → List (Text × Text)
offered rows = map (λ o. (o.agent, o.framework)) (cycle rows 0).offers

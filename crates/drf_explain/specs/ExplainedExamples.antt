-- A cluster in which each reason for which a client gets nothing occurs once, and its explanation.
use Rattle.std.specs.Prelude.{List, [], ◌∷◌, ◌++◌, codes}
use Rattle.drf_role.specs.Path.{Path}
use Rattle.drf_rows.specs.Client.{path_of}
use Rattle.drf_worked.specs.Examples.{cpus, cpus_for, mem, framework_in}
use Rattle.drf_worked.specs.LifeExamples.{decline_for}
use Rattle.drf_rows.specs.LimitNumbers.{ceilings}
use Rattle.drf_rows.specs.Step.{opening, rows_after_all}
use Rattle.drf_rows.specs.declared.event.Event.{Event}
use Rattle.drf_rows.specs.declared.event.Event.TheVariants.{AddAgent, DeactivateAgent, AddFramework, Suppress, SetLimit, Cycle}
use Rattle.drf_rows.specs.declared.rows.Rows.{Rows}
use Rattle.drf_explain.specs.declared.finding.Finding.{Finding}
use Rattle.drf_explain.specs.declared.finding.Finding.TheVariants.{Suppressed, Inactive, NothingFree, Tried, Left}
use Rattle.drf_explain.specs.declared.finding.Outcome.{Outcome}
use Rattle.drf_explain.specs.declared.finding.Outcome.TheVariants.{Grant, OverLimit, BelowThreshold, ReservedForOthers}

abbrev ops_db : Path
ops_db = codes "ops" ∷ codes "db" ∷ []

-- `f1` holds all of `n2`, and has declined all of `n1` until 5000; a limit leaves nothing to `f2`, and `f3` is suppressed
abbrev pub why_nothing : List Event
why_nothing =
    AddAgent (codes "n1") (cpus 4000 ∷ mem 1024000 ∷ [])
    ∷ AddAgent (codes "n2") (cpus 1000 ∷ [])
    ∷ framework_in (codes "f1") (codes "eng")
    ∷ Cycle 0
    ∷ decline_for (codes "f1") 1 0 5000
    ∷ AddAgent (codes "n3") (cpus 2000 ∷ [])
    ∷ DeactivateAgent (codes "n3")
    ∷ AddAgent (codes "n4") (cpus 5 ∷ cpus_for (codes "eng") 2000 ∷ [])
    ∷ AddAgent (codes "n5") (cpus_for (codes "eng") 2000 ∷ [])
    ∷ AddAgent (codes "n6") (cpus 5 ∷ [])
    ∷ AddFramework (codes "f2") (ops_db ∷ [])
    ∷ framework_in (codes "f3") (codes "web")
    ∷ Suppress (codes "f3") (codes "web" ∷ [])
    ∷ SetLimit (codes "ops" ∷ []) (record { label = codes "cpus"; amount = 0 } ∷ record { label = codes "mem"; amount = 0 } ∷ [])
    ∷ []

abbrev pub nothing_rows : Rows
nothing_rows = rows_after_all ceilings opening why_nothing

abbrev f1 : Path
f1 = path_of (record { role = codes "eng" ∷ []; framework = codes "f1" })

abbrev f2 : Path
f2 = path_of (record { role = ops_db; framework = codes "f2" })

-- the findings about all agents except `n6`, given the outcome of `f1` on `n1`
abbrev reported_before : Outcome → List Finding
reported_before on_n1 =
    Suppressed (path_of (record { role = codes "web" ∷ []; framework = codes "f3" }))
    ∷ Tried (codes "n1") f2 (OverLimit (codes "ops" ∷ []))
    ∷ Tried (codes "n1") f1 on_n1
    ∷ NothingFree (codes "n2")
    ∷ Inactive (codes "n3")
    ∷ Tried (codes "n4") f2 BelowThreshold
    ∷ Tried (codes "n4") f1 (Grant (cpus 5 ∷ cpus_for (codes "eng") 2000 ∷ []))
    ∷ Tried (codes "n5") f2 ReservedForOthers
    ∷ Tried (codes "n5") f1 (Grant (cpus_for (codes "eng") 2000 ∷ []))
    ∷ []

-- the explanation
abbrev pub nothing_reported : Outcome → List Finding
nothing_reported on_n1 = reported_before on_n1 ++ Left (codes "n6") (cpus 5 ∷ []) 2 ∷ []

-- the complete explanation
abbrev pub nobody_left_out : Outcome → List Finding
nobody_left_out on_n1 =
    reported_before on_n1 ++ Tried (codes "n6") f2 BelowThreshold ∷ Tried (codes "n6") f1 BelowThreshold ∷ []

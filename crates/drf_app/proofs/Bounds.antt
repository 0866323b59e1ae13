-- A task that arguments ask for has no timestamp that is too late, and a drive has no more than 64 files.
use Rattle.std.specs.Prelude.{◌≡◌, ◌≤◌, List, length, map, take}
use Rattle.std.specs.Borrow.{Bor}
use Rattle.std.proofs.Common.{ap, arith}
use Rattle.std.proofs.lemmas.List.{length-map, length-take}
use Rattle.clap.specs.Words.{Row, Text}
use Rattle.drf_app.specs.Line.{IsWithinBounds, SaysTask}
use Rattle.drf_app.specs.declared.request.Task.{Task}
use Rattle.drf_app.specs.declared.request.Task.TheVariants.{Run, Check, Audit, Explain, Save, Show, Lint}

pub bounds_said : (rows : List Row) (task : Task) → SaysTask rows task → IsWithinBounds task
bounds_said rows (Run echo ask) says = tt
bounds_said rows Check says = tt
bounds_said rows Audit says = tt
bounds_said rows (Explain at scope) says = says.0.early
bounds_said rows (Save epoch) says = tt
bounds_said rows (Show json) says = tt
bounds_said rows (Lint write) says = tt

pub few_named : (names : List (Bor Text)) (all : List Text) → map (λ name. name.now) names ≡ take 64 all → length names ≤ 64
few_named names all same =
    let count = length-map names (λ name. name.now) in
    let most = length-take 64 all in
    let equal = ap length same in
    omega (arith, equal, count, most)

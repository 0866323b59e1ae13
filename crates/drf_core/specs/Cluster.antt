-- A cluster as contracts see it.
use Rattle.std.specs.Prelude.{ℕ, Bool, refl}
use Rattle.std.specs.Coded.{Coded, code_by, coded×, coded_ℕ, coded_bool}
use Rattle.drf_rows.specs.contracts.rows.Rows as rows
use Rattle.drf_rows.specs.declared.rows.Rows.{Rows}
use Rattle.drf_sorter.specs.Work.{Work}

-- the rows, whether consumption is known, and the work of the sorter
pub record ClusterState : Type 0 where
  pub rows : Rows
  pub counted : Bool
  pub work : Work

-- a coding of clusters, by which proofs tell them apart
abbrev pub cluster_code : Coded ClusterState
cluster_code = code_by (Rows × (Bool × (ℕ × ℕ))) (coded× rows.the_row.coded (coded× coded_bool (coded× coded_ℕ coded_ℕ)))
    (λ c. (c.rows, (c.counted, (c.work.made, c.work.marked))))
    (λ p. record { rows = p.0; counted = p.1.0; work = record { made = p.1.1.0; marked = p.1.1.1 } }) (λ _. refl)

-- Tables as callers see them: the rows, the reserved room, and whether free resources and consumption are known.
use Rattle.std.specs.Prelude.{ℕ, Bool, refl}
use Rattle.std.specs.Coded.{Coded, code_by, coded×, coded_ℕ, coded_bool}
use Rattle.drf_rows.specs.contracts.rows.Rows as rows
use Rattle.drf_rows.specs.declared.rows.Rows.{Rows}

pub record Stored : Type 0 where
  pub rows : Rows
  -- how many frameworks can be added without memory
  pub room : ℕ
  -- how many roles can get a weight without memory
  pub weight_room : ℕ
  -- whether the free resources of every agent are known
  pub settled : Bool
  -- whether it is known what roles consume
  pub counted : Bool

-- a coding of tables, by which proofs tell them apart
abbrev pub stored_code : Coded Stored
stored_code = code_by (Rows × (ℕ × (ℕ × (Bool × Bool)))) (coded× rows.the_row.coded (coded× coded_ℕ (coded× coded_ℕ (coded× coded_bool coded_bool))))
    (λ s. (s.rows, (s.room, (s.weight_room, (s.settled, s.counted)))))
    (λ p. record { rows = p.0; room = p.1.0; weight_room = p.1.1.0; settled = p.1.1.1.0; counted = p.1.1.1.1 }) (λ _. refl)

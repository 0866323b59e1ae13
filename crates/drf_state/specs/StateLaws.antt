-- The statements that are proved about texts of states.
use Rattle.std.specs.Prelude.{◌≡◌, ℕ, ◌<◌, ◌^◌, List, Ok}
use Rattle.drf_rows.specs.LimitNumbers.{LimitNumbers, IsWithinCeilings}
use Rattle.drf_rows.specs.Step.{live_rows}
use Rattle.drf_rows.specs.declared.rows.Rows.{Rows}
use Rattle.drf_saved_laws.specs.SavedLaws.{IsSaveable}
use Rattle.drf_state.specs.Read.{IsReadBack}
use Rattle.drf_state.specs.State.{lines_before, state_in, state_text}
use Rattle.drf_state.specs.Valid.{AreValid}

-- a text that means rows is the text of these rows, so no two texts mean the same
abbrev pub WhatIsSaidIsTheText : Type 0
WhatIsSaidIsTheText =
    (limits : LimitNumbers) (text : List ℕ) (rows : Rows)
    → state_in limits text ≡ Ok rows
    → text ≡ state_text rows

-- the text of rows that can be saved means their current state
abbrev pub WhatIsWrittenIsSaid : Type 0
WhatIsWrittenIsSaid =
    (limits : LimitNumbers) (rows : Rows)
    → IsSaveable limits rows
    → IsReadBack rows
    → state_in limits (state_text rows) ≡ Ok (live_rows rows)

-- rows that a text can mean: they can be saved, each is valid, and no filter has expired
pub record AreSayable (limits : LimitNumbers) (rows : Rows) : Type 0 where
  pub saveable : IsSaveable limits rows
  pub valid : AreValid rows
  pub live : live_rows rows ≡ rows

-- the rows that a text means can be saved and are valid
abbrev pub WhatIsSaidCanBeSaved : Type 0
WhatIsSaidCanBeSaved =
    (limits : LimitNumbers) (text : List ℕ) (rows : Rows)
    → state_in limits text ≡ Ok rows
    → AreSayable limits rows

-- valid rows that can be saved have a text that means their current state, if the capacities are allowed and there are
-- fewer than 2^64 lines
abbrev pub WhatCanBeSavedIsSaid : Type 0
WhatCanBeSavedIsSaid =
    (limits : LimitNumbers) (rows : Rows)
    → IsWithinCeilings limits
    → IsSaveable limits rows
    → AreValid rows
    → lines_before rows < 2 ^ 64
    → state_in limits (state_text rows) ≡ Ok (live_rows rows)

-- What the tables and the sorter hold after a weight is set.
use Rattle.std.proofs.Common.{◌≡◌, ℕ, sym, ap}
use Rattle.drf_role.specs.Path.{Path}
use Rattle.drf_rows.specs.Step.{effect}
use Rattle.drf_rows.specs.Weights.{weights_with}
use Rattle.drf_rows.specs.declared.event.Event.TheVariants.{SetWeight}
use Rattle.drf_rows.specs.declared.rows.Rows.{Rows}
use Rattle.drf_sorter.specs.Content.{Content, IsSame, with_weight}
use Rattle.drf_sorter.proofs.theorems.SameLaws.{IsSame-between, IsSame-with_weight}
use Rattle.drf_content.specs.Content.{content_of}

pub effect-weight : (rows tables : Rows) (role : Path) (weight : ℕ)
    → tables ≡ record rows { weights = weights_with rows.weights role weight } → tables ≡ effect rows (SetWeight role weight)
unfolding effect
effect-weight rows tables role weight same = same

pub sorted-weight : (rows tables : Rows) (role : Path) (weight : ℕ) (before after : Content)
    → IsSame before (content_of rows)
    → tables ≡ record rows { weights = weights_with rows.weights role weight }
    → after ≡ with_weight before role weight
    → IsSame after (content_of tables)
unfolding content_of
sorted-weight rows tables role weight before after sorted same set =
    IsSame-between after (with_weight before role weight) (with_weight (content_of rows) role weight) (content_of tables)
    set (IsSame-with_weight before (content_of rows) sorted role weight) (sym (ap content_of same))

-- Offers of a running cycle, and the free resources that they leave.
use Rattle.std.specs.Prelude.{List, fold, map, slice_set}
use Rattle.drf_bundle.specs.declared.resource.Resource.{Resource}
use Rattle.drf_rows.specs.Cycle.{free_of, with_offer}
use Rattle.drf_rows.specs.declared.rows.OfferRow.{OfferRow}
use Rattle.drf_rows.specs.declared.rows.Rows.{Rows}
use Rattle.drf_tables.specs.declared.tables.Left.{Left}

-- the rows after offers are added one after another
abbrev pub with_offers : Rows → List OfferRow → Rows
with_offers rows offers = fold with_offer rows offers

-- the free resources of each agent
abbrev pub frees_of : Rows → List (List Resource)
frees_of rows = map (free_of rows) rows.agents

-- the free resources after some are replaced by those that remain after turns
abbrev pub frees_after : List (List Resource) → List Left → List (List Resource)
frees_after frees lefts = fold (λ frees left. slice_set frees left.agent left.free) frees lefts

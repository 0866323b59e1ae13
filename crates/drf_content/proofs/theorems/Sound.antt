-- The content of consistent rows is sound: clients hold no more than the total, and no number overflows.
use Rattle.std.specs.Prelude.{◌^◌, ◌<◌, ◌≤◌, length}
use Rattle.std.proofs.Common.{arith}
use Rattle.drf_rows.specs.Consistent.{IsConsistent}
use Rattle.drf_row_laws.proofs.ReportedShares.{small_total}
use Rattle.drf_row_laws.proofs.TotalLaws.{held-le-total}
use Rattle.drf_rows.specs.declared.rows.Rows.{Rows}
use Rattle.drf_sorter.specs.Content.{IsSound}
use Rattle.drf_content.specs.Content.{content_of}
use Rattle.drf_content.proofs.theorems.Held.{counts-content_of, all_held}

pub IsSound-content_of : (rows : Rows) → IsConsistent rows → length rows.agents ≤ 4096 → rows.next_offer < 2 ^ 64
    → IsSound (content_of rows)
unfolding content_of
IsSound-content_of rows consistent few_agents few_offers = record {
  held = λ label. omega (arith, all_held rows label consistent, held-le-total rows label consistent);
  total = λ label. small_total rows.agents label consistent.agents.each few_agents;
  count = omega (arith, counts-content_of rows, consistent.counted, few_offers);
}

use Rattle.std.proofs.Common.{◌≡◌, true, vec_len}
use Rattle.std.specs.List.{AllByRecursion}
use Rattle.drf_rows.specs.Holdings.{holding_of_offer}
use Rattle.drf_rows.specs.Held.{is_registered}
use Rattle.drf_tables.specs.cycle.Drafts.{with_offers}
use Rattle.drf_sorter.specs.Content.{IsSame}
use Rattle.drf_content.specs.Content.{content_of}
use Rattle.drf_core.proofs.cycle.take_back.Given as goal

-- the sorter holds the drafts that are left, and their clients are registered
abbrev pub invariant-loop-offer : goal.invariant-loop-offer
invariant-loop-offer g l = record {
  sorted : IsSame (g.S.Sorter.content l.sorter) (content_of (with_offers l.tables.rows l.offers.items));
  clients : AllByRecursion (λ o. is_registered l.tables.rows.frameworks (holding_of_offer o).client ≡ true) l.offers.items;
  made : (g.S.Sorter.work l.sorter).made ≡ (g.S.Sorter.work l.initial.sorter).made;
}

abbrev pub decreases-loop-offer : goal.decreases-loop-offer
decreases-loop-offer g l = vec_len l.offers

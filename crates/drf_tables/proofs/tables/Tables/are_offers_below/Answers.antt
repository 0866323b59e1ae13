use Rattle.std.proofs.Common.{List, ap, ◌∙◌, nat_lt}
use Rattle.std.specs.List.{list_all}
use Rattle.std.specs.Map.Iter.{deref}
use Rattle.drf_tables.proofs.tables.Names.{is_empty, OfferRow, Stored}
use Rattle.drf_tables.specs.Inside.{rows_of}
use Rattle.drf_tables.proofs.tables.Standing.{none_first, none_from}
use Rattle.drf_tables.proofs.tables.Tables.are_offers_below.Goals as goal

pub returns : goal.returns
unfolding rows_of
returns c =
    let number = c.args.number in
    none_first deref c.offers_from.result c.next.new.self c.next.result c.is_none.result c.next.ensures.steps c.is_none.ensures
    ∙ ap (λ (os : List OfferRow). is_empty os) c.offers_from.ensures
    ∙ none_from number c.self.inside.holdings.offers
    ∙ ap (λ (s : Stored). list_all (λ o. nat_lt o.number number) s.rows.offers) c.self.view_is

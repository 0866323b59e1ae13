use Rattle.std.proofs.Common.{◌≡◌, flat_map}
use Rattle.std.specs.VecDeque.Iter.{deque_iter_rest}
use Rattle.drf_bundle.specs.Taken.{rest_of_all}
use Rattle.drf_holdings.specs.Listed.{offer_number, bundles_at}
use Rattle.drf_holdings.proofs.offers.OfferTable.less.Given as goal

abbrev pub invariant-loop-number : goal.invariant-loop-number
invariant-loop-number l =
    rest_of_all l.left (flat_map (bundles_at offer_number (λ o. o.bundle) l.self) (deque_iter_rest l.number-iterator))
    ≡ rest_of_all l.fn.whole (flat_map (bundles_at offer_number (λ o. o.bundle) l.self) l.numbers.items)

use Rattle.std.proofs.Common.{◌≡◌, length}
use Rattle.drf_tables.proofs.tables.Names.{counting_all, CanCountAll, framework_rows}
use Rattle.drf_tables.proofs.cycle.count_offers.Given as goal

abbrev pub invariant-loop-offer : goal.invariant-loop-offer
invariant-loop-offer l = record {
  fits : CanCountAll (length l.offer-iterator) (framework_rows l.frameworks.entries);
  counted : counting_all (framework_rows l.frameworks.entries) l.offer-iterator
      ≡ counting_all (framework_rows l.fn.frameworks.entries) l.fn.offers;
}

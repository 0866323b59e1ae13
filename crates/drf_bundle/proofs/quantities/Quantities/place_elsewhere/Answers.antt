use Rattle.drf_bundle.proofs.PlaceLemmas.{found_first, named_nowhere, unnamed_from_search}
use Rattle.drf_bundle.proofs.quantities.Quantities.place_elsewhere.Goals as goal

pub returns-then-len-gt-FEW-clause-none : goal.returns-then-len-gt-FEW-clause-none
returns-then-len-gt-FEW-clause-none c = rw c.ok.ensures.value (unnamed_from_search _ _ _ c.place_of_label.ensures.absent)

pub returns-clause-found : goal.returns-clause-found
returns-clause-found c = found_first _ _ _ c.first_place.ensures

pub returns-clause-none : goal.returns-clause-none
returns-clause-none c = named_nowhere c.args.self.now c.args.label.now _ c.first_place.ensures

use Rattle.std.proofs.Common.{◌∙◌}
use Rattle.drf_bundle.proofs.PlaceLemmas.{named_from_search}
use Rattle.drf_bundle.proofs.quantities.Quantities.is_named.Goals as goal

pub returns : goal.returns
returns c = c.is_ok.ensures.value ∙ named_from_search _ _ _ c.place_of_text.ensures.found c.place_of_text.ensures.absent

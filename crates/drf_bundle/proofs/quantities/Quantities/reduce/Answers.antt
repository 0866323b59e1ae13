use Rattle.std.proofs.Common.{◌∙◌, le-leb}
use Rattle.drf_bundle.proofs.quantities.Quantities.reduce.Goals as goal

pub returns : goal.returns
returns c = c.take_from.ensures.ok (c.take_from.ensures.result ∙ le-leb _ _ c.requires)

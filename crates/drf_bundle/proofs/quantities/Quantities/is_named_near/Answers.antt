use Rattle.std.proofs.Common.{sym}
use Rattle.drf_bundle.proofs.PlaceLemmas.{named_at}
use Rattle.drf_bundle.proofs.quantities.Quantities.is_named_near.Goals as goal

pub returns-in-Some : goal.returns-in-Some
returns-in-Some c = sym (named_at c.args.self.now c.args.label.now c.in-Some.at c.in-Some.ensures.found)

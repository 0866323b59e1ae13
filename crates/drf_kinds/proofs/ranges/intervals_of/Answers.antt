use Rattle.std.proofs.Common.{◌≡◌, rules}
use Rattle.std.proofs.lemmas.Iterator.{YieldsList-from_slice, YieldsList-from_map}
use Rattle.std.proofs.lemmas.Iterator.Adapters.{fact_from_collect}
use Rattle.drf_kinds.specs.Intervals.{interval_of}
use Rattle.drf_kinds.proofs.ranges.intervals_of.Goals as goal

pub returns : goal.returns
returns c =
    fact_from_collect (λ is v. v.items ≡ is) c.collect.result c.collect.ensures.ran
    (YieldsList-from_map _ interval_of (YieldsList-from_slice c.args.pairs.now cc) c.map.ensures.closure (λ x r q k. search rules))

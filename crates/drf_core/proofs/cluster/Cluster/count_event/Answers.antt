use Rattle.std.proofs.Common.{sym, ap, subst}
use Rattle.drf_sorter.specs.Content.{IsSame}
use Rattle.drf_content.specs.Content.{content_of}
use Rattle.drf_core.proofs.cluster.Cluster.count_event.Goals as goal

pub invariant_of-self : goal.invariant_of-self
unfolding content_of
invariant_of-self g c = subst (IsSame _) (sym (ap content_of c.count_event.ensures.counted)) c.self.invariant

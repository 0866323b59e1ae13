use Rattle.std.proofs.Common.{sym, ap, ◌∙◌}
use Rattle.drf_sorter.proofs.theorems.SameLaws.{IsSame-from}
use Rattle.drf_content.specs.Content.{content_of}
use Rattle.drf_core.proofs.cluster.Cluster.open.Goals as goal

pub invariant_of-result : goal.invariant_of-result
unfolding content_of
invariant_of-result g c = IsSame-from _ _ (c.in_ok-open.ensures.empty ∙ sym (ap content_of c.new.ensures.rows))

use Rattle.std.proofs.Common.{◌<◌, ◌^◌}
use Rattle.std.proofs.lemmas.Result.{IfOk-weaker}
use Rattle.std.specs.Cmp.{nat_cmp_total}
use Rattle.std.specs.FinSet as set
use Rattle.drf_kinds.proofs.Answered.{difference_answer}
use Rattle.drf_kinds.proofs.ranges.Ranges.difference.Goals as goal

pub returns : goal.returns
returns c = IfOk-weaker _ _ _ (difference_answer nat_cmp_total set.nat_cmp-IsAntisymmetric (λ n. n < 2 ^ 32) _ _) c.combined.ensures

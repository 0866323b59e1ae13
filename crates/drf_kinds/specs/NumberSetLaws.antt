-- Finite sets of numbers satisfy what a type of amounts must satisfy.
use Rattle.std.specs.Prelude.{◌<◌, ◌^◌}
use Rattle.std.specs.Cmp.{nat_cmp_total}
use Rattle.std.specs.FinSet as set
use Rattle.drf_amount.specs.Algebra.{AlgebraLaws}
use Rattle.drf_kinds.specs.Sets.{set_join, set_refusal}
use Rattle.drf_kinds.specs.Intervals.{IsNumberSet}
use Rattle.drf_kinds.specs.SetLaws.{set_laws}

pub number_set_laws : AlgebraLaws IsNumberSet set.empty set_join set_refusal set.len
number_set_laws = set_laws nat_cmp_total set.nat_cmp-IsAntisymmetric (λ n. n < 2 ^ 32)

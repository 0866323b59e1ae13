use Rattle.std.proofs.Common.{◌<◌, ◌^◌}
use Rattle.std.specs.Cmp.{nat_cmp_total}
use Rattle.std.specs.Cmp.Lexicographic.{nat_list_cmp_total}
use Rattle.std.specs.FinSet as set
use Rattle.drf_role.specs.Name.{IsLabel}
use Rattle.drf_bundle.specs.laws.ValueLaws.{texts_apart}
use Rattle.drf_bundle.proofs.ValueAnswers.{scalar_covers, set_covers}
use Rattle.drf_bundle.proofs.value.Value.covers.Goals as goal

pub returns-in-Scalar-Scalar : goal.returns-in-Scalar-Scalar
returns-in-Scalar-Scalar c =
    rw (c.in-Scalar-Scalar.is-0, c.in-Scalar-Scalar.is-1)
    (scalar_covers _ _ _ c.covers.ensures.given.0 c.covers.ensures.covers)

pub returns-in-Ranges-Ranges : goal.returns-in-Ranges-Ranges
returns-in-Ranges-Ranges c =
    rw (c.in-Ranges-Ranges.is-0, c.in-Ranges-Ranges.is-1)
    (set_covers nat_cmp_total set.nat_cmp-IsAntisymmetric (λ n. n < 2 ^ 32) _ _ _ c.covers-in-Ranges-Ranges.ensures.given.0 c.covers-in-Ranges-Ranges.ensures.covers)

pub returns-in-Items-Items : goal.returns-in-Items-Items
returns-in-Items-Items c =
    rw (c.in-Items-Items.is-0, c.in-Items-Items.is-1)
    (set_covers nat_list_cmp_total texts_apart IsLabel _ _ _ c.covers-in-Items-Items.ensures.given.0 c.covers-in-Items-Items.ensures.covers)

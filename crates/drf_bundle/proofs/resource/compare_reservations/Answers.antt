use Rattle.std.proofs.Common.{sym, ap, ◌∙◌}
use Rattle.std.specs.Cmp.Lexicographic.{slice_cmp}
use Rattle.std.specs.Ordering.{nat_cmp}
use Rattle.drf_role.specs.TextLaws.{cmp_itself}
use Rattle.drf_role.specs.PathLaws.{same_path-true}
use Rattle.drf_bundle.specs.Bundle.{reservation}
use Rattle.drf_bundle.proofs.resource.compare_reservations.Goals as goal

pub returns-then-is_same_role : goal.returns-then-is_same_role
returns-then-is_same_role c =
    let text = reservation c.args.role.now in
    let same = same_path-true c.args.role.now c.args.other.now (sym c.is_same_role.ensures ∙ c.if-is_same_role.true) in
    sym (ap (slice_cmp nat_cmp text) (ap reservation (sym same)) ∙ cmp_itself text)

use Rattle.std.proofs.Common.{sym, ap, ◌∙◌}
use Rattle.std.specs.Cmp.Lexicographic.{slice_cmp}
use Rattle.std.specs.Ordering.{nat_cmp}
use Rattle.drf_role.specs.TextLaws.{same_from_test, cmp_itself}
use Rattle.drf_bundle.proofs.resource.compare_labels.Goals as goal

pub returns-then-eq : goal.returns-then-eq
returns-then-eq c =
    let label = c.args.label.now in
    let same = same_from_test label c.args.other.now (sym c.if-eq.ensures) in
    sym (ap (slice_cmp nat_cmp label) (sym same) ∙ cmp_itself label)

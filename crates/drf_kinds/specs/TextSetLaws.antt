-- Finite sets of labels satisfy what a type of amounts must satisfy.
use Rattle.std.specs.Cmp.Lexicographic.{nat_list_cmp_total}
use Rattle.std.specs.FinSet as set
use Rattle.drf_amount.specs.Algebra.{AlgebraLaws}
use Rattle.drf_role.specs.Name.{IsLabel}
use Rattle.drf_kinds.specs.Names.{IsLabelSet}
use Rattle.drf_kinds.specs.Sets.{set_join, set_refusal}
use Rattle.drf_kinds.specs.SetLaws.{set_laws}

pub text_set_laws : AlgebraLaws IsLabelSet set.empty set_join set_refusal set.len
text_set_laws = set_laws nat_list_cmp_total (set.slice_cmp-IsAntisymmetric set.nat_cmp-IsAntisymmetric) IsLabel

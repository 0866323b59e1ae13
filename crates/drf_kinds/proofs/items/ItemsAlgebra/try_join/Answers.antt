use Rattle.std.specs.Cmp.Lexicographic.{nat_list_cmp_total}
use Rattle.drf_kinds.proofs.Names.{texts_same}
use Rattle.drf_role.specs.Name.{IsLabel}
use Rattle.drf_kinds.proofs.Answered.{joined_answer}
use Rattle.drf_kinds.proofs.items.ItemsAlgebra.try_join.Goals as goal

pub returns-clause-joined : goal.returns-clause-joined
returns-clause-joined c =
    joined_answer nat_list_cmp_total texts_same IsLabel _ _ _ (c.disjoint.ensures.disjoint.0 c.if-not-disjoint.false) c.in_ok-unite.ensures

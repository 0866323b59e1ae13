use Rattle.std.specs.Cmp.Lexicographic.{nat_list_cmp_total}
use Rattle.drf_kinds.proofs.Names.{texts_same}
use Rattle.drf_role.specs.Name.{IsLabel}
use Rattle.drf_kinds.proofs.Answered.{rest_answer}
use Rattle.drf_kinds.proofs.items.ItemsAlgebra.try_minus.Goals as goal

pub returns-clause-rest : goal.returns-clause-rest
returns-clause-rest c =
    rest_answer nat_list_cmp_total texts_same IsLabel _ _ _ c.covers.ensures.given.0 (c.covers.ensures.covers.0 c.if-not-covers.false) c.in_ok-difference.ensures

use Rattle.std.specs.Cmp.Lexicographic.{nat_list_cmp_total}
use Rattle.drf_role.specs.Name.{IsLabel}
use Rattle.drf_kinds.proofs.Answered.{disjoint_answer}
use Rattle.drf_kinds.proofs.Names.{contains-view, texts_same}
use Rattle.drf_kinds.proofs.items.ItemsAlgebra.disjoint.Goals as goal

pub returns-clause-disjoint : goal.returns-clause-disjoint
returns-clause-disjoint c =
    disjoint_answer nat_list_cmp_total texts_same IsLabel _ _ _ _ c.meets.result
    (contains-view _ _ _ c.deref.ensures.value c.self.view_is) (contains-view _ _ _ c.deref-2.ensures.value c.other.view_is)
    c.meets.ensures.found c.meets.ensures.none

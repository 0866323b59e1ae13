use Rattle.std.specs.Cmp.Lexicographic.{nat_list_cmp_total}
use Rattle.std.proofs.Common.{subst}
use Rattle.drf_role.specs.Name.{IsLabel}
use Rattle.drf_kinds.specs.Names.{IsLabelSet}
use Rattle.drf_kinds.proofs.Answered.{covers_answer}
use Rattle.drf_kinds.proofs.Names.{contains-view, texts_same}
use Rattle.drf_kinds.proofs.items.ItemsAlgebra.covers.Goals as goal

pub returns-clause-covers : goal.returns-clause-covers
returns-clause-covers c =
    covers_answer nat_list_cmp_total texts_same IsLabel _ _ _ _ c.meets.result
    (contains-view _ _ _ c.deref.ensures.value c.part.view_is) (contains-view _ _ _ c.deref-2.ensures.value c.self.view_is) (subst IsLabelSet c.self.view_is c.self.invariant.given)
    c.meets.ensures.found c.meets.ensures.none

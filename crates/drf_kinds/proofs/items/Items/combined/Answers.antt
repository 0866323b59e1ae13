use Rattle.std.proofs.Common.{refl, subst}
use Rattle.std.specs.Cmp.Lexicographic.{nat_list_cmp_total}
use Rattle.drf_role.specs.Name.{IsLabel}
use Rattle.drf_kinds.specs.Names.{IsLabelSet}
use Rattle.drf_kinds.specs.Sets.{is_kept}
use Rattle.drf_kinds.proofs.Answered.{kept_answer}
use Rattle.drf_kinds.proofs.Names.{IsLabelSet-kept, contains-names, contains-view, texts_same}
use Rattle.drf_kinds.proofs.items.Items.combined.Goals as goal

pub invariant_of-result : goal.invariant_of-result
invariant_of-result c = record {
  ascending = c.in_ok-combined.ensures.ascending;
  given =
      IsLabelSet-kept c.args.united _ _ _ (subst IsLabelSet c.self.view_is c.self.invariant.given) (subst IsLabelSet c.other.view_is c.other.invariant.given)
      (kept_answer nat_list_cmp_total texts_same IsLabel (is_kept c.args.united) _ _ _ _ _ _
      (contains-view _ _ _ c.deref.ensures.value c.self.view_is) (contains-view _ _ _ c.deref-2.ensures.value c.other.view_is) (contains-names c.in_ok-combined.field-0.items) c.in_ok-combined.ensures.members);
}

pub returns : goal.returns
returns c =
    kept_answer nat_list_cmp_total texts_same IsLabel (is_kept c.args.united) _ _ _ _ _ _
    (contains-view _ _ _ c.deref.ensures.value c.self.view_is) (contains-view _ _ _ c.deref-2.ensures.value c.other.view_is) (contains-view c.in_ok-combined.field-0.items c.in_ok-combined.field-0.items _ refl refl) c.in_ok-combined.ensures.members

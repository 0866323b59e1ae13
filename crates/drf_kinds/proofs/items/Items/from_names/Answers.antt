use Rattle.std.proofs.Common.{All, subst}
use Rattle.drf_role.specs.Name.{IsLabel}
use Rattle.drf_kinds.proofs.Names.{kept_names, same_kept}
use Rattle.drf_kinds.proofs.items.Items.from_names.Goals as goal

pub invariant_of-result : goal.invariant_of-result
invariant_of-result c = kept_names _ _ _ (subst (All IsLabel) c.deref.ensures.value c.recall.ensures) c.in_ok-sort.ensures.permutation c.in_ok-sort.ensures.sorted c.dedup.ensures.filtered

pub returns : goal.returns
returns c = same_kept _ _ _ c.in_ok-sort.ensures.permutation c.dedup.ensures.filtered

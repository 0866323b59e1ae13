use Rattle.std.proofs.lemmas.Result.{IfOk-weaker}
use Rattle.std.specs.Cmp.Lexicographic.{nat_list_cmp_total}
use Rattle.drf_role.specs.Name.{IsLabel}
use Rattle.drf_kinds.proofs.Answered.{difference_answer}
use Rattle.drf_kinds.proofs.Names.{texts_same}
use Rattle.drf_kinds.proofs.items.Items.difference.Goals as goal

pub returns : goal.returns
returns c = IfOk-weaker _ _ _ (difference_answer nat_list_cmp_total texts_same IsLabel _ _) c.combined.ensures

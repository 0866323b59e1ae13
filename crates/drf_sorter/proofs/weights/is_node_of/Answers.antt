use Rattle.std.proofs.Common.{◌∙◌}
use Rattle.drf_sorter.proofs.PrefixLemmas.{same_as_texts}
use Rattle.drf_sorter.proofs.weights.is_node_of.Goals as goal

pub returns : goal.returns
returns c =
    c.eq.ensures
    ∙ same_as_texts c.args.role.now c.args.node.now c.text.result.now c.text-2.result.now c.text.ensures.text
    c.text-2.ensures.text c.text.ensures.parts c.text-2.ensures.parts

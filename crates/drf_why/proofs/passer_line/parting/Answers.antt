use Rattle.std.proofs.Common.{◌+◌, ap, ap₂, ◌∙◌, add-one, take}
use Rattle.std.specs.Prelude.{min}
use Rattle.std.proofs.lemmas.List.{take_min}
use Rattle.std.proofs.lemmas.Result.{IfOk-weaker}
use Rattle.drf_why.specs.Passers.{shared_parts}
use Rattle.drf_why.proofs.passer_line.parting.Goals as goal

pub returns : goal.returns
returns c =
    let path = c.args.path.now in
    let shared = shared_parts path c.args.other.now in
    let len = c.min.ensures ∙ ap₂ (λ s n. min (s + 1) n) c.shared_parts-behind.ensures.value c.len.ensures.len in
    IfOk-weaker c.node.result _ _
    (λ node is. is ∙ ap (λ n. take n path) len ∙ take_min (shared + 1) path ∙ ap (λ n. take n path) (add-one shared)) c.node.ensures

use Rattle.drf_bundle.proofs.theorems.OneLaws.{bundle-one_of}
use Rattle.drf_bundle.proofs.bundle.Bundle.one.Goals as goal

pub new-requires : goal.new-requires
new-requires c =
    rw (c.in_ok-push_filled.ensures.pushed, c.new-resources.ensures.items, c.in_ok-copy.ensures, c.in_ok-copy-2.ensures)
    (bundle-one_of c.args.label.now c.args.role.now c.args.value c.recall.ensures c.recall-2.ensures.right c.recall-2.ensures.parts c.push_filled.ensures.given)

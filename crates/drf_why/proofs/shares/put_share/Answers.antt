use Rattle.std.proofs.Common.{◌∙◌}
use Rattle.drf_why.proofs.Shared.{share_put}
use Rattle.drf_why.proofs.shares.put_share.Goals as goal

pub returns : goal.returns
returns c =
    share_put c.args.by_node.now c.insert.new.self c.in_ok-node.node c.in_ok-share.share _ _ c.in_ok-insert.ensures.updates
    (c.in_ok-node.ensures.ok ∙ c.text.ensures.text) c.in_ok-share.ensures

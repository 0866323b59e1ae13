use Rattle.drf_lines.proofs.Appends.{opened, one_more, closed}
use Rattle.drf_lines.proofs.node.put_node_list.Goals as goal

pub loop-i-init : goal.loop-i-init
loop-i-init c = opened c.in_ok-put_byte.ensures

pub loop-i-preserved : goal.loop-i-preserved
loop-i-preserved c =
    one_more c.loop-i.invariant c.loop-i-test.true c.index-nodes-i.is c.in_ok-put_comma.ensures c.in_ok-put_node.ensures

pub returns : goal.returns
returns c = closed c.loop-i.invariant c.loop-i-test.false c.put_byte-2.ensures

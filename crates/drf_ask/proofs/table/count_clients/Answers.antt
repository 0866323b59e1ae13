use Rattle.std.proofs.Common.{arith}
use Rattle.drf_ask.proofs.Clients.{clients_left, none_left}
use Rattle.drf_ask.proofs.table.count_clients.Goals as goal

pub overflow_add-clients : goal.overflow_add-clients
overflow_add-clients c =
    let left = clients_left c.args.frameworks.now c.loop-framework.framework-index c.framework-item.result c.loop-framework-test.true c.framework-item.is in
    let few = c.requires in let so_far = c.loop-framework.invariant in let len = c.len.ensures in
    omega arith

pub loop-framework-preserved : goal.loop-framework-preserved
loop-framework-preserved c =
    let left = clients_left c.args.frameworks.now c.loop-framework.framework-index c.framework-item.result c.loop-framework-test.true c.framework-item.is in
    let so_far = c.loop-framework.invariant in let len = c.len.ensures in
    omega arith

pub returns : goal.returns
returns c =
    let none = none_left c.args.frameworks.now c.loop-framework.framework-index c.loop-framework-test.false in
    let so_far = c.loop-framework.invariant in
    omega arith

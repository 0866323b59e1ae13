use Rattle.drf_core.proofs.drafting.Near.{reserved_far}
use Rattle.drf_core.proofs.cycle.free.raised_prefix.Goals as goal

pub returns-then-len-prefix-clause-near : goal.returns-then-len-prefix-clause-near
returns-then-len-prefix-clause-near c =
    reserved_far c.args.role.now c.in-Some.len c.args.prefix c.args.resource.now c.if-len-prefix.true c.in-Some.ensures.parted

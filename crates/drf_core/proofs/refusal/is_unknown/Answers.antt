use Rattle.std.proofs.Common.{not, sym, ap}
use Rattle.drf_core.proofs.refusal.is_unknown.Goals as goal

pub returns-then-holds : goal.returns-then-holds
returns-then-holds c = sym (ap not (c.requires c.if-holds.true))

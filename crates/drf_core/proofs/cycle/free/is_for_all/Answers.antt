use Rattle.std.proofs.Common.{sym, ◌∙◌}
use Rattle.std.specs.Option.{option_copied}
use Rattle.drf_core.proofs.drafting.Granted.{offered-whole}
use Rattle.drf_core.proofs.cycle.free.is_for_all.Goals as goal

pub returns-then-free-2 : goal.returns-then-free-2
returns-then-free-2 c = λ reported role.
    offered-whole (option_copied c.args.quota) c.args.free.now.bundle c.recall.ensures (c.requires.unreserved c.if-free.true)
    (sym c.requires.worth ∙ c.if-free-2.true) (c.is_unlimited.ensures reported) role

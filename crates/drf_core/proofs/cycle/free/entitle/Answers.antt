use Rattle.std.specs.Option.{option_copied}
use Rattle.drf_core.proofs.cycle.free.entitle.Goals as goal

pub returns-clause-known : goal.returns-clause-known
returns-clause-known c =
    let before = c.for_everyone-amounts.ensures.known (option_copied c.args.quota) c.requires in
    record { worth = before.worth; unreserved = before.unreserved; everyone = before.everyone; right = c.in_ok-known.ensures.right }

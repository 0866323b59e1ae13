use Rattle.std.proofs.Common.{◌∙◌}
use Rattle.std.specs.Option.{option_copied}
use Rattle.drf_core.proofs.drafting.Told.{finding-is}
use Rattle.drf_core.proofs.cycle.explain.outcome_of.Goals as goal

pub returns : goal.returns
returns c = λ rows a gates counted is_free named.
    finding-is rows a c.args.client.now (option_copied c.args.quota) c.args.free.now c.in_ok-part.part c.in_ok-bundle.bundle
    c.in_ok-agent.agent c.in_ok-path.path c.in_ok-outcome.outcome
    (λ client joined. c.in_ok-outcome.ensures rows a client gates counted joined)
    (rw c.role.ensures at c.in_ok-part.ensures) (rw c.role-2.ensures at c.in_ok-bundle.ensures) counted
    is_free (c.in_ok-agent.ensures ∙ named) c.in_ok-path.ensures

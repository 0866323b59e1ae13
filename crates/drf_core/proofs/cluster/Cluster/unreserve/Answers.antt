use Rattle.std.proofs.Common.{◌≡◌, ap, subst, sym, ◌∙◌}
use Rattle.drf_rows.specs.Step.{effect}
use Rattle.drf_rows.specs.declared.event.Event.TheVariants.{Unreserve}
use Rattle.drf_rows.specs.declared.rows.Rows.{Rows}
use Rattle.drf_sorter.specs.Content.{IsSame}
use Rattle.drf_content.specs.Content.{content_of}
use Rattle.drf_core.proofs.effects.Moved.{unreserved-unreserve, exchange-unreserve, effect-unreserved, content_of-unreserved}
use Rattle.drf_core.proofs.cluster.Cluster.unreserve.Goals as goal

pub reserved-requires : goal.reserved-requires
reserved-requires g c =
    unreserved-unreserve c.args.limits.now c.args.self.now.rows c.args.agent.now c.args.role.now c.args.resources.now c.requires.welcome

pub exchange-requires : goal.exchange-requires
exchange-requires g c = rw c.in_ok-moved.ensures.moved (
    exchange-unreserve c.args.limits.now c.self.inside.tables.rows c.args.agent.now c.args.role.now c.args.resources.now
    (rw (← c.self.view_is) at c.requires.welcome) (rw (← c.self.view_is) at c.requires.consistent) c.reserved.ensures.asked)

pub invariant_of-self-2 : goal.invariant_of-self-2
invariant_of-self-2 g c =
    let rows : Rows = c.self.inside.tables.rows in
    let same : c.exchange.new.self.rows ≡ effect rows (Unreserve c.args.agent.now c.args.role.now c.args.resources.now) =
    effect-unreserved rows c.exchange.new.self.rows c.args.agent.now c.args.role.now c.args.resources.now c.in_ok-moved.moved
    c.in_ok-moved.ensures.moved c.in_ok-exchange.ensures.ok in
    subst (IsSame _) (sym (ap content_of same
    ∙ content_of-unreserved c.args.limits.now rows c.args.agent.now c.args.role.now c.args.resources.now
    (rw (← c.self.view_is) at c.requires.welcome) (rw (← c.self.view_is) at c.requires.consistent) c.reserved.ensures.asked)) c.self.invariant

pub returns-clause-ok : goal.returns-clause-ok
returns-clause-ok g c =
    rw (← c.self.view_is) (effect-unreserved c.self.inside.tables.rows c.exchange.new.self.rows c.args.agent.now c.args.role.now c.args.resources.now
    c.in_ok-moved.moved c.in_ok-moved.ensures.moved c.in_ok-exchange.ensures.ok)

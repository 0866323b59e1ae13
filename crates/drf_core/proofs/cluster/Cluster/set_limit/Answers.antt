use Rattle.std.proofs.Common.{ap, subst, sym, ◌∙◌}
use Rattle.drf_rows.specs.declared.rows.Rows.{Rows}
use Rattle.drf_sorter.specs.Content.{IsSame}
use Rattle.drf_content.specs.Content.{content_of}
use Rattle.drf_core.proofs.effects.Moved.{other-set_limit, effect-limit, content_of-limit}
use Rattle.drf_core.proofs.cluster.Cluster.set_limit.Goals as goal

pub set_limit-requires : goal.set_limit-requires
set_limit-requires g c = other-set_limit c.args.limits.now c.args.self.now.rows c.args.role c.args.limit c.requires

pub invariant_of-self-2 : goal.invariant_of-self-2
invariant_of-self-2 g c =
    let rows : Rows = c.self.inside.tables.rows in
    subst (IsSame _) (sym (ap content_of (effect-limit rows c.set_limit.new.self.rows c.args.role c.args.limit c.in_ok-set_limit.ensures.ok)
    ∙ content_of-limit rows c.args.role c.args.limit)) c.self.invariant

pub returns-clause-ok : goal.returns-clause-ok
returns-clause-ok g c =
    rw (← c.self.view_is) (effect-limit c.self.inside.tables.rows c.set_limit.new.self.rows c.args.role c.args.limit c.in_ok-set_limit.ensures.ok)

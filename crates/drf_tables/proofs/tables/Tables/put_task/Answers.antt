use Rattle.std.proofs.Common.{◌≡◌, map, is_some, sym, ap, subst, ◌∙◌}
use Rattle.std.specs.Option.{option_copied}
use Rattle.drf_tables.proofs.tables.Names.{IsConsistent, changed, with_held, Stored}
use Rattle.drf_tables.specs.Inside.{is_settled, rows_in, rows_of}
use Rattle.drf_tables.proofs.limits.Counts.{none_counted}
use Rattle.drf_tables.proofs.registry.Entries.{is_some-copied}
use Rattle.drf_tables.proofs.tables.Fields.{has_agent-rows_in}
use Rattle.drf_tables.proofs.registry.Held.{settled-held}
use Rattle.drf_tables.proofs.tables.PutBack.{agent_of-task, kept-task_put, new_task, rows-task_put, task_put, reported_held}
use Rattle.drf_tables.proofs.tables.Tables.put_task.Goals.{After-get, After-set_free}
use Rattle.drf_tables.proofs.tables.Tables.put_task.Goals as goal

consistent_at : (c : After-get) → IsConsistent (task_put (rows_in c.self.inside) c.args.task)
consistent_at c = subst (λ (s : Stored). IsConsistent (task_put s.rows c.args.task)) (sym c.self.view_is) c.requires.consistent

reported_at : (c : After-set_free) → c.set_free.new.self.entries ≡ map (changed c.args.task.agent (with_held c.args.task.bundle)) c.self.inside.agents.entries
reported_at c =
    reported_held _ _ _ _ _ _ c.unwrap-agent.result.now (sym c.get.ensures.value ∙ ap option_copied c.unwrap-agent.ensures) c.in_ok-left.ensures
    c.in_ok-name.ensures c.set_free.ensures

pub unwrap-agent-requires : goal.unwrap-agent-requires
unwrap-agent-requires c =
    let t = c.self.inside in
    let consistent = consistent_at (goal.at.unwrap-agent-requires c).After-get in
    sym (is_some-copied c.get.result) ∙ ap is_some c.get.ensures.value ∙ sym (has_agent-rows_in t _) ∙ agent_of-task (rows_in t) c.args.task consistent

pub put_task-requires : goal.put_task-requires
unfolding rows_of
put_task-requires c = new_task c.self.inside.holdings.tasks c.args.task (consistent_at (goal.at.put_task-requires c).After-get).tasks

pub invariant_of-self-2 : goal.invariant_of-self-2
invariant_of-self-2 c =
    let t = c.self.inside in
    let at = goal.at.invariant_of-self-2 c in
    record {
      kept = kept-task_put t c.self.invariant.kept c.set_free.new.self.entries c.put_task.new.self
          c.args.task (reported_at at.After-set_free) c.in_ok-put_task.ensures.ok c.put_task.ensures.offers (consistent_at at.After-get);
      consumed = none_counted _ t.consumption (ap (λ (s : Stored). s.counted) c.self.view_is ∙ c.requires.uncounted);
    }

pub returns-clause-ok : goal.returns-clause-ok
returns-clause-ok c =
    rows-task_put c.self.inside c.self.invariant.kept c.set_free.new.self.entries c.put_task.new.self
    c.args.task (reported_at (goal.at.returns-clause-ok c).After-set_free) c.in_ok-put_task.ensures.ok c.put_task.ensures.offers
    ∙ ap (λ (s : Stored). task_put s.rows c.args.task) c.self.view_is

pub returns-clause-settled : goal.returns-clause-settled
returns-clause-settled c =
    ap is_settled (reported_at (goal.at.returns-clause-settled c).After-set_free)
    ∙ settled-held c.args.task.agent c.args.task.bundle c.self.inside.agents.entries ∙ ap (λ (s : Stored). s.settled) c.self.view_is

use Rattle.std.proofs.Common.{refl, sym, ap, ◌∙◌}
use Rattle.drf_tables.proofs.tables.Names.{with_activity, reserved_for, Rows, with_active, Stored}
use Rattle.drf_tables.proofs.agents.Changes.{rows-active, kept-active}
use Rattle.drf_tables.proofs.limits.Counts.{counts-same, reserved-with_activity}
use Rattle.drf_tables.specs.Inside.{is_settled, rows_of, rows_in}
use Rattle.drf_tables.proofs.registry.Held.{settled-changed}
use Rattle.drf_tables.proofs.tables.Tables.set_active.Goals as goal

pub invariant_of-self : goal.invariant_of-self
unfolding rows_of
invariant_of-self c =
    record {
      kept = kept-active c.self.inside c.self.invariant.kept c.args.agent.now c.args.active c.set_active.new.self.entries c.set_active.ensures;
      consumed = counts-same (rows_in c.self.inside) _ _ c.self.invariant.consumed refl
          (λ test label.
          reserved-with_activity (rows_in c.self.inside) c.args.agent.now c.args.active test label
          ∙ sym (ap (λ (r : Rows). reserved_for test r.agents label)
          (rows-active c.self.inside c.self.invariant.kept c.args.agent.now c.args.active c.set_active.new.self.entries c.set_active.ensures)));
    }

pub returns-clause-rows : goal.returns-clause-rows
returns-clause-rows c =
    let name = c.args.agent.now in
    let active = c.args.active in
    rows-active c.self.inside c.self.invariant.kept name active c.set_active.new.self.entries c.set_active.ensures
    ∙ ap (λ (s : Stored). record s.rows { agents = with_activity s.rows name active }) c.self.view_is

pub returns-clause-settled : goal.returns-clause-settled
returns-clause-settled c =
    ap is_settled c.set_active.ensures
    ∙ settled-changed c.args.agent.now (with_active c.args.active) (λ a. refl) c.self.inside.agents.entries
    ∙ ap (λ (s : Stored). s.settled) c.self.view_is

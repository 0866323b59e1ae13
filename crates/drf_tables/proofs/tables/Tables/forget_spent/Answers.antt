use Rattle.std.proofs.Common.{ap, ◌∙◌, refl}
use Rattle.drf_rows.specs.Step.{live_rows}
use Rattle.drf_tables.specs.Stored.{Stored}
use Rattle.drf_tables.proofs.filters.Spent.{kept-swept, left-swept, live-swept}
use Rattle.drf_tables.specs.Inside.{rows_of, rows_in}
use Rattle.drf_tables.proofs.limits.Counts.{counts-same}
use Rattle.drf_tables.proofs.tables.Tables.forget_spent.Goals as goal

pub invariant_of-self : goal.invariant_of-self
unfolding rows_of
invariant_of-self c =
    record {
      kept = kept-swept c.self.inside c.drop_spent.new.self c.drop_spent.ensures c.self.invariant.kept;
      consumed = counts-same (rows_in c.self.inside) _ _ c.self.invariant.consumed refl (λ test label. refl);
    }

pub returns-clause-live : goal.returns-clause-live
returns-clause-live c =
    live-swept c.self.inside c.drop_spent.new.self c.drop_spent.ensures ∙ ap (λ (s : Stored). live_rows s.rows) c.self.view_is

pub returns-clause-consistent : goal.returns-clause-consistent
returns-clause-consistent c = (kept-swept c.self.inside c.drop_spent.new.self c.drop_spent.ensures c.self.invariant.kept).consistent

pub returns-clause-swept : goal.returns-clause-swept
unfolding rows_of
returns-clause-swept c many =
    left-swept (rows_in c.self.inside) c.self.inside.filters c.drop_spent.new.self c.drop_spent.ensures

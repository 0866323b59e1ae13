use Rattle.std.proofs.Common.{true, refl}
use Rattle.drf_tables.proofs.agents.Changes.{kept-suppressed}
use Rattle.drf_tables.specs.Inside.{rows_of, rows_in}
use Rattle.drf_tables.proofs.limits.Counts.{counts-same}
use Rattle.drf_tables.proofs.tables.Tables.suppress.Goals as goal

pub invariant_of-self : goal.invariant_of-self
unfolding rows_of
invariant_of-self c =
    record {
      kept = kept-suppressed c.self.inside c.self.invariant.kept (record { role = c.args.role.now; framework = c.args.framework.now }) true
          c.suppress.new.frameworks.entries c.suppress.ensures;
      consumed = counts-same (rows_in c.self.inside) _ _ c.self.invariant.consumed refl (λ test label. refl);
    }

use Rattle.std.proofs.Common.{refl}
use Rattle.drf_tables.proofs.agents.Changes.{kept-revived}
use Rattle.drf_tables.specs.Inside.{rows_of, rows_in}
use Rattle.drf_tables.proofs.limits.Counts.{counts-same}
use Rattle.drf_tables.proofs.tables.Tables.revive.Goals as goal

pub invariant_of-self : goal.invariant_of-self
unfolding rows_of
invariant_of-self c =
    record {
      kept = kept-revived c.self.inside c.self.invariant.kept (record { role = c.args.role.now; framework = c.args.framework.now })
          c.suppress.new.frameworks.entries c.revive.new.self c.suppress.ensures c.revive.ensures;
      consumed = counts-same (rows_in c.self.inside) _ _ c.self.invariant.consumed refl (λ test label. refl);
    }

use Rattle.std.proofs.Common.{refl}
use Rattle.drf_tables.specs.Inside.{rows_of, rows_in}
use Rattle.drf_tables.proofs.tables.Kept.{AreDerived-clocked}
use Rattle.drf_tables.proofs.limits.Counts.{counts-same}
use Rattle.drf_tables.proofs.tables.Tables.set_clock.Goals as goal

pub invariant_of-self : goal.invariant_of-self
unfolding rows_of
invariant_of-self c =
    let t = c.self.inside in
    record {
      kept = AreDerived-clocked (rows_in t) _ _ _ c.args.clock t.events c.requires c.self.invariant.kept;
      consumed = counts-same (rows_in c.self.inside) _ _ c.self.invariant.consumed refl (λ test label. refl);
    }

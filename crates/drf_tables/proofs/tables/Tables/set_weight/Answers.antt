use Rattle.std.proofs.Common.{◌≡◌, ap, ◌∙◌, refl}
use Rattle.drf_tables.proofs.tables.Names.{insert_entry, same_path, Stored}
use Rattle.drf_tables.specs.Inside.{rows_of, rows_in}
use Rattle.drf_tables.proofs.registry.Entries.{from_ok}
use Rattle.drf_tables.proofs.tables.Weighed.{weight_set, rows_of-weight, AreDerived-weight_set}
use Rattle.drf_tables.proofs.limits.Counts.{counts-same}
use Rattle.drf_tables.proofs.tables.Tables.set_weight.Goals as goal

pub invariant_of-self : goal.invariant_of-self
unfolding rows_of
invariant_of-self c =
    let t = c.self.inside in
    let role = c.args.role in
    let inserted : c.insert.new.self.entries ≡ insert_entry same_path t.weights.entries role c.args.weight =
    from_ok c.insert.result c.unwrap.result _ c.unwrap.ensures c.insert.ensures.entries in
    record {
      kept = rw (rows_of-weight t c.insert.new.self.entries role c.args.weight inserted) (
          AreDerived-weight_set (rows_in t) t.agents.entries t.total t.clients role c.args.weight c.requires.right c.recall.ensures.right
          c.self.invariant.kept
          );
      consumed = counts-same (rows_in c.self.inside) _ _ c.self.invariant.consumed refl (λ test label. refl);
    }

pub returns-clause-rows : goal.returns-clause-rows
returns-clause-rows c =
    let t = c.self.inside in
    let role = c.args.role in
    let inserted : c.insert.new.self.entries ≡ insert_entry same_path t.weights.entries role c.args.weight =
    from_ok c.insert.result c.unwrap.result _ c.unwrap.ensures c.insert.ensures.entries in
    rows_of-weight t c.insert.new.self.entries role c.args.weight inserted
    ∙ ap (λ (s : Stored). weight_set s.rows role c.args.weight) c.self.view_is

use Rattle.std.proofs.Common.{◌≡◌, sym, ap, ◌∙◌, subst, arith, refl}
use Rattle.drf_rows.specs.Releases.{without_ended, all_of}
use Rattle.drf_tables.proofs.tables.Names.{framework_removed, Stored}
use Rattle.drf_tables.specs.Inside.{rows_of, rows_in}
use Rattle.drf_tables.proofs.agents.Changes.{rows-gone, kept-gone}
use Rattle.drf_tables.proofs.limits.Counts.{counts-same}
use Rattle.drf_tables.proofs.tables.Tables.remove_framework.Goals as goal

pub overflow_sub-self : goal.overflow_sub-self
unfolding rows_of
overflow_sub-self c = omega (arith, c.self.invariant.kept.clients, c.take_framework.ensures.clients)

pub invariant_of-self : goal.invariant_of-self
unfolding rows_of
invariant_of-self c =
    let t = c.self.inside in
    let name = c.args.framework.now in
    let nothing : without_ended (rows_in t) (all_of name) ≡ rows_in t =
    subst (λ (s : Stored). without_ended s.rows (all_of name) ≡ s.rows) (sym c.self.view_is) c.requires.nothing in
    record {
      kept = kept-gone t c.self.invariant.kept name c.take_framework.new.frameworks.entries c.drop_framework.new.self c.take_framework.result nothing
          c.take_framework.ensures.rows c.take_framework.ensures.clients c.drop_framework.ensures;
      consumed = counts-same (rows_in c.self.inside) _ _ c.self.invariant.consumed refl (λ test label. refl);
    }

pub returns : goal.returns
returns c =
    let t = c.self.inside in
    let name = c.args.framework.now in
    let nothing : without_ended (rows_in t) (all_of name) ≡ rows_in t =
    subst (λ (s : Stored). without_ended s.rows (all_of name) ≡ s.rows) (sym c.self.view_is) c.requires.nothing in
    rows-gone t c.self.invariant.kept name c.take_framework.new.frameworks.entries c.drop_framework.new.self c.take_framework.result nothing
    c.take_framework.ensures.rows c.take_framework.ensures.clients c.drop_framework.ensures
    ∙ ap (λ (s : Stored). framework_removed s.rows name) c.self.view_is

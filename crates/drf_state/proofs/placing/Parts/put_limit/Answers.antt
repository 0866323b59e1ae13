use Rattle.std.proofs.Common.{refl, ◌∙◌}
use Rattle.drf_rows.specs.declared.rows.Rows.{Rows}
use Rattle.drf_saved.specs.declared.saved.SavedRow.TheVariants.{Limit}
use Rattle.drf_state.proofs.Placed.{limits_last, names_some, placed}
use Rattle.drf_state.proofs.placing.Parts.put_limit.Goals as goal

pub returns-clause-placed : goal.returns-clause-placed
returns-clause-placed g c =
    let parts = c.args.self.now in
    let rows : Rows = parts.tables.rows in
    let limit = c.args.limit in
    let content = g.S.Sorter.content parts.sorter in
    placed parts.tables content parts.counted (Limit limit) c.set_limit.new.self content c.requires.agree c.requires.fits (record {
      rows = c.in_ok-set_limit.ensures.ok
          ∙ (λ i. record rows { limits = limits_last rows.limits limit c.requires.fits.apart (names_some rows.limits limit c.requires.fits.together.limits) i });
      settled = c.in_ok-set_limit.ensures.settled;
      uncounted = c.in_ok-set_limit.ensures.counted;
      sorted = refl;
    })

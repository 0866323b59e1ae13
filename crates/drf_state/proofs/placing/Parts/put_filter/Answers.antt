use Rattle.std.proofs.Common.{refl}
use Rattle.drf_saved.specs.declared.saved.SavedRow.TheVariants.{Filter}
use Rattle.drf_state.proofs.Placed.{placed}
use Rattle.drf_state.proofs.placing.Parts.put_filter.Goals as goal

pub returns-clause-placed : goal.returns-clause-placed
returns-clause-placed g c =
    let parts = c.args.self.now in
    let content = g.S.Sorter.content parts.sorter in
    placed parts.tables content parts.counted (Filter c.args.filter) c.add_filter.new.self content c.requires.agree c.requires.fits (record {
      rows = c.in_ok-add_filter.ensures.ok;
      settled = c.in_ok-add_filter.ensures.settled;
      uncounted = c.in_ok-add_filter.ensures.counted;
      sorted = refl;
    })

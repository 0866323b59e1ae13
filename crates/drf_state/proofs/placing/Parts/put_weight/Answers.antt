use Rattle.std.proofs.Common.{sym, ap, ◌∙◌}
use Rattle.drf_rows.specs.Weights.{weights_with}
use Rattle.drf_rows.specs.declared.rows.Rows.{Rows}
use Rattle.drf_content.proofs.theorems.Put.{weights_more}
use Rattle.drf_saved.specs.declared.saved.SavedRow.TheVariants.{Weight}
use Rattle.drf_state.proofs.Placed.{placed}
use Rattle.drf_state.proofs.placing.Parts.put_weight.Goals as goal

pub returns-clause-placed : goal.returns-clause-placed
returns-clause-placed g c =
    let parts = c.args.self.now in
    let rows : Rows = parts.tables.rows in
    let weight = c.args.weight in
    let content = g.S.Sorter.content parts.sorter in
    placed parts.tables content parts.counted (Weight weight) c.set_weight-2.new.self (g.S.Sorter.content c.set_weight.new.self)
    c.requires.agree c.requires.fits (record {
      rows = c.set_weight-2.ensures.rows
          ∙ ap (λ (r : Rows). record r { weights = weights_with r.weights weight.role weight.weight }) c.in_ok-reserve_weight.ensures.same
          ∙ (λ i. record rows { weights = sym (weights_more rows.weights weight c.requires.fits.apart) i });
      settled = c.set_weight-2.ensures.settled ∙ c.in_ok-reserve_weight.ensures.settled;
      uncounted = c.set_weight-2.ensures.counted ∙ c.in_ok-reserve_weight.ensures.counted;
      sorted = c.in_ok-set_weight.ensures.ok;
    })

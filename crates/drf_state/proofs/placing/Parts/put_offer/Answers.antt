use Rattle.std.proofs.Common.{◌≡◌, ◌∙◌, sym, subst}
use Rattle.drf_rows.specs.Holdings.{holding_of_offer}
use Rattle.drf_sorter.specs.Content.{Content, IsSound, charged, with_change}
use Rattle.drf_content.specs.Putting.{with_put}
use Rattle.drf_saved.specs.declared.saved.SavedRow.TheVariants.{Offer}
use Rattle.drf_state.proofs.Placed.{known_client, offer_held, placed, sound_with}
use Rattle.drf_state.proofs.placing.Parts.put_offer.Goals as goal

pub charge-requires-clause-known : goal.charge-requires-clause-known
charge-requires-clause-known g c =
    let parts = c.args.self.now in
    known_client parts.tables.rows (holding_of_offer c.args.offer) (g.S.Sorter.content parts.sorter) c.in_ok-path.path c.requires.agree.sorted c.in_ok-path.ensures
    (offer_held parts.tables.rows c.args.offer c.requires.fits.together)

pub charge-requires-clause-sound : goal.charge-requires-clause-sound
charge-requires-clause-sound g c =
    let parts = c.args.self.now in
    let content : Content = g.S.Sorter.content parts.sorter in
    let is : with_change content c.in_ok-path.path (charged c.quantities.result.now 0) ≡ with_put content (Offer c.args.offer) =
    λ i. with_change content (c.in_ok-path.ensures i) (charged (c.quantities.ensures.value i) 0) in
    subst IsSound (sym is) (sound_with parts.tables.rows (Offer c.args.offer) content c.requires.agree.sorted c.requires.fits)

pub returns-clause-placed : goal.returns-clause-placed
returns-clause-placed g c =
    let parts = c.args.self.now in
    let content : Content = g.S.Sorter.content parts.sorter in
    placed parts.tables content parts.counted (Offer c.args.offer) c.put_offer.new.self (g.S.Sorter.content c.charge.new.self)
    c.requires.agree c.requires.fits (record {
      rows = c.in_ok-put_offer.ensures.ok;
      settled = c.in_ok-put_offer.ensures.settled;
      uncounted = c.in_ok-put_offer.ensures.counted;
      sorted = c.in_ok-charge.ensures.ok ∙ (λ i. with_change content (c.in_ok-path.ensures i) (charged (c.quantities.ensures.value i) 0));
    })

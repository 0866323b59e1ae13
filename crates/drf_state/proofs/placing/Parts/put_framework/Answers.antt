use Rattle.std.proofs.Common.{◌≡◌, ◌++◌, ◌∷◌, [], ℕ, ◌+◌, List, ap, sym, subst, ◌∙◌}
use Rattle.std.specs.Prelude.{sum_by}
use Rattle.drf_rows.specs.declared.rows.ClientRow.{ClientRow}
use Rattle.drf_sorter.specs.Content.{Content}
use Rattle.drf_content.specs.Putting.{CanAllBeBack, with_all_back}
use Rattle.drf_saved.specs.declared.saved.SavedRow.TheVariants.{Framework}
use Rattle.drf_state.specs.Placing.{IsPlaced}
use Rattle.drf_state.proofs.Placed.{apart_roles, clients_back, placed}
use Rattle.drf_state.proofs.placing.Parts.put_framework.Goals as goal

pub put_clients-requires : goal.put_clients-requires
put_clients-requires g c =
    let parts = c.args.self.now in
    let f = c.args.framework in
    let content : Content = g.S.Sorter.content parts.sorter in
    subst (CanAllBeBack content f.name) (sym c.as_slice.ensures) (clients_back parts.tables.rows f content c.requires.agree.sorted c.requires.fits)

pub add_framework-requires-clause-roles : goal.add_framework-requires-clause-roles
add_framework-requires-clause-roles g c = apart_roles c.args.self.now.tables.rows c.args.framework c.requires.fits.together

pub returns-clause-placed : goal.returns-clause-placed
returns-clause-placed g c =
    let parts = c.args.self.now in
    let f = c.args.framework in
    let content : Content = g.S.Sorter.content parts.sorter in
    let after : Content = g.S.Sorter.content c.put_clients.new.sorter in
    let counts : parts.counted + sum_by (λ c. c.count) f.clients ≡ c.unwrap-self.result =
    sym (rw c.unwrap-self.ensures at c.offers_with.ensures.some
    ∙ ap (λ (cs : List ClientRow). parts.counted + sum_by (λ c. c.count) cs) c.as_slice-2.ensures) in
    subst (λ (n : ℕ). IsPlaced parts.tables.rows (Framework f) c.add_framework.new.self after n) counts
    (placed parts.tables content parts.counted (Framework f) c.add_framework.new.self after c.requires.agree c.requires.fits (record {
      rows = c.add_framework.ensures.rows
          ∙ (λ i. record (c.reserve_framework.ensures.same i) { frameworks = (c.reserve_framework.ensures.same i).frameworks ++ record { name = c.in_ok-named.ensures.named i; clients = f.clients } ∷ [] });
      settled = c.add_framework.ensures.settled ∙ c.reserve_framework.ensures.settled;
      uncounted = c.add_framework.ensures.counted ∙ c.reserve_framework.ensures.counted;
      sorted = c.in_ok-put_clients.ensures.content ∙ ap (with_all_back content f.name) c.as_slice.ensures;
    }))

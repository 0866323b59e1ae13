use Rattle.std.proofs.Common.{◌≡◌, ◌++◌, ◌∷◌, [], List, ap, ◌∙◌}
use Rattle.drf_bundle.specs.declared.quantities.Entry.{Entry}
use Rattle.drf_rows.specs.Held.{cluster_total}
use Rattle.drf_rows.specs.declared.rows.Rows.{Rows}
use Rattle.drf_sorter.specs.Content.{Content}
use Rattle.drf_content.proofs.theorems.Put.{total-put}
use Rattle.drf_saved.specs.declared.saved.SavedRow.TheVariants.{Agent}
use Rattle.drf_state.proofs.Placed.{agent_is, placed}
use Rattle.drf_state.proofs.placing.Parts.put_agent.Goals as goal

pub register-requires-clause-small : goal.register-requires-clause-small
register-requires-clause-small g c = (agent_is c.args.self.now.tables.rows c.args.agent c.requires.fits.together).small

pub returns-clause-placed : goal.returns-clause-placed
returns-clause-placed g c =
    let parts = c.args.self.now in
    let agent = c.args.agent in
    let content : Content = g.S.Sorter.content parts.sorter in
    let total : c.in_ok-total.total ≡ cluster_total (parts.tables.rows.agents ++ agent ∷ []) =
    c.in_ok-total.ensures ∙ c.total.ensures ∙ ap (λ (r : Rows). cluster_total r.agents) c.in_ok-register.ensures.rows in
    placed parts.tables content parts.counted (Agent agent) c.register.new.tables (g.S.Sorter.content c.set_total.new.self)
    c.requires.agree c.requires.fits (record {
      rows = c.in_ok-register.ensures.rows;
      settled = c.in_ok-register.ensures.settled;
      uncounted = c.in_ok-register.ensures.counted;
      sorted = c.set_total.ensures.content
          ∙ ap (λ (sum : List Entry). record content { total = sum }) total
          ∙ total-put parts.tables.rows agent content c.requires.agree.sorted;
    })

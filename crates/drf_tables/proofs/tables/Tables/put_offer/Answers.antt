use Rattle.std.proofs.Common.{◌≡◌, ◌++◌, ◌∷◌, [], List, map, is_some, sym, ap, subst, ◌∙◌}
use Rattle.std.specs.Option.{option_copied}
use Rattle.drf_tables.proofs.tables.Names.{IsConsistent, OfferRow, changed, with_held, Stored}
use Rattle.drf_holdings.specs.Listed.{offer_number}
use Rattle.drf_holdings.specs.Rising.{IsRising}
use Rattle.drf_holdings.proofs.RisingLaws.{rising_from}
use Rattle.drf_tables.specs.Inside.{is_settled, rows_in, rows_of}
use Rattle.drf_tables.proofs.limits.Counts.{none_counted}
use Rattle.drf_tables.proofs.registry.Entries.{is_some-copied}
use Rattle.drf_tables.proofs.tables.Fields.{has_agent-rows_in}
use Rattle.drf_tables.proofs.registry.Held.{settled-held}
use Rattle.drf_tables.proofs.tables.PutBack.{agent_of-offer, kept-offer_put, offer_put, rows-offer_put, reported_held}
use Rattle.drf_tables.proofs.tables.Tables.put_offer.Goals.{After-get, After-set_free}
use Rattle.drf_tables.proofs.tables.Tables.put_offer.Goals as goal

consistent_at : (c : After-get) → IsConsistent (offer_put (rows_in c.self.inside) c.args.offer)
consistent_at c = subst (λ (s : Stored). IsConsistent (offer_put s.rows c.args.offer)) (sym c.self.view_is) c.requires.consistent

last_at : (c : After-set_free) → c.append.new.self.offers ≡ c.self.inside.holdings.offers ++ c.args.offer ∷ []
last_at c =
    c.in_ok-append.ensures.ok
    ∙ ap (λ (os : List OfferRow). c.self.inside.holdings.offers ++ os) (c.in_ok-push.ensures.items ∙ ap (λ (os : List OfferRow). os ++ c.args.offer ∷ []) c.new-offers.ensures.items)

reported_at : (c : After-set_free) → c.set_free.new.self.entries ≡ map (changed c.args.offer.agent (with_held c.args.offer.bundle)) c.self.inside.agents.entries
reported_at c =
    reported_held _ _ _ _ _ _ c.unwrap-agent.result.now (sym c.get.ensures.value ∙ ap option_copied c.unwrap-agent.ensures) c.in_ok-left.ensures
    c.in_ok-name.ensures c.set_free.ensures

pub unwrap-agent-requires : goal.unwrap-agent-requires
unwrap-agent-requires c =
    let t = c.self.inside in
    let consistent = consistent_at (goal.at.unwrap-agent-requires c).After-get in
    sym (is_some-copied c.get.result) ∙ ap is_some c.get.ensures.value ∙ sym (has_agent-rows_in t _) ∙ agent_of-offer (rows_in t) c.args.offer consistent

pub append-requires : goal.append-requires
unfolding rows_of
append-requires c =
    let t = c.self.inside in
    let o : OfferRow = c.args.offer in
    let made : c.push.new.self.items ≡ o ∷ [] = c.in_ok-push.ensures.items ∙ ap (λ (os : List OfferRow). os ++ o ∷ []) c.new-offers.ensures.items in
    subst (λ (os : List OfferRow). IsRising (map offer_number (t.holdings.offers ++ os))) (sym made)
    (rising_from (map offer_number (t.holdings.offers ++ o ∷ [])) t.next_offer (consistent_at (goal.at.append-requires c).After-get).numbered)

pub invariant_of-self-2 : goal.invariant_of-self-2
invariant_of-self-2 c =
    let t = c.self.inside in
    let at = goal.at.invariant_of-self-2 c in
    record {
      kept = kept-offer_put t c.self.invariant.kept c.set_free.new.self.entries c.append.new.self
          c.args.offer (reported_at at.After-set_free) (last_at at.After-set_free) c.append.ensures.tasks (consistent_at at.After-get);
      consumed = none_counted _ t.consumption (ap (λ (s : Stored). s.counted) c.self.view_is ∙ c.requires.uncounted);
    }

pub returns-clause-ok : goal.returns-clause-ok
returns-clause-ok c =
    let at = goal.at.returns-clause-ok c in
    rows-offer_put c.self.inside c.self.invariant.kept c.set_free.new.self.entries c.append.new.self
    c.args.offer (reported_at at.After-set_free) (last_at at.After-set_free) c.append.ensures.tasks
    ∙ ap (λ (s : Stored). offer_put s.rows c.args.offer) c.self.view_is

pub returns-clause-settled : goal.returns-clause-settled
returns-clause-settled c =
    ap is_settled (reported_at (goal.at.returns-clause-settled c).After-set_free)
    ∙ settled-held c.args.offer.agent c.args.offer.bundle c.self.inside.agents.entries ∙ ap (λ (s : Stored). s.settled) c.self.view_is

use Rattle.std.proofs.Common.{Option, Some, None, sym, subst, ◌≡◌, ◌+◌, ◌∷◌, ◌++◌, [], List, length, ap, ◌∙◌, arith}
use Rattle.std.specs.Prelude.{slice_get}
use Rattle.std.specs.List.{AllByRecursion}
use Rattle.std.specs.Option.{MatchOption, option_copied}
use Rattle.drf_role.specs.Path.{Path, role_part}
use Rattle.drf_bundle.specs.Bundle.{rest, quantities_of}
use Rattle.drf_bundle.proofs.ListLaws.{each_at}
use Rattle.drf_gates.specs.quota.Allowance.{Allowance, quota_under}
use Rattle.drf_rows.specs.Client.{path_of}
use Rattle.drf_rows.specs.Holdings.{holding_of_offer}
use Rattle.drf_rows.specs.declared.rows.OfferRow.{OfferRow}
use Rattle.drf_rows.specs.declared.rows.Rows.{Rows}
use Rattle.drf_sorter.specs.Content.{with_change, charged}
use Rattle.drf_tables.specs.cycle.Drafts.{with_offers}
use Rattle.drf_core.specs.cycle.Drafting.{IsRegisteredPath, IsTried}
use Rattle.drf_core.specs.cycle.Entitling.{IsKnown}
use Rattle.drf_core.specs.Working.{nodes_of, offered_to}
use Rattle.drf_core.proofs.stepping.Work.{nodes_of-drafted}
use Rattle.drf_core.proofs.drafting.Drafts.{with_offers-push}
use Rattle.drf_core.proofs.drafting.Tried.{IsNext, next_from, can_count_next, known_next, sound_next, drafting_next, tried_next, free_next, left_next, tried_nothing}
use Rattle.drf_core.proofs.cycle.try_first.Given as given
use Rattle.drf_core.proofs.cycle.try_first.Goals.{After-reserve, After-quantities}
use Rattle.drf_core.proofs.cycle.try_first.Goals as goal

-- the client is the first in the queue
first_at : (g : given.Over) (c : After-reserve g) → slice_get (g.S.Sorter.queue c.args.sorter.now) 0 ≡ Some c.in_ok-client.client
first_at g c =
    let reported : Some c.in-Some.client.now ≡ slice_get (g.S.Sorter.queue c.args.sorter.now) 0 = rw c.in-Some.is at c.first.ensures in
    sym reported ∙ ap Some (sym c.in_ok-client.ensures)

-- the row is that of the next draft
next_at : (g : given.Over) (c : After-reserve g)
    → IsNext (g.S.Sorter.content c.args.sorter.now) c.args.tables.now.rows c.args.drafts.now.offers.items c.args.place c.in_ok-client.client c.args.free.now.bundle
    c.in-Some-granted.bundle c.in_ok-offer.offer
next_at g c =
    next_from _ c.args.tables.now.rows c.args.drafts.now.offers.items c.args.place c.in_ok-client.client (quota_under c.args.tables.now.rows.limits c.args.drafts.now.consumption) c.args.free.now.bundle c.in-Some-granted.bundle c.in_ok-offer.offer
    (c.next_offer.result + c.len.result) c.agent_name-agent.result.now c.requires.turn.drafting (omega arith)
    c.requires.turn.is_free c.requires.turn.quota (each_at (IsRegisteredPath c.args.tables.now.rows) (g.S.Sorter.queue c.args.sorter.now) 0 c.in_ok-client.client c.requires.turn.clients (first_at g c))
    (λ rows agent client free name filters clock counted joined. sym c.in-Some-granted.is
    ∙ c.in_ok-granted.ensures.granted rows agent client free name filters clock (rw (c.as_ref-2.ensures.value ∙ c.quota_under-quota.ensures ∙ ap (quota_under c.args.tables.now.rows.limits) c.as_ref.ensures.value) counted) (sym c.in_ok-client.ensures ∙ joined))
    c.agent_name-agent.ensures
    (omega (arith, c.next_offer.ensures, c.len.ensures, c.args.drafts.now.offers.ok.0)) c.in_ok-offer.ensures

bundle_at : (g : given.Over) (c : After-quantities g) → c.quantities.result.now ≡ quantities_of c.in-Some-granted.bundle
bundle_at g c = c.quantities.ensures.value ∙ ap (λ (o : OfferRow). quantities_of o.bundle) (c.in_ok-offer.ensures)

pub grant-requires : goal.grant-requires
grant-requires g c = rw (c.as_ref-2.ensures.value ∙ c.quota_under-quota.ensures ∙ ap (quota_under c.args.tables.now.rows.limits) c.as_ref.ensures.value) c.requires.turn.known

pub count_offer-requires : goal.count_offer-requires
count_offer-requires g c =
    let b = (goal.at.count_offer-requires g c).After-reserve in
    can_count_next (next_at g b) c.args.tables.now.rows.limits c.args.drafts.now.consumption c.requires.turn.quota

pub charge-requires-clause-known : goal.charge-requires-clause-known
charge-requires-clause-known g c =
    let b = (goal.at.charge-requires-clause-known g c).After-reserve in
    known_next (next_at g b)

pub charge-requires-clause-sound : goal.charge-requires-clause-sound
charge-requires-clause-sound g c =
    let b = (goal.at.charge-requires-clause-sound g c).After-reserve in
    rw (bundle_at g c) (sound_next (next_at g b))

pub returns-clause-drafting : goal.returns-clause-drafting
returns-clause-drafting g c =
    let b = (goal.at.returns-clause-drafting g c).After-reserve in
    let content = g.S.Sorter.content c.args.sorter.now in
    let items = c.push_reserved.ensures.items ∙ ap (λ os. os ++ c.in_ok-offer.offer ∷ []) c.reserve.ensures.items in
    let charge : g.S.Sorter.content c.charge.new.self ≡ with_change content c.in_ok-client.client (charged (quantities_of c.in-Some-granted.bundle) 1) =
    c.in_ok-charge.ensures.ok ∙ ap (λ q. with_change content c.in_ok-client.client (charged q 1)) (bundle_at g (goal.at.returns-clause-drafting g c).After-quantities) in
    rw items (drafting_next (next_at g b) (g.S.Sorter.content c.charge.new.self) charge)

pub returns-clause-tried : goal.returns-clause-tried
returns-clause-tried g c = λ path first.
    let b = (goal.at.returns-clause-tried g c).After-reserve in
    let items = c.push_reserved.ensures.items ∙ ap (λ os. os ++ c.in_ok-offer.offer ∷ []) c.reserve.ensures.items in
    let same : c.in_ok-client.client ≡ path = let e : Some c.in_ok-client.client ≡ Some path = sym (first_at g b) ∙ first in cc in
    subst (λ (p : Path). IsTried (with_offers c.args.tables.now.rows c.args.drafts.now.offers.items) (with_offers c.args.tables.now.rows c.push_reserved.new.self.items) c.args.place p) same
    (rw items (tried_next (next_at g b)))

pub returns-clause-turn : goal.returns-clause-turn
returns-clause-turn g c =
    let b = (goal.at.returns-clause-turn g c).After-reserve in
    let rows : Rows = c.args.tables.now.rows in
    let offers = c.args.drafts.now.offers.items in
    let row : OfferRow = c.in_ok-offer.offer in
    let items = c.push_reserved.ensures.items ∙ ap (λ os. os ++ row ∷ []) c.reserve.ensures.items in
    let left = subst (λ o. MatchOption o (c.grant.new.free.bundle ≡ c.args.free.now.bundle) (λ bundle. c.grant.new.free.bundle ≡ rest c.args.free.now.bundle bundle)) c.in-Some-granted.is c.in_ok-granted.ensures.left in
    record {
      drafting = returns-clause-drafting g c;
      settled = c.requires.turn.settled;
      left = rw items (left_next (next_at g b) c.args.drafts.now.lefts.items c.grant.new.free.bundle left c.requires.turn.left);
      quota = rw (items, with_offers-push rows offers row) (c.in_ok-count_offer.ensures (with_offers rows offers) rows.limits c.requires.turn.quota);
      inside = c.requires.turn.inside;
      is_free = rw items (free_next (next_at g b) c.grant.new.free.bundle left);
      known =
          subst (λ o. MatchOption o (IsKnown (option_copied c.as_ref-2.result) c.grant.new.free) (λ _. (later : Option Allowance) → IsKnown later c.grant.new.free))
          c.in-Some-granted.is c.in_ok-granted.ensures.known (quota_under c.args.tables.now.rows.limits c.count_offer.new.consumption);
      clients = subst (AllByRecursion (IsRegisteredPath rows)) (sym c.charge.ensures.queue) c.requires.turn.clients;
    }

pub returns-in_default-granted-clause-turn : goal.returns-in_default-granted-clause-turn
returns-in_default-granted-clause-turn g c =
    let turn = c.requires.turn in
    let kept : c.grant.new.free.bundle ≡ c.args.free.now.bundle =
    subst (λ o. MatchOption o (c.grant.new.free.bundle ≡ c.args.free.now.bundle) (λ bundle. c.grant.new.free.bundle ≡ rest c.args.free.now.bundle bundle)) c.in_default-granted.is c.in_ok-granted.ensures.left in
    let known : IsKnown (option_copied c.as_ref-2.result) c.grant.new.free =
    subst (λ o. MatchOption o (IsKnown (option_copied c.as_ref-2.result) c.grant.new.free) (λ _. (later : Option Allowance) → IsKnown later c.grant.new.free))
    c.in_default-granted.is c.in_ok-granted.ensures.known in
    record {
      drafting = turn.drafting;
      settled = turn.settled;
      left = rw kept turn.left;
      quota = turn.quota;
      inside = turn.inside;
      is_free = rw kept turn.is_free;
      known = subst (λ q. IsKnown q c.grant.new.free) (c.as_ref-2.ensures.value ∙ c.quota_under-quota.ensures ∙ ap (quota_under c.args.tables.now.rows.limits) c.as_ref.ensures.value) known;
      clients = turn.clients;
    }

pub returns-in_default-granted-clause-tried : goal.returns-in_default-granted-clause-tried
returns-in_default-granted-clause-tried g c = λ path first.
    let rows : Rows = c.args.tables.now.rows in
    let same : c.in-Some.client.now ≡ path = let e : Some c.in-Some.client.now ≡ Some path = (rw c.in-Some.is at c.first.ensures) ∙ first in cc in
    tried_nothing rows c.args.drafts.now.offers.items c.args.place path (quota_under c.args.tables.now.rows.limits c.args.drafts.now.consumption) c.args.free.now.bundle c.agent_name-agent.result.now c.requires.turn.is_free c.requires.turn.quota
    (λ after agent client free name filters clock counted joined. sym c.in_default-granted.is
    ∙ c.in_ok-granted.ensures.granted after agent client free name filters clock (rw (c.as_ref-2.ensures.value ∙ c.quota_under-quota.ensures ∙ ap (quota_under c.args.tables.now.rows.limits) c.as_ref.ensures.value) counted) (same ∙ joined))
    c.agent_name-agent.ensures

-- what is known is about the role of the client that was tried
pub returns-clause-role : goal.returns-clause-role
returns-clause-role g c = λ role path reported first.
    let same : c.in-Some.client.now ≡ path = let e : Some c.in-Some.client.now ≡ Some path = (rw c.in-Some.is at c.first.ensures) ∙ first in cc in
    c.in_ok-granted.ensures.role role reported ∙ ap role_part same

pub returns-in_default-granted-clause-role : goal.returns-in_default-granted-clause-role
returns-in_default-granted-clause-role g c = λ role path reported first.
    let same : c.in-Some.client.now ≡ path = let e : Some c.in-Some.client.now ≡ Some path = (rw c.in-Some.is at c.first.ensures) ∙ first in cc in
    c.in_ok-granted.ensures.role role reported ∙ ap role_part same

-- the queue is empty
pub returns-in_default-clause-role : goal.returns-in_default-clause-role
returns-in_default-clause-role g c = λ role path reported first.
    let nothing : None ≡ Some path = (rw c.in_default.is at c.first.ensures) ∙ first in
    absurd cc

pub returns-in_default-clause-tried : goal.returns-in_default-clause-tried
returns-in_default-clause-tried g c = λ path first.
    let nothing : None ≡ Some path = (rw c.in_default.is at c.first.ensures) ∙ first in
    absurd cc

pub returns-clause-work : goal.returns-clause-work
returns-clause-work g c = λ counted.
    let b = (goal.at.returns-clause-work g c).After-reserve in
    let offer : OfferRow = c.in_ok-offer.offer in
    let items = c.push_reserved.ensures.items ∙ ap (λ os. os ++ offer ∷ []) c.reserve.ensures.items in
    let next = next_at g b in
    let path : length c.in_ok-client.client ≡ length (path_of (holding_of_offer offer).client) =
    ap length next.joined ∙ sym (ap (λ (o : OfferRow). length (path_of (holding_of_offer o).client)) next.made) in
    omega (
      arith,
      c.charge.ensures.spends.work counted,
      path,
      nodes_of-drafted c.args.drafts.now.offers.items offer,
      ap (λ (os : List OfferRow). nodes_of (offered_to os)) items,
    )

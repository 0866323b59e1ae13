use Rattle.std.proofs.Common.{◌≡◌, ◌==◌, Bool, List, [], ◌∷◌, Some, Option, map, refl, sym, ap, ◌∙◌, subst}
use Rattle.std.specs.Option.{option_map_or}
use Rattle.drf_row_laws.proofs.ReleaseLaws.{new_starts}
use Rattle.drf_rows.specs.Consistent.{IsFilter}
use Rattle.drf_rows.specs.Offers.{CanAccept, left_of_offer, offer_at, task_of, AreNew}
use Rattle.drf_rows.specs.declared.rows.FilterRow.{FilterRow}
use Rattle.drf_rows.specs.declared.rows.OfferRow.{OfferRow}
use Rattle.drf_rows.specs.declared.rows.Rows.{Rows}
use Rattle.drf_bundle.specs.declared.resource.Resource.{Resource}
use Rattle.drf_tables.specs.registry.Changing.{CanGiveBack, HasFreed}
use Rattle.drf_tables.specs.offers.Ended.{with_accepted}
use Rattle.drf_tables.specs.Inside.{rows_of, rows_in}
use Rattle.drf_tables.specs.limits.Recounting.{CountsAll}
use Rattle.drf_tables.specs.Stored.{Stored}
use Rattle.drf_tables.proofs.limits.Counts.{counts-same}
use Rattle.drf_tables.proofs.offers.Ended.{found_any, back-accepted, accepted-rows, accepted-kept}
use Rattle.drf_tables.proofs.tables.Kept.{AreDerived-clocked}
use Rattle.drf_tables.proofs.limits.Recounted.{accept_fits, counts-accepted}
use Rattle.drf_tables.proofs.tables.Tables.start.Goals as goal

pub start-requires-clause-there : goal.start-requires-clause-there
unfolding rows_of
start-requires-clause-there c =
    let t = c.self.inside in
    let test : OfferRow → Bool = λ o. o.number == c.args.number in
    let can : CanAccept (rows_in t) c.args.number c.args.tasks =
    subst (λ (s : Stored). CanAccept s.rows c.args.number c.args.tasks) (sym c.self.view_is) c.requires.can in
    found_any test t.holdings.offers can.offer can.at

pub start-requires-clause-new : goal.start-requires-clause-new
unfolding rows_of
start-requires-clause-new c = λ o found.
    let t = c.self.inside in
    let can : CanAccept (rows_in t) c.args.number c.args.tasks =
    subst (λ (s : Stored). CanAccept s.rows c.args.number c.args.tasks) (sym c.self.view_is) c.requires.can in
    let both : ◌≡◌ {A = Option OfferRow} (Some o) (Some can.offer) = sym found ∙ can.at in
    let same : o ≡ can.offer = cc in
    subst (λ (p : OfferRow). AreNew t.holdings.tasks (map (task_of p) c.args.tasks)) (sym same) (new_starts (rows_in t) can.offer c.args.tasks can.can)

pub give_back-requires : goal.give_back-requires
unfolding rows_of
give_back-requires c =
    let t = c.self.inside in
    let number = c.args.number in
    let can : CanAccept (rows_in t) number c.args.tasks =
    subst (λ (s : Stored). CanAccept s.rows number c.args.tasks) (sym c.self.view_is) c.requires.can in
    let rest : c.args.rest ≡ left_of_offer can.offer c.args.tasks =
    c.requires.rest can.offer (sym (ap (λ (s : Stored). offer_at s.rows number) c.self.view_is) ∙ can.at) in
    let both : ◌≡◌ {A = Option OfferRow} (Some c.in-Ok.offer) (Some can.offer) = sym c.in-Ok.ensures.ok.found ∙ can.at in
    let same : c.in-Ok.offer ≡ can.offer = cc in
    subst (λ (p : OfferRow × List Resource). CanGiveBack p.0.agent p.1 t.agents.entries) (λ i. (sym same i, sym rest i))
    (back-accepted t number c.args.tasks can.offer c.self.invariant.kept can.at c.requires.bundles can.can)

pub release_held-requires : goal.release_held-requires
unfolding rows_of
release_held-requires c =
    let t = c.self.inside in
    let number = c.args.number in
    let can : CanAccept (rows_in t) number c.args.tasks =
    subst (λ (s : Stored). CanAccept s.rows number c.args.tasks) (sym c.self.view_is) c.requires.can in
    let rest : c.args.rest ≡ left_of_offer can.offer c.args.tasks =
    c.requires.rest can.offer (sym (ap (λ (s : Stored). offer_at s.rows number) c.self.view_is) ∙ can.at) in
    let both : ◌≡◌ {A = Option OfferRow} (Some c.in-Ok.offer) (Some can.offer) = sym c.in-Ok.ensures.ok.found ∙ can.at in
    let same : c.in-Ok.offer ≡ can.offer = cc in
    accept_fits (rows_in t) t.consumption c.self.invariant.consumed number can.offer c.in-Ok.offer c.args.tasks c.args.rest
    c.self.invariant.kept.consistent can.at c.requires.bundles can.can same rest

pub invariant_of-self-in-Ok : goal.invariant_of-self-in-Ok
unfolding rows_of
invariant_of-self-in-Ok c =
    let t = c.self.inside in
    let number = c.args.number in
    let can : CanAccept (rows_in t) number c.args.tasks =
    subst (λ (s : Stored). CanAccept s.rows number c.args.tasks) (sym c.self.view_is) c.requires.can in
    let rest : c.args.rest ≡ left_of_offer can.offer c.args.tasks =
    c.requires.rest can.offer (sym (ap (λ (s : Stored). offer_at s.rows number) c.self.view_is) ∙ can.at) in
    let both : ◌≡◌ {A = Option OfferRow} (Some c.in-Ok.offer) (Some can.offer) = sym c.in-Ok.ensures.ok.found ∙ can.at in
    let same : c.in-Ok.offer ≡ can.offer = cc in
    let allowed = subst (λ (s : Stored). (f : FilterRow) → c.args.filter ≡ Some f → IsFilter s.rows.agents s.rows.frameworks f) (sym c.self.view_is) c.requires.filter in
    let entries = c.give_back.new.self.entries in
    let held = c.start.new.self in
    let filters = c.add_if.new.filters in
    let after = c.release_held.new.consumption in
    let more : List FilterRow = option_map_or (λ f. f ∷ []) c.args.filter [] in
    let rows : Rows = rows_of entries t.frameworks.entries held filters t.weights.entries t.limits t.clock t.next_offer t.events in
    let back = subst (λ (r : List Resource). HasFreed c.in-Ok.offer.agent r t.agents.entries entries) rest c.give_back.ensures in
    let reported = accepted-rows t entries held filters number c.args.tasks c.args.filter can.offer c.in-Ok.offer c.self.invariant.kept can.at
    c.in-Ok.ensures.ok back c.in_ok-add_if.ensures.ok in
    let counts : CountsAll (with_accepted (rows_in t) can.offer c.args.tasks c.args.filter) after =
    counts-accepted (rows_in t) t.consumption c.self.invariant.consumed number can.offer c.in-Ok.offer c.args.tasks c.args.rest
    c.self.invariant.kept.consistent can.at c.requires.bundles can.can same rest more after c.release_held.ensures.raised in
    record {
      kept = AreDerived-clocked rows entries t.total t.clients c.args.timestamp t.events c.requires.early
          (accepted-kept t entries held filters number c.args.tasks c.args.filter
          can.offer c.in-Ok.offer c.self.invariant.kept can.at c.in-Ok.ensures.ok back c.in_ok-add_if.ensures.ok
          c.requires.bundles can.can allowed);
      consumed = counts-same rows _ after (subst (λ (r : Rows). CountsAll r after) (sym reported) counts) refl (λ test label. refl);
    }

pub returns-in-Ok-clause-ok : goal.returns-in-Ok-clause-ok
unfolding rows_of
returns-in-Ok-clause-ok c = λ o at.
    let t = c.self.inside in
    let number = c.args.number in
    let found : offer_at (rows_in t) number ≡ Some o = ap (λ (s : Stored). offer_at s.rows number) c.self.view_is ∙ at in
    let entries = c.give_back.new.self.entries in
    let back = subst (λ (r : List Resource). HasFreed c.in-Ok.offer.agent r t.agents.entries entries) (c.requires.rest o at) c.give_back.ensures in
    let after : Rows = rows_of entries t.frameworks.entries c.start.new.self c.add_if.new.filters t.weights.entries t.limits t.clock t.next_offer t.events in
    let same : after ≡ with_accepted c.args.self.now.rows o c.args.tasks c.args.filter
    = accepted-rows t entries c.start.new.self c.add_if.new.filters number c.args.tasks c.args.filter
    o c.in-Ok.offer c.self.invariant.kept found c.in-Ok.ensures.ok back c.in_ok-add_if.ensures.ok
    ∙ ap (λ (s : Stored). with_accepted s.rows o c.args.tasks c.args.filter) c.self.view_is in
    λ i. record (same i) { clock = c.args.timestamp }

pub returns-in-Ok-clause-taken : goal.returns-in-Ok-clause-taken
unfolding rows_of
returns-in-Ok-clause-taken c = λ o at.
    let found : offer_at (rows_in c.self.inside) c.args.number ≡ Some o = ap (λ (s : Stored). offer_at s.rows c.args.number) c.self.view_is ∙ at in
    let both : ◌≡◌ {A = Option OfferRow} (Some c.in-Ok.offer) (Some o) = sym c.in-Ok.ensures.ok.found ∙ found in
    let same : c.in-Ok.offer ≡ o = cc in
    λ i. record { agent = (same i).agent; role = (same i).role; framework = (same i).framework; bundle = c.requires.rest o at i }

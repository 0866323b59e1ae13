use Rattle.std.proofs.Common.{◌≡◌, ℕ, ◌+◌, ◌++◌, List, true, map, length, sym, ap, ◌∙◌, subst, arith}
use Rattle.drf_tables.proofs.tables.Names.{IsConsistent, are_rising, OfferRow, Rows, counting_all, first_number, CountsAll, Stored}
use Rattle.drf_holdings.specs.Listed.{offer_number}
use Rattle.drf_holdings.proofs.RisingLaws.{rising_from}
use Rattle.drf_tables.proofs.DraftLaws.{next-with_offers, offers-with_offers}
use Rattle.drf_tables.specs.cycle.Drafts.{with_offers, frees_of, frees_after}
use Rattle.drf_tables.specs.Inside.{rows_of, rows_in, framework_rows, is_settled}
use Rattle.drf_tables.proofs.cycle.Counted.{CanCountAll-from}
use Rattle.drf_tables.proofs.cycle.Appended.{made_from}
use Rattle.drf_tables.proofs.tables.Fields.{rows_of-offers, agents_in}
use Rattle.drf_tables.proofs.tables.Kept.{AreDerived-with_offers, known-left, settled-left}
use Rattle.drf_tables.proofs.tables.Tables.commit.Goals.{After-first_number-first, After-offers_from, After-put_lefts}
use Rattle.drf_tables.proofs.tables.Tables.commit.Goals as goal

-- ---- the preconditions, in terms of the fields

consistent_at : (c : After-first_number-first) → IsConsistent (with_offers (rows_in c.self.inside) c.args.offers.now.items)
consistent_at c = subst (λ (s : Stored). IsConsistent (with_offers s.rows c.args.offers.now.items)) (sym c.self.view_is) c.requires.consistent

left_at : (c : After-first_number-first)
    → frees_after (frees_of (rows_in c.self.inside)) c.args.lefts.items ≡ frees_of (with_offers (rows_in c.self.inside) c.args.offers.now.items)
left_at c =
    subst (λ (s : Stored). frees_after (frees_of s.rows) c.args.lefts.items ≡ frees_of (with_offers s.rows c.args.offers.now.items))
    (sym c.self.view_is) c.requires.left

settled_at : (c : After-first_number-first) → is_settled c.self.inside.agents.entries ≡ true
settled_at c = ap (λ (s : Stored). s.settled) c.self.view_is ∙ c.requires.settled

-- the numbers of the new offers continue those of the old ones
risen_at : (c : After-first_number-first) → let offers : List OfferRow = c.args.offers.now.items in
    are_rising (map offer_number (c.self.inside.holdings.offers ++ offers)) (with_offers (rows_in c.self.inside) offers).next_offer ≡ true
unfolding rows_of
risen_at c =
    let rows = rows_in c.self.inside in
    let offers : List OfferRow = c.args.offers.now.items in
    ap (λ (os : List OfferRow). are_rising (map offer_number os) (with_offers rows offers).next_offer) (sym (offers-with_offers rows offers)) ∙ (consistent_at c).numbered

-- ---- the tables afterwards

made_at : (c : After-offers_from) → let offers : List OfferRow = c.args.offers.now.items in
    are_rising (map offer_number (c.self.inside.holdings.offers ++ offers)) (with_offers (rows_in c.self.inside) offers).next_offer ≡ true
    → c.offers_from.result ≡ offers
unfolding rows_of
made_at c risen =
    let t = c.self.inside in
    let offers : List OfferRow = c.args.offers.now.items in
    let first : c.first_number-first.result ≡ first_number offers t.next_offer =
    c.first_number-first.ensures ∙ ap (λ (os : List OfferRow). first_number os t.next_offer) c.deref.ensures.value in
    c.offers_from.ensures
    ∙ made_from t.holdings.offers offers c.append.new.self.offers c.first_number-first.result t.next_offer (with_offers (rows_in t) offers).next_offer
    c.self.invariant.kept.consistent.numbered risen first c.in_ok-append.ensures.ok

rows_at : (c : After-put_lefts) → let t = c.self.inside in let offers : List OfferRow = c.args.offers.now.items in
    c.offers_from.result ≡ offers
    → rows_of c.put_lefts.new.agents.entries c.count_offers.new.frameworks.entries c.append.new.self t.filters t.weights.entries
    t.limits t.clock (t.next_offer + length offers) t.events ≡ with_offers (rows_in t) offers
rows_at c made =
    rows_of-offers c.self.inside c.put_lefts.new.agents.entries c.count_offers.new.frameworks.entries
    c.append.new.self c.args.offers.now.items c.put_lefts.ensures.rows
    (c.count_offers.ensures ∙ ap (counting_all (framework_rows c.self.inside.frameworks.entries)) made) c.in_ok-append.ensures.ok c.append.ensures.tasks

pub append-requires : goal.append-requires
append-requires c =
    let b = (goal.at.append-requires c).After-first_number-first in
    rising_from _ (with_offers (rows_in c.self.inside) c.args.offers.now.items).next_offer (risen_at b)

pub count_offers-requires : goal.count_offers-requires
unfolding rows_of
count_offers-requires c =
    let t = c.self.inside in
    let at = goal.at.count_offers-requires c in
    let offers : List OfferRow = c.args.offers.now.items in
    let next = next-with_offers (rows_in t) offers in
    let view = ap (λ (s : Stored). (with_offers s.rows offers).next_offer) c.self.view_is in
    let few = c.self.invariant.kept.consistent.counted in
    rw (made_at at.After-offers_from (risen_at at.After-first_number-first)) (
    CanCountAll-from (length offers) (framework_rows t.frameworks.entries) (omega (arith, few, next, view, c.requires.fits))
    )

pub overflow_add-self : goal.overflow_add-self
unfolding rows_of
overflow_add-self c =
    let offers : List OfferRow = c.args.offers.now.items in
    let next = next-with_offers (rows_in c.self.inside) offers in
    let view = ap (λ (s : Stored). (with_offers s.rows offers).next_offer) c.self.view_is in
    omega (arith, next, view, c.len-made.ensures, c.args.offers.now.ok.0, c.requires.fits)

pub invariant_of-self-2 : goal.invariant_of-self-2
unfolding rows_of
invariant_of-self-2 c =
    let t = c.self.inside in
    let at = goal.at.invariant_of-self-2 c in
    let offers : List OfferRow = c.args.offers.now.items in
    let long : c.len-made.result ≡ length offers = omega (arith, c.len-made.ensures, c.args.offers.now.ok.0) in
    let rows = rows_at at.After-put_lefts (made_at at.After-offers_from (risen_at at.After-first_number-first)) in
    let known = known-left (rows_in t) t.agents.entries c.put_lefts.new.agents.entries offers c.args.lefts.items
    (agents_in t) c.put_lefts.ensures.rows (settled_at at.After-first_number-first) c.self.invariant.kept.free c.put_lefts.ensures.free (left_at at.After-first_number-first) in
    let counts : CountsAll (with_offers (rows_in t) offers) c.args.consumption =
    subst (λ (s : Stored). CountsAll (with_offers s.rows offers) c.args.consumption) (sym c.self.view_is) c.requires.consumption in
    let reported : ℕ → Rows = λ made.
    rows_of c.put_lefts.new.agents.entries c.count_offers.new.frameworks.entries c.append.new.self t.filters t.weights.entries
    t.limits t.clock (t.next_offer + made) t.events in
    record {
      kept = rw (long, rows) (
          AreDerived-with_offers (rows_in t) t.agents.entries c.put_lefts.new.agents.entries t.total t.clients offers
          c.self.invariant.kept (consistent_at at.After-first_number-first) known
          );
      consumed = subst (λ (r : Rows). CountsAll r c.args.consumption) (sym (ap reported long ∙ rows)) counts;
    }

pub returns-clause-ok : goal.returns-clause-ok
unfolding rows_of
returns-clause-ok c =
    let at = goal.at.returns-clause-ok c in
    let long : c.len-made.result ≡ length c.args.offers.now.items = omega (arith, c.len-made.ensures, c.args.offers.now.ok.0) in
    rw long (rows_at at.After-put_lefts (made_at at.After-offers_from (risen_at at.After-first_number-first)))
    ∙ ap (λ (s : Stored). with_offers s.rows c.args.offers.now.items) c.self.view_is

pub returns-clause-settled : goal.returns-clause-settled
returns-clause-settled c =
    let t = c.self.inside in
    let b = (goal.at.returns-clause-settled c).After-first_number-first in
    settled-left (rows_in t) t.agents.entries c.put_lefts.new.agents.entries c.args.offers.now.items c.args.lefts.items
    (agents_in t) c.put_lefts.ensures.rows (settled_at b) c.self.invariant.kept.free c.put_lefts.ensures.free (left_at b)

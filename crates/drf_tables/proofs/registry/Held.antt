-- The free resources of an agent after one more part is held.
use Rattle.std.specs.List.{AllByRecursion}
use Rattle.std.specs.Option.{option_map}
use Rattle.std.proofs.Common.{refl, sym, ap, subst, ◌∙◌, arith, ◌≡◌, ℕ, ◌+◌, ◌≤◌, Bool, true, false, ◌&&◌, List, [], ◌∷◌, ◌++◌, length, map, Option, Some, None, is_some, if◌then◌else◌, append-nil}
use Rattle.drf_tables.proofs.tables.Names.{Text, same_text, Key, IsBundle, rest, units, Entry, Resource, IsAgent, IsConsistent, IsHeld, clients_of, cluster_total, Holding, AreBundles, holdings_of, holding_of_offer, holding_of_task, parts_on, bundles-consistent, same_text-swap, AgentRow, OfferRow, Rows, changed, with_held, agent_row, is_settled, AreDerived, IsKnown, Agent}
use Rattle.drf_bundle.specs.Value.{Point}
use Rattle.drf_bundle.specs.Taken.{units_of_all, rest_of_all}
use Rattle.drf_bundle.specs.laws.BundleLaws.{known_by_units}
use Rattle.drf_bundle.proofs.theorems.RestLaws.{bundle-rest, units-rest}
use Rattle.drf_bundle.proofs.theorems.TakenLaws.{bundle-rest_of_all, units-rest_of_all}
use Rattle.drf_row_laws.proofs.ReleaseLaws.{IsOneLess, one-one_less, one_less-offer, one_less-task, parts_on-one_less, units-one_less}
use Rattle.drf_row_laws.proofs.HoldingsLaws.{each_part}
use Rattle.drf_rows.specs.declared.rows.TaskRow.{TaskRow}

-- ---- free resources

-- the old free resources without the part are the new ones, if the part is held too
held_free : (total part free : List Resource) (old new : List (List Resource))
    → IsBundle total → IsBundle part → AllByRecursion IsBundle old → AllByRecursion IsBundle new
    → ((key : Key) (p : Point) → units_of_all new key p ≡ units_of_all old key p + units part key p)
    → free ≡ rest_of_all total old → rest free part ≡ rest_of_all total new
held_free total part free old new is_total is_part each_old each_new more known =
    let is_free : IsBundle free = subst IsBundle (sym known) (bundle-rest_of_all total old is_total) in
    known_by_units (rest free part) (rest_of_all total new) (bundle-rest free part is_free) (bundle-rest_of_all total new is_total)
    (λ key p. omega (
      arith,
      units-rest free part key p is_free.in_order is_part.in_order,
      ap (λ (f : List Resource). units f key p) known,
      units-rest_of_all total old key p is_total each_old,
      units-rest_of_all total new key p is_total each_new,
      more key p,
    ))

-- one more offer or task is held
module _ (old new : List Holding) (h : Holding) (more : IsOneLess new old h) (is_part : IsBundle h.bundle)
    (each_old : AreBundles old) (each_new : AreBundles new) where
  more_there : (agent : Text) → same_text h.agent agent ≡ true → (key : Key) (p : Point)
      → units_of_all (parts_on agent new) key p ≡ units_of_all (parts_on agent old) key p + units h.bundle key p
  more_there agent here key p =
      units-one_less new old h more agent key p
      ∙ ap (λ (b : Bool). units_of_all (parts_on agent old) key p + (if b then units h.bundle key p else 0)) here

  there : (e : Text × Agent) → IsKnown old e → IsAgent (agent_row e) → same_text e.0 h.agent ≡ true
      → (was : Option (List Resource)) → e.1.free ≡ was → (free : List Resource)
      → option_map (λ known. rest known h.bundle) was ≡ Some free → free ≡ rest_of_all e.1.total (parts_on e.0 new)
  there e known agent here None is free left = cc
  there e known agent here (Some was) is free left =
      let it : rest was h.bundle ≡ free = cc in
      sym it
      ∙ held_free e.1.total h.bundle was (parts_on e.0 old) (parts_on e.0 new) agent.total is_part
      (each_part e.0 old each_old) (each_part e.0 new each_new)
      (more_there e.0 (same_text-swap h.agent e.0 ∙ here)) (known was is)

  known_one : (e : Text × Agent) → IsKnown old e → IsAgent (agent_row e) → (b : Bool) → same_text e.0 h.agent ≡ b
      → IsKnown new (if b then (e.0, with_held h.bundle e.1) else e)
  known_one e known agent false past = λ free is.
      known free is ∙ ap (rest_of_all e.1.total) (parts_on-one_less new old h more e.0 (same_text-swap h.agent e.0 ∙ past))
  known_one e known agent true here = λ free left. there e known agent here e.1.free refl free left

  pub known-held : (es : List (Text × Agent)) → AllByRecursion (IsKnown old) es → AllByRecursion IsAgent (map agent_row es)
      → AllByRecursion (IsKnown new) (map (changed h.agent (with_held h.bundle)) es)
  known-held [] known agents = tt
  known-held (e ∷ es) known agents =
      (known_one e known.0 agents.0 (same_text e.0 h.agent) refl, known-held es known.1 agents.1)

-- the rows do not change
pub rows-held : (name : Text) (part : List Resource) (es : List (Text × Agent))
    → map agent_row (map (changed name (with_held part)) es) ≡ map agent_row es
rows-held name part [] = refl
rows-held name part (e ∷ es) = λ i. by (same_text e.0 name) i ∷ rows-held name part es i
  where
    by : (b : Bool) → agent_row (if b then (e.0, with_held part e.1) else e) ≡ agent_row e
    by true = refl
    by false = refl

-- a change that keeps an agent's free resources known or unknown keeps all of them so
pub settled-changed : (name : Text) (change : Agent → Agent) → ((a : Agent) → is_some (change a).free ≡ is_some a.free)
    → (es : List (Text × Agent)) → is_settled (map (changed name change) es) ≡ is_settled es
settled-changed name change same [] = refl
settled-changed name change same (e ∷ es) = λ i. by (same_text e.0 name) i && settled-changed name change same es i
  where
    by : (b : Bool) → is_some (if b then (e.0, change e.1) else e).1.free ≡ is_some e.1.free
    by true = same e.1
    by false = refl

pub settled-held : (name : Text) (part : List Resource) (es : List (Text × Agent))
    → is_settled (map (changed name (with_held part)) es) ≡ is_settled es
settled-held name part = settled-changed name (with_held part) (λ a. by a.free)
  where
    by : (free : Option (List Resource)) → is_some (option_map (λ known. rest known part) free) ≡ is_some free
    by None = refl
    by (Some known) = refl

-- ---- all that is stored besides the rows

pub AreDerived-held : (old new : Rows) (agents : List (Text × Agent)) (sum : List Entry) (number : ℕ) (h : Holding)
    → IsConsistent new → IsOneLess (holdings_of new) (holdings_of old) h → new ≡ record old { offers = new.offers; tasks = new.tasks }
    → old.agents ≡ map agent_row agents → AreDerived old agents sum number
    → AreDerived new (map (changed h.agent (with_held h.bundle)) agents) sum number
AreDerived-held old new agents sum number h consistent more others stand kept = record {
  consistent = consistent;
  free = known-held (holdings_of old) (holdings_of new) h more
      (one-one_less (holdings_of new) (holdings_of old) h more (IsHeld new.agents new.frameworks) consistent.holdings).bundle
      (bundles-consistent old kept.consistent) (bundles-consistent new consistent) agents kept.free
      (subst (AllByRecursion IsAgent) stand kept.consistent.agents.each);
  total = kept.total ∙ sym (ap (λ (r : Rows). cluster_total r.agents) others);
  clients = kept.clients ∙ sym (ap (λ (r : Rows). length (clients_of r)) others);
  few = subst (λ (agents : List AgentRow). length agents ≤ 4096) (sym (ap (λ (r : Rows). r.agents) others)) kept.few;
}

-- ---- one more offer, or one more task

pub one_more-offer : (rows : Rows) (o : OfferRow) → IsOneLess (holdings_of (record rows { offers = rows.offers ++ o ∷ [] })) (holdings_of rows) (holding_of_offer o)
one_more-offer rows o =
    let new : Rows = record rows { offers = rows.offers ++ o ∷ [] } in
    subst (λ (os : List OfferRow). IsOneLess (holdings_of new) (holdings_of (record rows { offers = os })) (holding_of_offer o)) (append-nil rows.offers)
    (one_less-offer new rows.offers [] o refl)

pub one_more-task : (rows : Rows) (x : TaskRow) → IsOneLess (holdings_of (record rows { tasks = rows.tasks ++ x ∷ [] })) (holdings_of rows) (holding_of_task x)
one_more-task rows x =
    let new : Rows = record rows { tasks = rows.tasks ++ x ∷ [] } in
    subst (λ (ts : List TaskRow). IsOneLess (holdings_of new) (holdings_of (record rows { tasks = ts })) (holding_of_task x)) (append-nil rows.tasks)
    (one_less-task new rows.tasks [] x refl)

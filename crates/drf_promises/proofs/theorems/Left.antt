-- After a turn no client would be granted anything: a client that was granted something has taken all it could have,
-- and for the others less is left than they were refused.
use Rattle.std.specs.Prelude.{◌≡◌, ℕ, ◌+◌, ◌-◌, ◌≤◌, min, Bool, true, false, not, ◌&&◌, List, [], ◌∷◌, Some, None, if◌then◌else◌}
use Rattle.std.specs.List.{AllByRecursion}
use Rattle.std.specs.Option.{option_map_or}
use Rattle.std.proofs.Common.{refl, sym, ap, subst, ◌∙◌, inl, inr, cond, arith}
use Rattle.std.proofs.lemmas.Bool.{cases_Bool, and_parts}
use Rattle.drf_role.specs.Text.{Text, same_text}
use Rattle.drf_role.specs.TextLaws.{same_itself}
use Rattle.drf_role.specs.Parts.{parts_of}
use Rattle.drf_bundle.specs.Value.{Point, Thousandths, Number, Member}
use Rattle.drf_bundle.specs.Bundle.{Key, IsBundle, units}
use Rattle.drf_bundle.specs.laws.BundleLaws.{bundle-empty}
use Rattle.drf_bundle.proofs.theorems.RestLaws.{units-rest}
use Rattle.drf_bundle.specs.declared.resource.Resource.{Resource}
use Rattle.drf_rows.specs.Client.{Client}
use Rattle.drf_rows.specs.Cycle.{free_of, is_grantable, new_offer, with_offer, tried, all_tried}
use Rattle.drf_rows.specs.Filters.{is_held_back}
use Rattle.drf_rows.specs.Holdings.{holdings_of, AreBundles}
use Rattle.drf_rows.specs.Quota.{unreserved_in, consumption, is_within, binds, headroom_under, entitlement}
use Rattle.drf_row_laws.proofs.CycleLaws.{bundle-free_of, bundle-entitlement, free_of-with_offer, free_of-with_offer_other}
use Rattle.drf_row_laws.specs.EntitlementLaws.{units_for}
use Rattle.drf_row_laws.proofs.EntitlementLaws.{entitled_by_units}
use Rattle.drf_row_laws.proofs.HoldingsLaws.{each-with_offer}
use Rattle.drf_row_laws.proofs.QuotaLaws.{consumption-with_offer}
use Rattle.drf_rows.specs.declared.rows.AgentRow.{AgentRow}
use Rattle.drf_rows.specs.declared.rows.LimitRow.{LimitRow}
use Rattle.drf_rows.specs.declared.rows.OfferRow.{OfferRow}
use Rattle.drf_rows.specs.declared.rows.Rows.{Rows}
use Rattle.drf_promises.specs.Cycles.{GetsNothing}
use Rattle.drf_promises.proofs.theorems.Less.{IsBelow, LeavesLess, worth_falls, cut_falls, less_than_itself, less_and_less, nothing_stays}

-- ---- one more offer leaves less for every client

module _ (rows : Rows) (offer : OfferRow) (each : AreBundles (holdings_of rows)) (right : IsBundle offer.bundle) where
  free_falls : (agent : AgentRow) → IsBundle agent.total → IsBelow (free_of (with_offer rows offer) agent) (free_of rows agent)
  free_falls agent total key p = elim (cases_Bool (same_text offer.agent agent.name)) [
    | inl here ↦
        omega (
          arith,
          ap (λ (b : List Resource). units b key p) (free_of-with_offer rows offer agent total each right here),
          units-rest (free_of rows agent) offer.bundle key p (bundle-free_of rows agent total).in_order right.in_order,
        )
    | inr past ↦ omega (arith, ap (λ (b : List Resource). units b key p) (free_of-with_offer_other rows offer agent past))
  ]

  offer_leaves_less : (agent : AgentRow) → IsBundle agent.total → LeavesLess rows (with_offer rows offer) agent
  unfolding with_offer
  offer_leaves_less agent total = record {
    free = free_falls agent total;
    consumed = λ role label. omega (arith, consumption-with_offer (is_within role) rows offer label);
    limits = refl;
    filters = refl;
    clock = refl;
  }

-- ---- a client that was granted its whole entitlement has none left

module _ (rows : Rows) (agent : AgentRow) (client : Client) (total : IsBundle agent.total) (each : AreBundles (holdings_of rows)) where
  abbrev free : List Resource
  free = free_of rows agent

  abbrev part : List Resource
  part = entitlement rows free client

  abbrev offer : OfferRow
  offer = new_offer rows agent client part

  abbrev after : Rows
  after = with_offer rows offer

  is_free : IsBundle free
  is_free = bundle-free_of rows agent total

  is_part : IsBundle part
  is_part = bundle-entitlement rows free client is_free

  is_left : IsBundle (entitlement after (free_of after agent) client)
  is_left = bundle-entitlement after (free_of after agent) client (bundle-free_of after agent total)

  consumed_more : (label : Text) (l : LimitRow) → binds client.role label l ≡ true
      → consumption rows l.role label + unreserved_in label part ≤ consumption after l.role label
  consumed_more label l binding =
      let within = (and_parts (is_within l.role client.role) _ binding).0 in
      omega (
        arith,
        consumption-with_offer (is_within l.role) rows offer label,
        ap (λ b. cond b (unreserved_in label part) 0) within,
      )

  limits_stay : after.limits ≡ rows.limits
  unfolding with_offer
  limits_stay = refl

  -- of the free units that it did not get, the client can have none
  spent : (key : Key) (p : Point) (n e : ℕ) → e ≡ units part key p → e ≡ units_for rows client.role key p n
      → units_for after client.role key p (n - e) ≡ 0
  spent (label, []) Thousandths n e of_part its =
      omega (
        arith,
        ap (λ (ls : List LimitRow). option_map_or (min (n - e)) (headroom_under ls (consumption after) client.role label) (n - e)) limits_stay,
        cut_falls (consumption rows) (consumption after) client.role label e
            (λ l binding. omega (arith, consumed_more label l binding, of_part)) (n - e) n rows.limits (omega arith),
        its,
      )
  spent (label, []) (Number k) n e of_part its = omega (arith, its)
  spent (label, []) (Member k) n e of_part its = omega (arith, its)
  spent (label, byte ∷ bytes) p n e of_part its = by (is_within (parts_of (byte ∷ bytes)) client.role) its
    where
      by : (b : Bool) → e ≡ cond b n 0 → cond b (n - e) 0 ≡ 0
      by true all = omega (arith, all)
      by false none = refl

  none_left : IsBelow (entitlement after (free_of after agent) client) []
  none_left key p =
      let rest : units (free_of after agent) key p ≡ units free key p - units part key p =
      ap (λ (b : List Resource). units b key p) (free_of-with_offer rows offer agent total each is_part (same_itself agent.name))
      ∙ units-rest free part key p is_free.in_order is_part.in_order in
      omega (
        arith,
        entitled_by_units after (free_of after agent) client key p (bundle-free_of after agent total),
        ap (units_for after client.role key p) rest,
        spent key p (units free key p) (units part key p) refl (entitled_by_units rows free client key p is_free),
      )

  nothing_left : GetsNothing after agent client
  nothing_left =
      let left : List Resource = entitlement after (free_of after agent) client in
      ap (λ b. if b && not (is_held_back after.filters after.clock client agent.name left) then Some left else None)
      (worth_falls left [] is_left bundle-empty none_left refl)

  -- ---- the client is tried

  abbrev after_if : Bool → Rows
  after_if b = option_map_or (λ bundle. with_offer rows (new_offer rows agent client bundle)) (if b then Some part else None) rows

  tried_leaves_less : (other : AgentRow) → IsBundle other.total → LeavesLess rows (tried rows agent client) other
  tried_leaves_less other right = by (is_grantable rows agent client part)
    where
      by : (b : Bool) → LeavesLess rows (after_if b) other
      by true = offer_leaves_less rows offer each is_part other right
      by false = less_than_itself rows other

  tried_bundles : AreBundles (holdings_of (tried rows agent client))
  tried_bundles = by (is_grantable rows agent client part)
    where
      by : (b : Bool) → AreBundles (holdings_of (after_if b))
      by true = each-with_offer (λ h. IsBundle h.bundle) rows offer each is_part
      by false = each

  tried_gets_nothing : GetsNothing (tried rows agent client) agent client
  tried_gets_nothing = by (is_grantable rows agent client part) refl
    where
      by : (b : Bool) → is_grantable rows agent client part ≡ b → GetsNothing (after_if b) agent client
      by true is = nothing_left
      by false is = ap (λ b. if b then Some part else None) is

-- ---- clients are tried

module _ (agent : AgentRow) (total : IsBundle agent.total) where
  pub all_tried_less : (rows : Rows) (clients : List Client) (other : AgentRow) → IsBundle other.total → AreBundles (holdings_of rows)
      → LeavesLess rows (all_tried rows agent clients) other
  all_tried_less rows [] other right each = less_than_itself rows other
  all_tried_less rows (client ∷ clients) other right each =
      less_and_less rows (tried rows agent client) (all_tried (tried rows agent client) agent clients) other
      (tried_leaves_less rows agent client total each other right)
      (all_tried_less (tried rows agent client) clients other right (tried_bundles rows agent client total each))

  -- the clients that were tried would be granted nothing more
  pub all_get_nothing : (rows : Rows) (clients : List Client) → AreBundles (holdings_of rows) → AllByRecursion (λ f. IsBundle f.bundle) rows.filters
      → AllByRecursion (GetsNothing (all_tried rows agent clients) agent) clients
  all_get_nothing rows [] each filters = tt
  all_get_nothing rows (client ∷ clients) each filters =
      let next : Rows = tried rows agent client in
      let bundles = tried_bundles rows agent client total each in
      let right : AllByRecursion (λ f. IsBundle f.bundle) next.filters =
      subst (AllByRecursion (λ f. IsBundle f.bundle)) (sym (tried_leaves_less rows agent client total each agent total).filters) filters in (
        nothing_stays next (all_tried next agent clients) agent client (all_tried_less next clients agent total bundles) total right
            (tried_gets_nothing rows agent client total each),
        all_get_nothing next clients bundles right,
      )

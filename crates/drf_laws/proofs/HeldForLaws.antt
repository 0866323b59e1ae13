-- Lemmas about `specs/HeldForLaws.antt`.
use Rattle.std.specs.Prelude.{◌≡◌, ℕ, ◌≤◌, Bool, true, not, List, [], ◌∷◌, map, filter, Option, Some, None}
use Rattle.std.specs.List.{AllByRecursion}
use Rattle.std.specs.Option.{option_map_or}
use Rattle.std.proofs.Common.{refl, sym, ap, subst, ◌∙◌, cond, arith}
use Rattle.std.proofs.lemmas.List.Sums.{sum_by-cons}
use Rattle.drf_bundle.specs.Value.{Point}
use Rattle.drf_bundle.specs.Bundle.{Key, IsBundle, units}
use Rattle.drf_bundle.specs.Taken.{units_of_all}
use Rattle.drf_bundle.specs.declared.resource.Resource.{Resource}
use Rattle.drf_rows.specs.Client.{Client}
use Rattle.drf_rows.specs.Holdings.{Holding, holding_of_offer, holding_of_task, holdings_of}
use Rattle.drf_row_laws.proofs.HoldingsLaws.{each-with_offer}
use Rattle.drf_rows.specs.Cycle.{free_of, new_offer, turn_order, at_timestamp, cycle}
use Rattle.drf_row_laws.proofs.FrameLaws.{its_part, Any, turns_keep}
use Rattle.drf_row_laws.proofs.CycleLaws.{bundle-free_of}
use Rattle.drf_rows.specs.Consistent.{IsAgent, IsConsistent}
use Rattle.drf_rows.specs.Releases.{Release, ends_offer, ends_task, without_ended, one_offer, one_task, offers_on, all_on, all_of}
use Rattle.drf_row_laws.proofs.ReleaseLaws.{started_by, accepted_in, between, offer_out, tasks_last, offer_held, each-one_less, one-one_less}
use Rattle.drf_row_laws.proofs.EntitlementLaws.{entitled_by_units}
use Rattle.drf_laws.proofs.ConsumptionLaws.{covered-accept}
use Rattle.drf_bundle.proofs.ListLaws.{each_from, each_append, each_parts, each_map, each_filter, each_true}
use Rattle.drf_rows.specs.Offers.{offer_at, offer_accepted, offer_declined}
use Rattle.drf_rows.specs.Step.{effect}
use Rattle.drf_rows.proofs.TaskLaws.{units-covers_all}
use Rattle.drf_rows.specs.Tasks.{Start, uses, covers_all}
use Rattle.drf_rows.specs.declared.event.Event.TheVariants.{RemoveAgent, DeactivateAgent, RemoveFramework, Accept, Decline, Rescind, Finish, Cycle}
use Rattle.drf_rows.specs.declared.rows.AgentRow.{AgentRow}
use Rattle.drf_rows.specs.declared.rows.OfferRow.{OfferRow}
use Rattle.drf_rows.specs.declared.rows.TaskRow.{TaskRow}
use Rattle.drf_rows.specs.declared.rows.Rows.{Rows}
use Rattle.drf_laws.specs.HeldForLaws.{IsForItsRole, ReservedIsHeldByItsRole}

each_of : {X Y : Type 0} (P : Y → Type 0) (g : X → Y) (xs : List X) → AllByRecursion P (map g xs) → AllByRecursion (λ x. P (g x)) xs
each_of P g [] all = tt
each_of P g (x ∷ xs) all = (all.0, each_of P g xs all.1)

-- ---- release of resources

left_for : (rows : Rows) (release : Release) → AllByRecursion IsForItsRole (holdings_of rows)
    → AllByRecursion IsForItsRole (holdings_of (without_ended rows release))
left_for rows release all =
    let p : OfferRow → Bool = λ o. not (ends_offer release o) in
    let q : TaskRow → Bool = λ t. not (ends_task release t) in
    let parts = each_parts IsForItsRole (map holding_of_offer rows.offers) (map holding_of_task rows.tasks) all in
    each_append IsForItsRole (map holding_of_offer (filter p rows.offers)) (map holding_of_task (filter q rows.tasks))
    (each_map IsForItsRole holding_of_offer (filter p rows.offers)
    (each_filter (λ o. IsForItsRole (holding_of_offer o)) p rows.offers (each_of IsForItsRole holding_of_offer rows.offers parts.0)))
    (each_map IsForItsRole holding_of_task (filter q rows.tasks)
    (each_filter (λ t. IsForItsRole (holding_of_task t)) q rows.tasks (each_of IsForItsRole holding_of_task rows.tasks parts.1)))

-- ---- accepting

started_for : (o : OfferRow) (starts : List Start) → IsForItsRole (holding_of_offer o)
    → ((key : Key) (p : Point) → units_of_all (uses starts) key p ≤ units o.bundle key p)
    → AllByRecursion IsForItsRole (started_by o starts)
started_for o [] its has = tt
started_for o (s ∷ starts) its has = (
  λ label byte bytes p apart.
      omega (
        arith,
        has (label, byte ∷ bytes) p,
        its label byte bytes p apart,
        sum_by-cons (λ (part : List Resource). units part (label, byte ∷ bytes) p) s.1 (uses starts),
      ),
  started_for o starts its
      (λ key p. omega (arith, has key p, sum_by-cons (λ (part : List Resource). units part key p) s.1 (uses starts))),
)

accepted_for : (rows : Rows) (number : ℕ) (o : OfferRow) (starts : List Start) → IsConsistent rows
    → offer_at rows number ≡ Some o → AllByRecursion IsBundle (uses starts) → covers_all o.bundle (uses starts) ≡ true
    → AllByRecursion IsForItsRole (holdings_of rows) → AllByRecursion IsForItsRole (holdings_of (accepted_in rows o starts []))
accepted_for rows number o starts consistent found each covered all =
    let less = offer_out rows number o starts [] consistent found in
    let left : List Holding = between rows number o starts [] consistent found in
    let is : IsBundle o.bundle = (offer_held rows number o starts [] consistent found).bundle in
    let has = units-covers_all o.bundle (uses starts) is each covered in
    subst (AllByRecursion IsForItsRole) (sym (tasks_last rows number o starts [] consistent found))
    (each_append IsForItsRole left (started_by o starts)
    (each-one_less (holdings_of rows) left (holding_of_offer o) less IsForItsRole all)
    (started_for o starts (one-one_less (holdings_of rows) left (holding_of_offer o) less IsForItsRole all) has))

-- ---- a cycle

granted_for : (client : Client) (rows : Rows) (agent : AgentRow) → IsBundle agent.total
    → IsForItsRole (holding_of_offer (new_offer rows agent client (its_part rows agent client)))
granted_for client rows agent right label byte bytes p apart =
    let free : List Resource = free_of rows agent in
    entitled_by_units rows free client (label, byte ∷ bytes) p (bundle-free_of rows agent right)
    ∙ ap (λ (b : Bool). cond b (units free (label, byte ∷ bytes) p) 0) apart

cycle_for : (rows : Rows) (at : ℕ) → IsConsistent rows → AllByRecursion IsForItsRole (holdings_of rows)
    → AllByRecursion IsForItsRole (holdings_of (cycle rows at))
unfolding cycle
cycle_for rows at consistent all =
    let totals = each_from IsAgent (λ a. IsBundle a.total) rows.agents (λ a right. right.total) consistent.agents.each in
    turns_keep (λ r. AllByRecursion IsForItsRole (holdings_of r)) (λ a. IsBundle a.total) Any (λ r all. each_true (turn_order r))
    (λ r agent client right known is all.
    each-with_offer IsForItsRole r (new_offer r agent client (its_part r agent client)) all (granted_for client r agent right))
    (at_timestamp rows at) (filter (λ a. a.active) rows.agents)
    (each_filter (λ a. IsBundle a.total) (λ a. a.active) rows.agents totals) all

-- ---- each event

pub reserved_is_held_by_its_role : ReservedIsHeldByItsRole
unfolding effect
reserved_is_held_by_its_role limits rows (RemoveAgent agent) consistent given accepted all = left_for rows (all_on agent) all
reserved_is_held_by_its_role limits rows (DeactivateAgent agent) consistent given accepted all = left_for rows (offers_on agent) all
reserved_is_held_by_its_role limits rows (RemoveFramework framework) consistent given accepted all = left_for rows (all_of framework) all
reserved_is_held_by_its_role limits rows (Accept a) consistent given accepted all = by (offer_at rows a.offer) refl
  where
    by : (f : Option OfferRow) → offer_at rows a.offer ≡ f
        → AllByRecursion IsForItsRole (holdings_of (option_map_or (λ o. offer_accepted (at_timestamp rows a.at) o a.tasks a.refuse_ms) f rows))
    by None found = all
    by (Some o) found =
        accepted_for rows a.offer o a.tasks consistent found given (covered-accept limits rows a o found accepted) all
reserved_is_held_by_its_role limits rows (Decline d) consistent given accepted all = by (offer_at rows d.offer)
  where
    by : (f : Option OfferRow)
        → AllByRecursion IsForItsRole (holdings_of (option_map_or (λ o. offer_declined (at_timestamp rows d.at) o d.refuse_ms) f rows))
    by None = all
    by (Some o) = left_for rows (one_offer o.number) all
reserved_is_held_by_its_role limits rows (Rescind offer) consistent given accepted all = left_for rows (one_offer offer) all
reserved_is_held_by_its_role limits rows (Finish framework task) consistent given accepted all = left_for rows (one_task framework task) all
reserved_is_held_by_its_role limits rows (Cycle at) consistent given accepted all = cycle_for rows at consistent all
reserved_is_held_by_its_role limits rows event consistent given accepted all = all

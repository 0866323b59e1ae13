-- Offers and tasks stay until an event ends them, and reserved resources are held only by their role and those below
-- it.
use Rattle.std.specs.Prelude.{◌≡◌, zero, suc, Bool, true, false, List, [], ◌∷◌, ◌++◌, map, filter, Option, Some, None}
use Rattle.std.specs.Option.{option_map_or}
use Rattle.std.proofs.Common.{refl, sym, ap, subst, ◌∙◌, inl, inr, cond}
use Rattle.std.proofs.lemmas.Bool.{cases_Bool}
use Rattle.drf_rows.specs.Cycle.{at_timestamp}
use Rattle.drf_rows.specs.Offers.{offer_at, offer_accepted}
use Rattle.drf_rows.specs.Step.{opening, effect, rows_after}
use Rattle.drf_laws.proofs.EndedLaws.{accepted_starts_tasks}
use Rattle.drf_row_laws.proofs.FrameLaws.{step_keeps}
use Rattle.drf_row_laws.specs.LifeLaws.{other_offers, other_tasks, task_started}
use Rattle.drf_row_laws.proofs.OthersLaws.{cycle_only_offers, ended_is_gone}
use Rattle.drf_row_laws.proofs.RegistrationLaws.{IsConsistent-opening}
use Rattle.drf_rows.specs.declared.event.Accept as accepting
use Rattle.drf_rows.specs.declared.event.Event.{Event}
use Rattle.drf_rows.specs.declared.event.Event.TheVariants.{RemoveAgent, DeactivateAgent, RemoveFramework, Accept, Decline, Rescind, Finish, Cycle}
use Rattle.drf_rows.specs.declared.rows.OfferRow.{OfferRow}
use Rattle.drf_rows.specs.declared.rows.TaskRow.{TaskRow}
use Rattle.drf_rows.specs.declared.rows.Rows.{Rows}
use Rattle.drf_laws.proofs.theorems.Runs.{own_after_all}
use Rattle.drf_promises.specs.Runs.{Has, SparesOffer, SparesTask, OffersStand, TasksStand, ReservedIsItsRoles}

-- ---- membership in a list

has_before : {X : Type 0} (xs ys : List X) (x : X) → Has xs x → Has (xs ++ ys) x
has_before [] ys x (place, at) = cc
has_before (z ∷ zs) ys x (zero, at) = (0, at)
has_before (z ∷ zs) ys x (suc place, at) = let later = has_before zs ys x (place, at) in (suc later.0, later.1)

has_passed : {X : Type 0} (p : X → Bool) (xs : List X) (x : X) → Has xs x → p x ≡ true → Has (filter p xs) x
has_passed p [] x (place, at) passes = cc
has_passed p (y ∷ ys) x (zero, at) passes =
    let same : y ≡ x = cc in
    rw (ap p same ∙ passes) (0, at)
has_passed p (y ∷ ys) x (suc place, at) passes =
    let later = has_passed p ys x (place, at) passes in
    elim (cases_Bool (p y)) [
      | inl here ↦ rw here (suc later.0, later.1)
      | inr past ↦ rw past later
    ]

-- an element that passes a filter on its own passes it in a list
has_spared : {X : Type 0} (p : X → Bool) (xs : List X) (x : X) → Has xs x → filter p (x ∷ []) ≡ x ∷ [] → Has (filter p xs) x
has_spared {X} p xs x has spared = has_passed p xs x has (by (p x) spared)
  where
    by : (b : Bool) → ◌≡◌ {A = List X} (cond b (x ∷ []) []) (x ∷ []) → b ≡ true
    by true kept = refl
    by false gone = cc

-- ---- offers

abbrev HasOffer : OfferRow → Rows → Type 0
HasOffer o rows = Has rows.offers o

others_have_offer : (event : Event) (os : List OfferRow) (o : OfferRow) → Has os o → SparesOffer o event → Has (other_offers event os) o
others_have_offer (RemoveAgent agent) os o has spared = has_spared _ os o has spared
others_have_offer (DeactivateAgent agent) os o has spared = has_spared _ os o has spared
others_have_offer (RemoveFramework framework) os o has spared = has_spared _ os o has spared
others_have_offer (Accept a) os o has spared = has_spared _ os o has spared
others_have_offer (Decline d) os o has spared = has_spared _ os o has spared
others_have_offer (Rescind offer) os o has spared = has_spared _ os o has spared
others_have_offer other os o has spared = has

offer_stays : (rows : Rows) (event : Event) (o : OfferRow) → Has rows.offers o → SparesOffer o event → HasOffer o (effect rows event)
unfolding effect
offer_stays rows (Cycle at) o has spared = subst (λ (os : List OfferRow). Has os o) (sym (cycle_only_offers rows at).offers) (has_before rows.offers _ o has)
offer_stays rows event o has spared =
    subst (λ (os : List OfferRow). Has os o) (sym ((ended_is_gone rows event).offers refl)) (others_have_offer event rows.offers o has spared)

pub offers_stand : OffersStand
offers_stand limits rows [] o has spared = has
offers_stand limits rows (event ∷ events) o has spared =
    offers_stand limits (rows_after limits rows event) events o
    (step_keeps (HasOffer o) limits rows event has (offer_stays rows event o has spared.0)) spared.1

-- ---- tasks

abbrev HasTask : TaskRow → Rows → Type 0
HasTask t rows = Has rows.tasks t

others_have_task : (event : Event) (ts : List TaskRow) (t : TaskRow) → Has ts t → SparesTask t event → Has (other_tasks event ts) t
others_have_task (RemoveAgent agent) ts t has spared = has_spared _ ts t has spared
others_have_task (RemoveFramework framework) ts t has spared = has_spared _ ts t has spared
others_have_task (Finish framework task) ts t has spared = has_spared _ ts t has spared
others_have_task other ts t has spared = has

-- an accept adds its tasks after those that run
accept_has : (rows : Rows) (a : accepting.Accept) (t : TaskRow) → Has rows.tasks t → (found : Option OfferRow) → offer_at rows a.offer ≡ found
    → HasTask t (effect rows (Accept a))
unfolding effect
accept_has rows a t has None none =
    subst (HasTask t) (sym (ap (λ (f : Option OfferRow). option_map_or (λ o. offer_accepted (at_timestamp rows a.at) o a.tasks a.refuse_ms) f rows) none)) has
accept_has rows a t has (Some o) found =
    subst (HasTask t) (sym (accepted_starts_tasks rows a o found).nothing_else) (has_before rows.tasks (map (task_started o) a.tasks) t has)

task_stays : (rows : Rows) (event : Event) (t : TaskRow) → Has rows.tasks t → SparesTask t event → HasTask t (effect rows event)
task_stays rows (Accept a) t has spared = accept_has rows a t has (offer_at rows a.offer) refl
task_stays rows event t has spared =
    subst (λ (ts : List TaskRow). Has ts t) (sym ((ended_is_gone rows event).tasks refl)) (others_have_task event rows.tasks t has spared)

pub tasks_stand : TasksStand
tasks_stand limits rows [] t has spared = has
tasks_stand limits rows (event ∷ events) t has spared =
    tasks_stand limits (rows_after limits rows event) events t
    (step_keeps (HasTask t) limits rows event has (task_stays rows event t has spared.0)) spared.1

-- ---- reserved resources

pub reserved_is_its_roles : ReservedIsItsRoles
reserved_is_its_roles limits events given = own_after_all limits opening events IsConsistent-opening given tt

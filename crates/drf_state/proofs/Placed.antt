-- What an allowed row requires, and that the parts agree after it is added.
use Rattle.std.proofs.Common.{◌≡◌, ℕ, ◌+◌, ◌*◌, ◌^◌, ◌<◌, ◌≤◌, Bool, true, false, List, [], ◌∷◌, ◌++◌, None, length, map, refl, sym, ap, subst, ◌∙◌, nat_lt, nat_le, arith}
use Rattle.std.specs.Prelude.{not, ◌&&◌, filter, sum_by}
use Rattle.std.specs.List.{list_all, list_any, AllByRecursion}
use Rattle.std.proofs.lemmas.Bool.{and_parts, leb-false, leb-true, lt-ltb, ltb-false, ltb-true, not-false, or_parts}
use Rattle.std.proofs.lemmas.List.{map-append}
use Rattle.std.proofs.lemmas.List.Elements.{filter-append}
use Rattle.std.proofs.lemmas.List.Folds.{list_all-append}
use Rattle.std.proofs.lemmas.List.Sums.{sum_by-append}
use Rattle.drf_role.specs.Text.{Text, same_text}
use Rattle.drf_role.specs.TextLaws.{same_itself}
use Rattle.drf_role.specs.Path.{Path, same_path}
use Rattle.drf_bundle.specs.Bundle.{is_default}
use Rattle.drf_bundle.specs.declared.quantities.Entry.{Entry}
use Rattle.drf_bundle.specs.declared.resource.Resource.{Resource}
use Rattle.drf_rows.specs.Client.{path_of}
use Rattle.drf_rows.specs.Consistent.{AreLimits, IsAgent, IsConsistent, IsHeld, are_distinct_roles, offers_counted}
use Rattle.drf_rows.specs.Filters.{in_force, is_in_force}
use Rattle.drf_rows.specs.Holdings.{Holding, holding_of_offer, holding_of_task}
use Rattle.drf_rows.specs.LimitNumbers.{LimitNumbers, IsWithinCeilings}
use Rattle.drf_rows.specs.Members.{active_at}
use Rattle.drf_rows.specs.Quota.{limits_put, limits_with}
use Rattle.drf_rows.specs.Step.{live_rows}
use Rattle.drf_bundle.proofs.ListLaws.{each_parts}
use Rattle.drf_rows.specs.declared.limits.TheConstants.{LATEST_TIMESTAMP}
use Rattle.drf_rows.specs.declared.rows.AgentRow.{AgentRow}
use Rattle.drf_rows.specs.declared.rows.FrameworkRow.{FrameworkRow}
use Rattle.drf_rows.specs.declared.rows.LimitRow.{LimitRow}
use Rattle.drf_rows.specs.declared.rows.OfferRow.{OfferRow}
use Rattle.drf_rows.specs.declared.rows.TaskRow.{TaskRow}
use Rattle.drf_rows.specs.declared.rows.Rows.{Rows}
use Rattle.drf_sorter.specs.Content.{Content, IsSound, has_client}
use Rattle.drf_content.specs.Content.{content_of}
use Rattle.drf_content.specs.Putting.{CanAllBeBack, IsNew, with_put}
use Rattle.drf_content.proofs.theorems.Back.{clients_can_be_back}
use Rattle.drf_content.proofs.theorems.Members.{has_client-registered}
use Rattle.drf_content.proofs.theorems.Sound.{IsSound-content_of}
use Rattle.drf_content.proofs.theorems.Put.{content_of-with_row}
use Rattle.drf_core.specs.Keeping.{IsStanding}
use Rattle.drf_saved.specs.Saved.{IsTyped, begun, head_fault, row_cases, row_fault, with_row}
use Rattle.drf_saved.specs.declared.saved.Head.{Head}
use Rattle.drf_saved.specs.declared.saved.SavedRow.{SavedRow}
use Rattle.drf_saved.specs.declared.saved.SavedRow.TheVariants.{Agent, Framework, Weight, Limit, Offer, Task, Filter}
use Rattle.drf_saved_laws.specs.SavedLaws.{IsSaveable}
use Rattle.drf_saved_laws.proofs.theorems.Faults.{NoneHolds, no_head_case, no_row_case}
use Rattle.drf_saved_laws.proofs.theorems.Saveable.{head_is_saveable, row_keeps_saveable}
use Rattle.drf_state.specs.Placing.{FitsBehind, IsApart, IsPlaced}
use Rattle.drf_state.specs.Restored.{IsRestored, PartsAgree}
use Rattle.drf_tables.specs.Stored.{Stored}

-- ---- a row without an error

apart_of : (limits : LimitNumbers) (rows : Rows) (row : SavedRow) → NoneHolds (row_cases limits rows row) → IsApart rows row
apart_of limits rows (Agent a) none = none.1.0
apart_of limits rows (Framework f) none = none.1.0
apart_of limits rows (Weight w) none = none.1.0
apart_of limits rows (Limit l) none = none.1.1.1.0
apart_of limits rows (Offer o) none = tt
apart_of limits rows (Task t) none = tt
apart_of limits rows (Filter f) none =
    lt-ltb rows.clock f.until (leb-false f.until rows.clock (or_parts (nat_le f.until rows.clock) (nat_le (2 ^ 63) f.until) none.1.1.1.0).0)

next_offer_stays : (rows : Rows) (row : SavedRow) → (with_row rows row).next_offer ≡ rows.next_offer
next_offer_stays rows (Agent a) = refl
next_offer_stays rows (Framework f) = refl
next_offer_stays rows (Weight w) = refl
next_offer_stays rows (Limit l) = refl
next_offer_stays rows (Offer o) = refl
next_offer_stays rows (Task t) = refl
next_offer_stays rows (Filter f) = refl

pub fits_behind : (limits : LimitNumbers) (tables : Stored) (content : Content) (counted : ℕ) (row : SavedRow)
    → IsRestored limits tables content counted → IsTyped row → row_fault limits tables.rows row ≡ None
    → FitsBehind tables.rows row
fits_behind limits tables content counted row restored typed stands =
    let rows : Rows = tables.rows in
    let can = row_keeps_saveable limits rows row restored.saveable typed stands in
    record {
      consistent = restored.saveable.consistent;
      together = can.consistent;
      agents = omega (arith, can.within.agents, restored.ceilings.agents.1);
      clients = omega (arith, can.within.clients, restored.ceilings.clients.1);
      next_offer = omega (arith, restored.saveable.numbered, restored.saveable.within.events, restored.ceilings.events.1);
      apart = apart_of limits rows row (no_row_case limits rows row stands);
    }

-- ---- the parts after a row is added

-- no filter has expired
live_with : (rows : Rows) (row : SavedRow) → live_rows rows ≡ rows → IsApart rows row → live_rows (with_row rows row) ≡ with_row rows row
live_with rows (Agent a) live apart = λ i. record (with_row rows (Agent a)) { filters = (live i).filters }
live_with rows (Framework f) live apart = λ i. record (with_row rows (Framework f)) { filters = (live i).filters }
live_with rows (Weight w) live apart = λ i. record (with_row rows (Weight w)) { filters = (live i).filters }
live_with rows (Limit l) live apart = λ i. record (with_row rows (Limit l)) { filters = (live i).filters }
live_with rows (Offer o) live apart = λ i. record (with_row rows (Offer o)) { filters = (live i).filters }
live_with rows (Task t) live apart = λ i. record (with_row rows (Task t)) { filters = (live i).filters }
live_with rows (Filter f) live apart =
    let last : filter (is_in_force rows.clock) (f ∷ []) ≡ f ∷ [] = rw apart refl in
    let all : in_force rows.clock (rows.filters ++ f ∷ []) ≡ rows.filters ++ f ∷ []
    = filter-append (is_in_force rows.clock) rows.filters (f ∷ []) ∙ (λ i. (live i).filters ++ last i) in
    λ i. record rows { filters = all i }

new_of : (rows : Rows) (row : SavedRow) → IsApart rows row → IsNew rows row
new_of rows (Agent a) apart = tt
new_of rows (Framework f) apart = apart
new_of rows (Weight w) apart = apart
new_of rows (Limit l) apart = tt
new_of rows (Offer o) apart = tt
new_of rows (Task t) apart = tt
new_of rows (Filter f) apart = tt

-- the sum of the counts after a row is added
abbrev pub counted_with : ℕ → SavedRow → ℕ
counted_with counted (Framework f) = counted + sum_by (λ c. c.count) f.clients
counted_with counted row = counted

pub counts_with : (rows : Rows) (row : SavedRow) (counted : ℕ) → counted ≡ offers_counted rows.frameworks
    → counted_with counted row ≡ offers_counted (with_row rows row).frameworks
counts_with rows (Agent a) counted counts = counts
counts_with rows (Framework f) counted counts =
    omega (arith, counts, sum_by-append (λ (g : FrameworkRow). sum_by (λ c. c.count) g.clients) rows.frameworks (f ∷ []))
counts_with rows (Weight w) counted counts = counts
counts_with rows (Limit l) counted counts = counts
counts_with rows (Offer o) counted counts = counts
counts_with rows (Task t) counted counts = counts
counts_with rows (Filter f) counted counts = counts

-- the tables and the sorter have the row, and the sum of the counts includes it
pub record HasRow (old : Stored) (before : Content) (row : SavedRow) (new : Stored) (after : Content) : Type 0 where
  pub rows : new.rows ≡ with_row old.rows row
  pub settled : new.settled ≡ old.settled
  pub uncounted : new.counted ≡ old.counted
  pub sorted : after ≡ with_put before row

pub placed : (old : Stored) (before : Content) (counted : ℕ) (row : SavedRow) (new : Stored) (after : Content)
    → PartsAgree old before counted → FitsBehind old.rows row → HasRow old before row new after
    → IsPlaced old.rows row new after (counted_with counted row)
placed old before counted row new after agree fits has = record {
  rows = has.rows;
  agree = record {
    live = subst (λ (r : Rows). live_rows r ≡ r) (sym has.rows) (live_with old.rows row agree.live fits.apart);
    settled = has.settled ∙ agree.settled;
    uncounted = has.uncounted ∙ agree.uncounted;
    sorted = has.sorted
        ∙ ap (λ (k : Content). with_put k row) agree.sorted
        ∙ sym (content_of-with_row old.rows row fits.consistent (new_of old.rows row fits.apart))
        ∙ ap content_of (sym has.rows);
    counts = counts_with old.rows row counted agree.counts ∙ ap (λ (r : Rows). offers_counted r.frameworks) (sym has.rows);
  };
}

-- ---- agents

-- an agent that is registered last and then deactivated
pub inactive_last : (agents : List AgentRow) (name : Text) (total : List Resource) → list_any (λ a. same_text a.name name) agents ≡ false
    → map (active_at name false) (agents ++ record { name = name; total = total; active = true } ∷ [])
    ≡ agents ++ record { name = name; total = total; active = false } ∷ []
inactive_last [] name total new = rw (same_itself name) refl
inactive_last (a ∷ agents) name total new =
    let parts = or_parts (same_text a.name name) (list_any (λ a. same_text a.name name) agents) new in
    rw (parts.0) (ap (λ (rest : List AgentRow). a ∷ rest) (inactive_last agents name total parts.1))

-- an agent of a consistent state is a valid agent
pub agent_is : (rows : Rows) (a : AgentRow) → IsConsistent (with_row rows (Agent a)) → IsAgent a
agent_is rows a together = (each_parts IsAgent rows.agents (a ∷ []) together.agents.each).1.0

-- ---- limits

-- the limit of a role without a limit is added after the others
pub limits_last : (limits : List LimitRow) (l : LimitRow) → list_any (λ m. same_path m.role l.role) limits ≡ false → 1 ≤ length l.limit
    → limits_with limits l.role l.limit ≡ limits ++ l ∷ []
limits_last limits l new some = by l.limit some ∙ put limits new
  where
    by : (es : List Entry) → 1 ≤ length es → limits_with limits l.role es ≡ limits_put limits l.role es
    by [] some = absurd (omega arith)
    by (e ∷ es) some = refl

    put : (ms : List LimitRow) → list_any (λ m. same_path m.role l.role) ms ≡ false → limits_put ms l.role l.limit ≡ ms ++ l ∷ []
    put [] none = refl
    put (m ∷ ms) none =
        let parts = or_parts (same_path m.role l.role) (list_any (λ m. same_path m.role l.role) ms) none in
        rw (parts.0) (ap (λ (rest : List LimitRow). m ∷ rest) (put ms parts.1))

-- the last limit names something
pub names_some : (limits : List LimitRow) (l : LimitRow) → AreLimits (limits ++ l ∷ []) → 1 ≤ length l.limit
names_some limits l are =
    let test : LimitRow → Bool = λ m. not (is_default m.role) && nat_lt 0 (length m.limit) in
    let last = and_parts (list_all test limits) (list_all test (l ∷ [])) (sym (list_all-append test limits (l ∷ [])) ∙ are.each) in
    let own = and_parts (test l) true last.1 in
    ltb-true 0 (length l.limit) (and_parts (not (is_default l.role)) (nat_lt 0 (length l.limit)) own.0).1

-- ---- holdings

pub offer_held : (rows : Rows) (o : OfferRow) → IsConsistent (with_row rows (Offer o)) → IsHeld rows.agents rows.frameworks (holding_of_offer o)
offer_held rows o together =
    let P : Holding → Type 0 = IsHeld rows.agents rows.frameworks in
    let offers = (each_parts P (map holding_of_offer (rows.offers ++ o ∷ [])) (map holding_of_task rows.tasks) together.holdings).0 in
    (each_parts P (map holding_of_offer rows.offers) (holding_of_offer o ∷ []) (subst (AllByRecursion P) (map-append holding_of_offer rows.offers (o ∷ [])) offers)).1.0

pub task_held : (rows : Rows) (t : TaskRow) → IsConsistent (with_row rows (Task t)) → IsHeld rows.agents rows.frameworks (holding_of_task t)
task_held rows t together =
    let P : Holding → Type 0 = IsHeld rows.agents rows.frameworks in
    let tasks = (each_parts P (map holding_of_offer rows.offers) (map holding_of_task (rows.tasks ++ t ∷ [])) together.holdings).1 in
    (each_parts P (map holding_of_task rows.tasks) (holding_of_task t ∷ []) (subst (AllByRecursion P) (map-append holding_of_task rows.tasks (t ∷ [])) tasks)).1.0

-- the sorter knows the client of a holding, and stays sound with the holding
pub known_client : (rows : Rows) (h : Holding) (content : Content) (path : Path) → content ≡ content_of rows → path ≡ path_of h.client
    → IsHeld rows.agents rows.frameworks h → has_client content path ≡ true
known_client rows h content path sorted is held =
    (λ i. has_client (sorted i) (is i)) ∙ has_client-registered rows h.client held.client

pub sound_with : (rows : Rows) (row : SavedRow) (content : Content) → content ≡ content_of rows → FitsBehind rows row
    → IsSound (with_put content row)
sound_with rows row content sorted fits =
    let after : with_put content row ≡ content_of (with_row rows row) =
    ap (λ (k : Content). with_put k row) sorted ∙ sym (content_of-with_row rows row fits.consistent (new_of rows row fits.apart)) in
    let next_offer : (with_row rows row).next_offer < 2 ^ 64 = omega (arith, next_offer_stays rows row, fits.next_offer) in
    subst IsSound (sym after) (IsSound-content_of (with_row rows row) fits.together fits.agents next_offer)

-- ---- frameworks

pub clients_back : (rows : Rows) (f : FrameworkRow) (content : Content) → content ≡ content_of rows → FitsBehind rows (Framework f)
    → CanAllBeBack content f.name f.clients
clients_back rows f content sorted fits =
    subst (λ (k : Content). CanAllBeBack k f.name f.clients) (sym sorted)
    (clients_can_be_back rows f fits.consistent fits.together fits.agents fits.next_offer fits.apart)

pub apart_roles : (rows : Rows) (f : FrameworkRow) → IsConsistent (with_row rows (Framework f))
    → are_distinct_roles (map (λ c. c.role) f.clients) ≡ true
apart_roles rows f together =
    (each_parts (λ g. are_distinct_roles (map (λ c. c.role) g.clients) ≡ true) rows.frameworks (f ∷ []) together.frameworks.roles).1.0

-- ---- an allocator that is being restored

-- without rows
pub restored_begun : (limits : LimitNumbers) (head : Head) (tables : Stored) (content : Content) (counted : ℕ)
    → IsWithinCeilings limits → head_fault limits head ≡ None → tables.rows ≡ begun head → PartsAgree tables content counted
    → IsRestored limits tables content counted
restored_begun limits head tables content counted ceilings fits rows agree = record {
  ceilings = ceilings;
  saveable = subst (IsSaveable limits) (sym rows) (head_is_saveable limits head fits);
  agree = agree;
}

-- with one more row
pub restored_with : (limits : LimitNumbers) (old : Stored) (before : Content) (counted : ℕ) (row : SavedRow) (new : Stored) (after : Content) (more : ℕ)
    → IsRestored limits old before counted → IsTyped row → row_fault limits old.rows row ≡ None → IsPlaced old.rows row new after more
    → IsRestored limits new after more
restored_with limits old before counted row new after more restored typed fits is = record {
  ceilings = restored.ceilings;
  saveable = subst (IsSaveable limits) (sym is.rows) (row_keeps_saveable limits old.rows row restored.saveable typed fits);
  agree = is.agree;
}

-- the invariant of the restored allocator
pub standing : (limits : LimitNumbers) (tables : Stored) (content : Content) (counted : ℕ) → IsRestored limits tables content counted
    → IsStanding limits tables.rows
standing limits tables content counted restored = record {
  kept = record {
    consistent = restored.saveable.consistent;
    few = record {
      ceilings = restored.ceilings;
      agents = restored.saveable.within.agents;
      frameworks = restored.saveable.within.frameworks;
      clients = restored.saveable.within.clients;
      weights = restored.saveable.within.weights;
      events = restored.saveable.within.events;
    };
    numbered = restored.saveable.numbered;
  };
  saveable = subst (IsSaveable limits) (sym restored.agree.live) restored.saveable;
}

-- the numbers of an allowed head are in range
pub head_fits : (limits : LimitNumbers) (head : Head) → head_fault limits head ≡ None → (head.clock ≤ LATEST_TIMESTAMP) × (1 ≤ head.next_offer)
head_fits limits head fits =
    let none = no_head_case limits head fits in
    let numbers = or_parts (not (nat_le 1 head.next_offer)) (nat_lt (1 + head.events * 2 ^ 24) head.next_offer) none.1.1.0 in
    (ltb-false LATEST_TIMESTAMP head.clock none.1.0, leb-true 1 head.next_offer (not-false (nat_le 1 head.next_offer) numbers.0))

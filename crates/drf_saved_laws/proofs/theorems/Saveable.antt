-- A head without an error makes rows that can be saved, and adding a row without an error keeps them so.
use Rattle.std.specs.Prelude.{◌≡◌, ℕ, ◌+◌, ◌*◌, ◌^◌, ◌≤◌, not, List, [], ◌∷◌, ◌++◌, length, Some, nat_lt, nat_le}
use Rattle.std.specs.List.{AllByRecursion}
use Rattle.std.proofs.Common.{subst, arith, length-append}
use Rattle.std.proofs.lemmas.Bool.{leb-false, leb-true, ltb-false, not-false, or_parts}
use Rattle.std.proofs.lemmas.List.Sums.{count_by-le-length}
use Rattle.drf_rows.specs.Consistent.{IsNumberedByEvents}
use Rattle.drf_rows.specs.Filters.{is_in_force, number_in_force}
use Rattle.drf_rows.specs.Held.{clients_of, cluster_total}
use Rattle.drf_rows.specs.Holdings.{holdings_of}
use Rattle.drf_rows.specs.LimitNumbers.{LimitNumbers}
use Rattle.drf_laws.specs.HeldForLaws.{IsForItsRole}
use Rattle.drf_row_laws.proofs.RegistrationLaws.{length-clients_of-framework_added}
use Rattle.drf_rows.specs.declared.limits.TheConstants.{LATEST_TIMESTAMP}
use Rattle.drf_rows.specs.declared.rows.AgentRow.{AgentRow}
use Rattle.drf_rows.specs.declared.rows.FrameworkRow.{FrameworkRow}
use Rattle.drf_rows.specs.declared.rows.LimitRow.{LimitRow}
use Rattle.drf_rows.specs.declared.rows.Rows.{Rows}
use Rattle.drf_laws.specs.BoundLaws.{AreWithin}
use Rattle.drf_saved.specs.Saved.{begun, restored_from, row_cases, with_row, IsTyped}
use Rattle.drf_saved.specs.declared.saved.SavedRow.{SavedRow}
use Rattle.drf_saved.specs.declared.saved.SavedRow.TheVariants.{Agent, Framework, Weight, Limit, Offer, Task, Filter}
use Rattle.drf_saved_laws.specs.SavedLaws.{IsSaveable, HeadIsSaveable, RestoredCanBeSaved, RowKeepsSaveable}
use Rattle.drf_saved_laws.proofs.theorems.Faults.{NoneHolds, no_head_case, no_row_case, taken_first, taken_head}
use Rattle.drf_saved_laws.proofs.theorems.Put.{each_more, offer_is_put, put, task_is_put}

-- ---- the capacities

one_more : {X : Type 0} (xs : List X) (x : X) → length (xs ++ x ∷ []) ≡ length xs + 1
one_more xs x = length-append xs (x ∷ [])

module _ (limits : LimitNumbers) (rows : Rows) (within : AreWithin limits rows) where
  within_more : (row : SavedRow) → NoneHolds (row_cases limits rows row) → AreWithin limits (with_row rows row)
  within_more (Agent a) none =
      let more : List AgentRow = rows.agents ++ a ∷ [] in
      let parts = or_parts (nat_lt limits.agents (length more)) (nat_lt limits.scalar_names (length (cluster_total more))) none.1.1.1.0 in
      let agents = ltb-false limits.agents (length more) parts.0 in
      let names = ltb-false limits.scalar_names (length (cluster_total more)) parts.1 in
      search within
  within_more (Framework f) none =
      let first = or_parts (nat_lt limits.frameworks (length rows.frameworks + 1)) _ none.1.1.0 in
      let parts = or_parts (nat_lt limits.roles (length f.clients)) (nat_lt limits.clients (length (clients_of rows) + length f.clients)) first.1 in
      let frameworks : length (rows.frameworks ++ f ∷ []) ≤ limits.frameworks =
      omega (arith, one_more rows.frameworks f, ltb-false limits.frameworks (length rows.frameworks + 1) first.0) in
      let each : AllByRecursion (λ g. length g.clients ≤ limits.roles) (rows.frameworks ++ f ∷ []) =
      each_more (λ (g : FrameworkRow). length g.clients ≤ limits.roles) rows.frameworks f within.roles_of_each
      (ltb-false limits.roles (length f.clients) parts.0) in
      let clients : length (clients_of (with_row rows (Framework f))) ≤ limits.clients = omega (
        arith,
        length-clients_of-framework_added rows f,
        ltb-false limits.clients (length (clients_of rows) + length f.clients) parts.1,
      ) in
      search within
  within_more (Weight w) none =
      let weights : length (rows.weights ++ w ∷ []) ≤ limits.weights =
      omega (arith, one_more rows.weights w, ltb-false limits.weights (length rows.weights + 1) none.1.1.1.0) in
      search within
  within_more (Limit l) none =
      let parts = or_parts (nat_lt limits.limits (length rows.limits + 1)) (nat_lt limits.scalar_names (length l.limit)) none.1.1.1.1.0 in
      let few : length (rows.limits ++ l ∷ []) ≤ limits.limits =
      omega (arith, one_more rows.limits l, ltb-false limits.limits (length rows.limits + 1) parts.0) in
      let each : AllByRecursion (λ m. length m.limit ≤ limits.scalar_names) (rows.limits ++ l ∷ []) =
      each_more (λ (m : LimitRow). length m.limit ≤ limits.scalar_names) rows.limits l within.names_of_each
      (ltb-false limits.scalar_names (length l.limit) parts.1) in
      search within
  within_more (Offer o) none = search within
  within_more (Task t) none = search within
  within_more (Filter f) none =
      let filters : number_in_force rows.clock (rows.filters ++ f ∷ []) ≤ limits.filters = omega (
        arith,
        count_by-le-length (is_in_force rows.clock) (rows.filters ++ f ∷ []),
        one_more rows.filters f,
        leb-false limits.filters (length rows.filters) none.1.1.1.1.0,
      ) in
      search within

-- ---- rows that can be saved

module _ (limits : LimitNumbers) (rows : Rows) (can : IsSaveable limits rows) where
  numbered_more : (row : SavedRow) → IsNumberedByEvents (with_row rows row)
  numbered_more (Agent a) = can.numbered
  numbered_more (Framework f) = can.numbered
  numbered_more (Weight w) = can.numbered
  numbered_more (Limit l) = can.numbered
  numbered_more (Offer o) = can.numbered
  numbered_more (Task t) = can.numbered
  numbered_more (Filter f) = can.numbered

  own_more : (row : SavedRow) → IsTyped row → NoneHolds (row_cases limits rows row)
      → AllByRecursion IsForItsRole (holdings_of (with_row rows row))
  own_more (Offer o) typed none = (offer_is_put limits rows can.consistent o typed none).own can.own
  own_more (Task t) typed none = (task_is_put limits rows can.consistent t typed none).own can.own
  own_more other typed none = can.own

pub row_keeps_saveable : RowKeepsSaveable
row_keeps_saveable limits rows row can typed stands =
    let none = no_row_case limits rows row stands in
    record {
      consistent = put limits rows can.consistent row typed none;
      within = within_more limits rows can.within row none;
      numbered = numbered_more limits rows can row;
      own = own_more limits rows can row typed none;
    }

pub head_is_saveable : HeadIsSaveable
head_is_saveable limits head stands =
    let none = no_head_case limits head stands in
    let numbers = or_parts (not (nat_le 1 head.next_offer)) (nat_lt (1 + head.events * 2 ^ 24) head.next_offer) none.1.1.0 in
    let events = ltb-false limits.events head.events none.0 in
    let early = ltb-false LATEST_TIMESTAMP head.clock none.1.0 in
    let counted = leb-true 1 head.next_offer (not-false (nat_le 1 head.next_offer) numbers.0) in
    let zero : (n : ℕ) → 0 ≤ n = λ n. omega arith in
    record {
      consistent = search;
      within = search (zero, events);
      numbered = ltb-false (1 + head.events * 2 ^ 24) head.next_offer numbers.1;
      own = tt;
    }

-- ---- restoring a list

saveable_from : (limits : LimitNumbers) (rows : Rows) (saved : List SavedRow) (made : Rows) → IsSaveable limits rows → AllByRecursion IsTyped saved
    → restored_from limits rows saved ≡ Some made → IsSaveable limits made
saveable_from limits rows [] made can typed is =
    let same : rows ≡ made = cc in
    subst (IsSaveable limits) same can
saveable_from limits rows (row ∷ more) made can typed is =
    let taken = taken_first limits rows row more made is in
    saveable_from limits (with_row rows row) more made (row_keeps_saveable limits rows row can typed.0 taken.0) typed.1 taken.1

pub restored_can_be_saved : RestoredCanBeSaved
restored_can_be_saved limits head saved rows typed is =
    let taken = taken_head limits head saved rows is in
    saveable_from limits (begun head) saved rows (head_is_saveable limits head taken.0) typed taken.1

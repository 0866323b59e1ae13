-- Adding a row without an error keeps the rows consistent, table by table.
use Rattle.std.specs.Prelude.{◌≡◌, ◌^◌, ◌&&◌, ◌<◌, Bool, true, false, not, List, [], ◌∷◌, ◌++◌, length, map, nat_lt, nat_le}
use Rattle.std.specs.List.{list_all, list_any, AllByRecursion}
use Rattle.std.proofs.Common.{refl, ap, ◌∙◌, arith}
use Rattle.std.proofs.lemmas.Bool.{and_from, lt-ltb, leb-false, not-false, not_from_false, or_left, or_parts}
use Rattle.std.proofs.lemmas.List.Folds.{list_all-append, list_any-append}
use Rattle.drf_role.specs.Text.{Text, same_text}
use Rattle.drf_role.specs.Path.{same_path}
use Rattle.drf_role.specs.Role.{IsRole}
use Rattle.drf_bundle.specs.Bundle.{IsBundle, is_default, quantities_of}
use Rattle.drf_bundle.specs.Taken.{units_of_all}
use Rattle.drf_bundle.specs.declared.quantities.Entry.{Entry}
use Rattle.drf_rows.specs.Client.{Client}
use Rattle.drf_rows.specs.Consistent.{are_distinct_roles, offers_counted, AreAgents, AreFrameworks, AreLimits, AreWeights, IsAgent, IsConsistent, IsCovered, IsFilter, IsFramework, IsHeld}
use Rattle.drf_rows.specs.Held.{is_registered}
use Rattle.drf_rows.specs.Holdings.{Holding, holding_of_offer, holding_of_task, holdings_of}
use Rattle.drf_rows.specs.LimitNumbers.{LimitNumbers}
use Rattle.drf_rows.specs.Members.{has_agent}
use Rattle.drf_rows.specs.Offers.{is_empty}
use Rattle.drf_rows.specs.Weights.{is_weight}
use Rattle.drf_row_laws.proofs.ReleaseLaws.{IsOneLess, IsConsistent-filters, IsConsistent-held}
use Rattle.drf_laws.specs.HeldForLaws.{IsForItsRole}
use Rattle.drf_bundle.proofs.ListLaws.{each_append, each_from}
use Rattle.drf_row_laws.proofs.RegistrationLaws.{parts_on-nothing}
use Rattle.drf_rows.specs.declared.limits.TheConstants.{LARGEST_AMOUNT}
use Rattle.drf_rows.specs.declared.rows.AgentRow.{AgentRow}
use Rattle.drf_rows.specs.declared.rows.FilterRow.{FilterRow}
use Rattle.drf_rows.specs.declared.rows.FrameworkRow.{FrameworkRow}
use Rattle.drf_rows.specs.declared.rows.LimitRow.{LimitRow}
use Rattle.drf_rows.specs.declared.rows.OfferRow.{OfferRow}
use Rattle.drf_rows.specs.declared.rows.Rows.{Rows}
use Rattle.drf_rows.specs.declared.rows.TaskRow.{TaskRow}
use Rattle.drf_rows.specs.declared.rows.WeightRow.{WeightRow}
use Rattle.drf_laws.proofs.theorems.Welcome.{small_amounts}
use Rattle.drf_saved.specs.Saved.{is_usable, roles_of, row_cases, with_row, IsTyped}
use Rattle.drf_saved.specs.declared.saved.SavedRow.{SavedRow}
use Rattle.drf_saved.specs.declared.saved.SavedRow.TheVariants.{Agent, Framework, Weight, Limit, Offer, Task, Filter}
use Rattle.drf_saved_laws.proofs.theorems.Apart.{names_last, numbers_last, roles_last, tasks_last}
use Rattle.drf_saved_laws.proofs.theorems.Faults.{NoneHolds}
use Rattle.drf_saved_laws.proofs.theorems.Room.{covered_one_more, each_one_more, one_offer_more, one_task_more, room_of}

-- an element that passes a test is also in the list with one more element
among_more : {X : Type 0} (test : X → Bool) (xs : List X) (x : X) → list_any test xs ≡ true → list_any test (xs ++ x ∷ []) ≡ true
among_more test xs x known = list_any-append test xs (x ∷ []) ∙ or_left (list_any test xs) (list_any test (x ∷ [])) known

-- what holds for all elements and for one more holds for the longer list
all_more : {X : Type 0} (test : X → Bool) (xs : List X) (x : X) → list_all test xs ≡ true → test x ≡ true → list_all test (xs ++ x ∷ []) ≡ true
all_more test xs x all one =
    list_all-append test xs (x ∷ []) ∙ and_from (list_all test xs) (test x && true) all (and_from (test x) true one refl)

pub each_more : {X : Type 0} (P : X → Type 0) (xs : List X) (x : X) → AllByRecursion P xs → P x → AllByRecursion P (xs ++ x ∷ [])
each_more P xs x all one = each_append P xs (x ∷ []) all (one, tt)

-- after one more holding: each holding is that of a registered client on an agent that covers it, and includes nothing reserved for others
pub record IsPut (rows : Rows) (after : List Holding) : Type 0 where
  pub held : AllByRecursion (IsHeld rows.agents rows.frameworks) after
  pub covered : AllByRecursion (IsCovered after) rows.agents
  pub own : AllByRecursion IsForItsRole (holdings_of rows) → AllByRecursion IsForItsRole after

module _ (limits : LimitNumbers) (rows : Rows) (consistent : IsConsistent rows) where
  -- ---- an agent or a framework: those that were registered still are

  put_agent : (a : AgentRow) → IsTyped (Agent a) → NoneHolds (row_cases limits rows (Agent a)) → IsConsistent (with_row rows (Agent a))
  put_agent a typed none =
      let more : List AgentRow = rows.agents ++ a ∷ [] in
      let there : (name : Text) → has_agent rows name ≡ true → list_any (λ b. same_text b.name name) more ≡ true =
      λ name known. among_more (λ (b : AgentRow). same_text b.name name) rows.agents a known in
      let agents : AreAgents more = record {
        names = names_last (λ (b : AgentRow). b.name) rows.agents a consistent.agents.names none.1.0;
        each = each_more IsAgent rows.agents a consistent.agents.each
            (record { total = typed.1; small = λ label. small_amounts (quantities_of a.total) LARGEST_AMOUNT label none.1.1.0 });
      } in
      let holdings : AllByRecursion (IsHeld more rows.frameworks) (holdings_of rows) =
      each_from (IsHeld rows.agents rows.frameworks) (IsHeld more rows.frameworks) (holdings_of rows)
      (λ h held. record { agent = there h.agent held.agent; client = held.client; bundle = held.bundle }) consistent.holdings in
      let covered : AllByRecursion (IsCovered (holdings_of rows)) more =
      each_more (IsCovered (holdings_of rows)) rows.agents a consistent.covered
      (λ key p. omega (arith, ap (λ parts. units_of_all parts key p) (parts_on-nothing rows a.name consistent none.1.0))) in
      let filters : AllByRecursion (IsFilter more rows.frameworks) rows.filters =
      each_from (IsFilter rows.agents rows.frameworks) (IsFilter more rows.frameworks) rows.filters
      (λ f is. record { agent = there f.agent is.agent; client = is.client; bundle = is.bundle; until = is.until }) consistent.filters in
      search consistent

  put_framework : (f : FrameworkRow) → IsTyped (Framework f) → NoneHolds (row_cases limits rows (Framework f))
      → IsConsistent (with_row rows (Framework f))
  put_framework f typed none =
      let more : List FrameworkRow = rows.frameworks ++ f ∷ [] in
      let there : (client : Client) → is_registered rows.frameworks client ≡ true → is_registered more client ≡ true = λ client known.
      among_more (λ (g : FrameworkRow). same_text g.name client.framework && list_any (λ c. same_path c.role client.role) g.clients) rows.frameworks f known in
      let frameworks : AreFrameworks more = record {
        names = names_last (λ (g : FrameworkRow). g.name) rows.frameworks f consistent.frameworks.names none.1.0;
        roles = each_more (λ g. are_distinct_roles (roles_of g) ≡ true) rows.frameworks f consistent.frameworks.roles
            (not-false (are_distinct_roles (roles_of f)) none.1.1.1.0);
        each = each_more IsFramework rows.frameworks f consistent.frameworks.each typed;
      } in
      let holdings : AllByRecursion (IsHeld rows.agents more) (holdings_of rows) =
      each_from (IsHeld rows.agents rows.frameworks) (IsHeld rows.agents more) (holdings_of rows)
      (λ h held. record { agent = held.agent; client = there h.client held.client; bundle = held.bundle }) consistent.holdings in
      let filters : AllByRecursion (IsFilter rows.agents more) rows.filters =
      each_from (IsFilter rows.agents rows.frameworks) (IsFilter rows.agents more) rows.filters (λ g is. record {
        agent = is.agent;
        client = there (record { role = g.role; framework = g.framework }) is.client;
        bundle = is.bundle;
        until = is.until;
      }) consistent.filters in
      let counted : offers_counted more < rows.next_offer = leb-false rows.next_offer (offers_counted more) none.1.1.1.1.0 in
      search consistent

  -- ---- a weight or a limit

  put_weight : (w : WeightRow) → IsTyped (Weight w) → NoneHolds (row_cases limits rows (Weight w)) → IsConsistent (with_row rows (Weight w))
  put_weight w typed none =
      let weights : AreWeights (rows.weights ++ w ∷ []) = record {
        roles = roles_last (λ (v : WeightRow). v.role) rows.weights w consistent.weights.roles none.1.0;
        each = all_more (λ (v : WeightRow). is_weight v.weight) rows.weights w consistent.weights.each (not-false (is_weight w.weight) none.1.1.0);
        valid = each_more (λ (v : WeightRow). IsRole v.role) rows.weights w consistent.weights.valid typed;
      } in
      search consistent

  put_limit : (l : LimitRow) → IsTyped (Limit l) → NoneHolds (row_cases limits rows (Limit l)) → IsConsistent (with_row rows (Limit l))
  put_limit l typed none =
      let limited : AreLimits (rows.limits ++ l ∷ []) = record {
        roles = roles_last (λ (m : LimitRow). m.role) rows.limits l consistent.limits.roles none.1.1.1.0;
        each = all_more (λ (m : LimitRow). not (is_default m.role) && nat_lt 0 (length m.limit)) rows.limits l consistent.limits.each
            (and_from (not (is_default l.role)) (nat_lt 0 (length l.limit)) (not_from_false (is_default l.role) none.1.0) (some_names l.limit none.1.1.0));
        valid = each_more (λ (m : LimitRow). IsRole m.role) rows.limits l consistent.limits.valid typed;
      } in
      search consistent
    where
      some_names : (es : List Entry) → is_empty es ≡ false → nat_lt 0 (length es) ≡ true
      some_names [] some = cc
      some_names (e ∷ es) some = lt-ltb 0 (length (e ∷ es)) (omega arith)

  -- ---- a holding

  put_holding : (h : Holding) (after : List Holding) → IsOneLess after (holdings_of rows) h → IsBundle h.bundle
      → not (has_agent rows h.agent) ≡ false → not (is_registered rows.frameworks h.client) ≡ false
      → not (is_usable rows h.agent h.client.role h.bundle) ≡ false → IsPut rows after
  put_holding h after more is agent client usable =
      let room = room_of rows h is consistent (not-false (is_usable rows h.agent h.client.role h.bundle) usable) in
      record {
        held = each_one_more after (holdings_of rows) h more (IsHeld rows.agents rows.frameworks) consistent.holdings (record {
          agent = not-false (has_agent rows h.agent) agent;
          client = not-false (is_registered rows.frameworks h.client) client;
          bundle = is;
        });
        covered = covered_one_more rows h after consistent room more;
        own = λ all. each_one_more after (holdings_of rows) h more IsForItsRole all room.own;
      }

  pub offer_is_put : (o : OfferRow) → IsTyped (Offer o) → NoneHolds (row_cases limits rows (Offer o))
      → IsPut rows (holdings_of (with_row rows (Offer o)))
  offer_is_put o typed none =
      put_holding (holding_of_offer o) (holdings_of (with_row rows (Offer o))) (one_offer_more rows.offers (map holding_of_task rows.tasks) o) typed.3
      none.1.0 none.1.1.1.0 none.1.1.1.1.0

  pub task_is_put : (t : TaskRow) → IsTyped (Task t) → NoneHolds (row_cases limits rows (Task t))
      → IsPut rows (holdings_of (with_row rows (Task t)))
  task_is_put t typed none =
      put_holding (holding_of_task t) (holdings_of (with_row rows (Task t))) (one_task_more (map holding_of_offer rows.offers) rows.tasks t) typed.4
      none.1.0 none.1.1.1.0 none.1.1.1.1.1.0

  put_offer : (o : OfferRow) → IsTyped (Offer o) → NoneHolds (row_cases limits rows (Offer o)) → IsConsistent (with_row rows (Offer o))
  put_offer o typed none =
      let put = offer_is_put o typed none in
      let numbers = or_parts (not (list_all (λ p. nat_lt p.number o.number) rows.offers)) (nat_le rows.next_offer o.number) none.1.1.1.1.1.0 in
      IsConsistent-held rows (rows.offers ++ o ∷ []) rows.tasks consistent put.held put.covered consistent.tasks
      (numbers_last rows.offers o rows.next_offer consistent.numbered (not-false (list_all (λ p. nat_lt p.number o.number) rows.offers) numbers.0)
      (lt-ltb o.number rows.next_offer (leb-false rows.next_offer o.number numbers.1)))

  put_task : (t : TaskRow) → IsTyped (Task t) → NoneHolds (row_cases limits rows (Task t)) → IsConsistent (with_row rows (Task t))
  put_task t typed none =
      let put = task_is_put t typed none in
      IsConsistent-held rows rows.offers (rows.tasks ++ t ∷ []) consistent put.held put.covered
      (tasks_last rows.tasks t consistent.tasks none.1.1.1.1.0) consistent.numbered

  -- ---- a filter

  put_filter : (f : FilterRow) → IsTyped (Filter f) → NoneHolds (row_cases limits rows (Filter f)) → IsConsistent (with_row rows (Filter f))
  put_filter f typed none =
      let numbers = or_parts (nat_le f.until rows.clock) (nat_le (2 ^ 63) f.until) none.1.1.1.0 in
      IsConsistent-filters rows (rows.filters ++ f ∷ []) consistent
      (each_more (IsFilter rows.agents rows.frameworks) rows.filters f consistent.filters (record {
        agent = not-false (has_agent rows f.agent) none.0;
        client = not-false (is_registered rows.frameworks (record { role = f.role; framework = f.framework })) none.1.1.0;
        bundle = typed.3;
        until = leb-false (2 ^ 63) f.until numbers.1;
      }))

  pub put : (row : SavedRow) → IsTyped row → NoneHolds (row_cases limits rows row) → IsConsistent (with_row rows row)
  put (Agent a) = put_agent a
  put (Framework f) = put_framework f
  put (Weight w) = put_weight w
  put (Limit l) = put_limit l
  put (Offer o) = put_offer o
  put (Task t) = put_task t
  put (Filter f) = put_filter f

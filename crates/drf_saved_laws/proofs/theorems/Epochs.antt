-- Rows can still be saved after an epoch, which keeps everything except offers, counts and the history.
use Rattle.std.specs.Prelude.{◌≡◌, ◌<◌, ◌≤◌, ◌&&◌, true, List, [], ◌∷◌, ◌++◌, length, map, sum_by}
use Rattle.std.specs.List.{list_any, AllByRecursion}
use Rattle.std.proofs.Common.{refl, sym, ap, subst, ◌∙◌, arith}
use Rattle.std.proofs.lemmas.List.{length-map}
use Rattle.std.proofs.lemmas.Simd.{map-map}
use Rattle.drf_role.specs.Path.{same_path}
use Rattle.drf_role.specs.Role.{IsRole}
use Rattle.drf_role.specs.Text.{same_text}
use Rattle.drf_rows.specs.Client.{Client}
use Rattle.drf_rows.specs.Consistent.{are_distinct, are_distinct_roles, offers_counted, AreFrameworks, IsConsistent, IsCovered, IsFilter, IsFramework, IsHeld, IsNumberedByEvents}
use Rattle.drf_rows.specs.Filters.{in_force, number_in_force}
use Rattle.drf_rows.specs.Held.{client_of, clients_in, clients_of, is_registered}
use Rattle.drf_rows.specs.Holdings.{Holding, holding_of_offer, holding_of_task, holdings_of}
use Rattle.drf_rows.specs.LimitNumbers.{LimitNumbers}
use Rattle.drf_rows.specs.Step.{live_rows}
use Rattle.drf_row_laws.proofs.FilterLaws.{number_in_force-later}
use Rattle.drf_laws.specs.HeldForLaws.{IsForItsRole}
use Rattle.drf_row_laws.proofs.HoldingsLaws.{units_on-append}
use Rattle.drf_bundle.proofs.ListLaws.{each_from, each_map, each_parts, list_any-map, sum_by-map, sum_by_none}
use Rattle.drf_rows.specs.declared.rows.ClientRow.{ClientRow}
use Rattle.drf_rows.specs.declared.rows.FrameworkRow.{FrameworkRow}
use Rattle.drf_rows.specs.declared.rows.Rows.{Rows}
use Rattle.drf_laws.specs.BoundLaws.{AreWithin}
use Rattle.drf_laws.proofs.theorems.Kept.{consistent-live}
use Rattle.drf_saved.specs.Epoch.{with_counts_reset, epoch, uncounted}
use Rattle.drf_saved_laws.specs.SavedLaws.{but_for_counts, EpochCanBeSaved, EpochKeepsTheRest, IsSaveable}

-- ---- frameworks whose clients have no counts

roles_anew : (f : FrameworkRow) → map (λ c. c.role) (with_counts_reset f).clients ≡ map (λ c. c.role) f.clients
roles_anew f = map-map (λ (c : ClientRow). c.role) uncounted f.clients

registered_anew : (fs : List FrameworkRow) (client : Client) → is_registered (map with_counts_reset fs) client ≡ is_registered fs client
registered_anew fs client =
    list_any-map (λ (f : FrameworkRow). same_text f.name client.framework && list_any (λ c. same_path c.role client.role) f.clients) with_counts_reset fs
    ∙ (λ i. list_any (λ f. same_text f.name client.framework && list_any-map (λ (c : ClientRow). same_path c.role client.role) uncounted f.clients i) fs)

clients_anew : (fs : List FrameworkRow) → clients_in (map with_counts_reset fs) ≡ clients_in fs
clients_anew [] = refl
clients_anew (f ∷ fs) = λ i. map-map (client_of (with_counts_reset f)) uncounted f.clients i ++ clients_anew fs i

none_counted : (fs : List FrameworkRow) → offers_counted (map with_counts_reset fs) ≡ 0
none_counted fs =
    sum_by-map (λ (f : FrameworkRow). sum_by (λ c. c.count) f.clients) with_counts_reset fs
    ∙ (λ i. sum_by (λ f. uncounted_sum f.clients i) fs)
    ∙ sum_by_none fs
  where
    uncounted_sum : (cs : List ClientRow) → sum_by (λ c. c.count) (map uncounted cs) ≡ 0
    uncounted_sum cs = sum_by-map (λ (c : ClientRow). c.count) uncounted cs ∙ sum_by_none cs

each_anew : (P Q : FrameworkRow → Type 0) (fs : List FrameworkRow) → ((f : FrameworkRow) → P f → Q (with_counts_reset f))
    → AllByRecursion P fs → AllByRecursion Q (map with_counts_reset fs)
each_anew P Q fs so all = each_map Q with_counts_reset fs (each_from P (λ f. Q (with_counts_reset f)) fs so all)

frameworks_anew : (fs : List FrameworkRow) → AreFrameworks fs → AreFrameworks (map with_counts_reset fs)
frameworks_anew fs are = record {
  names = ap are_distinct (map-map (λ (f : FrameworkRow). f.name) with_counts_reset fs) ∙ are.names;
  roles = each_anew Apart Apart fs (λ f apart. ap are_distinct_roles (roles_anew f) ∙ apart) are.roles;
  each = each_anew IsFramework IsFramework fs
      (λ f is. record { name = is.name; roles = subst (AllByRecursion IsRole) (sym (roles_anew f)) is.roles }) are.each;
}
  where
    Apart : FrameworkRow → Type 0
    Apart f = are_distinct_roles (map (λ c. c.role) f.clients) ≡ true

-- ---- rows that can be saved

consistent_anew : (rows : Rows) → IsConsistent rows → IsConsistent (epoch rows)
consistent_anew rows consistent =
    let fs : List FrameworkRow = map with_counts_reset rows.frameworks in
    let tasks : List Holding = map holding_of_task rows.tasks in
    let are : AreFrameworks fs = frameworks_anew rows.frameworks consistent.frameworks in
    let holdings : AllByRecursion (IsHeld rows.agents fs) tasks =
    each_from (IsHeld rows.agents rows.frameworks) (IsHeld rows.agents fs) tasks
    (λ h held. record { agent = held.agent; client = registered_anew rows.frameworks h.client ∙ held.client; bundle = held.bundle })
    (each_parts (IsHeld rows.agents rows.frameworks) (map holding_of_offer rows.offers) tasks consistent.holdings).1 in
    let covered : AllByRecursion (IsCovered tasks) rows.agents =
    each_from (IsCovered (holdings_of rows)) (IsCovered tasks) rows.agents
    (λ a covered key p. omega (arith, covered key p, units_on-append a.name key p (map holding_of_offer rows.offers) tasks)) consistent.covered in
    let filters : AllByRecursion (IsFilter rows.agents fs) rows.filters =
    each_from (IsFilter rows.agents rows.frameworks) (IsFilter rows.agents fs) rows.filters (λ f is. record {
      agent = is.agent;
      client = registered_anew rows.frameworks (record { role = f.role; framework = f.framework }) ∙ is.client;
      bundle = is.bundle;
      until = is.until;
    }) consistent.filters in
    let counted : offers_counted fs < 1 = omega (arith, none_counted rows.frameworks) in
    search consistent

module _ (limits : LimitNumbers) (rows : Rows) (can : IsSaveable limits rows) where
  -- without the expired filters
  pub live_saveable : IsSaveable limits (live_rows rows)
  live_saveable =
      let consistent = consistent-live rows can.consistent in
      let filters : number_in_force rows.clock (in_force rows.clock rows.filters) ≤ limits.filters =
      omega (arith, number_in_force-later rows.clock rows.clock rows.filters (omega arith), can.within.filters_in_force) in
      let within : AreWithin limits (live_rows rows) = search (can, filters) in
      search (can, consistent, within)

  pub epoch_saveable : IsSaveable limits (epoch rows)
  epoch_saveable =
      let Few : FrameworkRow → Type 0 = λ f. length f.clients ≤ limits.roles in
      let consistent = consistent_anew rows can.consistent in
      let frameworks : length (map with_counts_reset rows.frameworks) ≤ limits.frameworks =
      omega (arith, length-map rows.frameworks with_counts_reset, can.within.frameworks) in
      let roles : AllByRecursion Few (map with_counts_reset rows.frameworks) =
      each_anew Few Few rows.frameworks (λ f few. omega (arith, length-map f.clients uncounted, few)) can.within.roles_of_each in
      let clients : length (clients_of (epoch rows)) ≤ limits.clients = omega (arith, ap length (clients_anew rows.frameworks), can.within.clients) in
      let events : 0 ≤ limits.events = omega arith in
      let within : AreWithin limits (epoch rows) = search (can.within, frameworks, roles, clients, events) in
      let numbered : IsNumberedByEvents (epoch rows) = omega arith in
      let own = (each_parts IsForItsRole (map holding_of_offer rows.offers) (map holding_of_task rows.tasks) can.own).1 in
      search (consistent, within, numbered, own)

pub epoch_can_be_saved : EpochCanBeSaved
epoch_can_be_saved limits rows can = epoch_saveable limits (live_rows rows) (live_saveable limits rows can)

-- ---- what an epoch keeps, and what it resets

pub epoch_keeps_the_rest : EpochKeepsTheRest
epoch_keeps_the_rest rows = (
  record {
    agents = refl;
    frameworks = map-map but_for_counts with_counts_reset rows.frameworks
        ∙ (λ i. map (λ f. (f.name, map-map (λ (c : ClientRow). (c.role, c.suppressed)) uncounted f.clients i)) rows.frameworks);
    tasks = refl;
    weights = refl;
    limits = refl;
    filters = refl;
    clock = refl;
  },
  record { offers = refl; counts = none_counted rows.frameworks; next_offer = refl; events = refl },
)

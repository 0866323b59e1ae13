-- What the tables and the sorter hold after offers and tasks end.
use Rattle.std.proofs.Common.{◌≡◌, Bool, true, false, List, [], ◌∷◌, Some, refl, sym, ap, subst, ◌∙◌, inl, inr}
use Rattle.std.specs.Prelude.{not, filter, find}
use Rattle.std.specs.List.{list_any}
use Rattle.std.proofs.lemmas.Bool.{cases_Bool}
use Rattle.drf_role.specs.Text.{Text, same_text}
use Rattle.drf_role.specs.Path.{Path, client_path}
use Rattle.drf_bundle.specs.Bundle.{quantities_of}
use Rattle.drf_bundle.specs.declared.quantities.Entry.{Entry}
use Rattle.drf_rows.specs.Client.{Client}
use Rattle.drf_rows.specs.Held.{cluster_total, is_registered}
use Rattle.drf_rows.specs.Holdings.{is_of}
use Rattle.drf_rows.specs.Releases.{Release, without_ended, offers_on, all_on, all_of}
use Rattle.drf_rows.specs.Members.{with_activity, with_suppression, revived, agent_removed, framework_removed}
use Rattle.drf_rows.specs.Filters.{filters_without_agent, filters_without_client, filters_without_framework}
use Rattle.drf_rows.specs.Consistent.{AreFrameworks}
use Rattle.drf_rows.specs.Step.{effect}
use Rattle.drf_rows.specs.declared.event.Event.TheVariants.{RemoveAgent, ActivateAgent, DeactivateAgent, RemoveFramework, Suppress, Revive}
use Rattle.drf_rows.specs.declared.rows.FrameworkRow.{FrameworkRow}
use Rattle.drf_rows.specs.declared.rows.Rows.{Rows}
use Rattle.drf_sorter.specs.Content.{Content, IsSame, has_client, with_change, refunded, HoldsAt}
use Rattle.drf_sorter.proofs.theorems.SameLaws.{HoldsAt-same, IsSame-between, IsSame-sym, IsSame-with_change, IsSame-with_total, has_client-same}
use Rattle.drf_sorter.specs.Content as sorter
use Rattle.drf_tables.specs.offers.Ended.{HasEnded}
use Rattle.drf_rows.specs.Client.{path_of}
use Rattle.drf_holdings.specs.Stored.{holding_of}
use Rattle.drf_holdings.specs.declared.holdings.Taken.{Taken}
use Rattle.drf_content.specs.Content.{content_of}
use Rattle.drf_content.specs.Registering.{AreKnown, client_paths, without_all}
use Rattle.drf_content.proofs.theorems.Ended.{GaveBack, content_of-gave_back, HoldsAt-gave_back}
use Rattle.drf_content.proofs.theorems.Changed.{content_of-filters, content_of-activity, content_of-suppression, content_of-agent_removed}
use Rattle.drf_content.proofs.theorems.Members.{has_client-registered}
use Rattle.drf_content.proofs.theorems.Removed.{AreKnown-removing, content_of-framework_removed}
use Rattle.drf_content.proofs.theorems.Same.{AreKnown-same, IsSame-without_all}
use Rattle.drf_laws.proofs.theorems.Releases.{ended_twice}

-- ---- one offer or task ended

module _ (old new : Rows) (release : Release) (taken : Taken) (ended : HasEnded old new release taken) (content : Content) (sorted : IsSame content (content_of old)) where
  abbrev its_path : Path
  its_path = path_of (holding_of taken).client

  gave : GaveBack old new its_path (quantities_of taken.bundle)
  gave = record {
    agents = ap (λ (r : Rows). r.agents) ended.others;
    frameworks = ap (λ (r : Rows). r.frameworks) ended.others;
    weights = ap (λ (r : Rows). r.weights) ended.others;
    out = λ other label. ended.out (is_of other) label;
  }

  pub known-ended : has_client content its_path ≡ true
  known-ended = has_client-same content (content_of old) sorted its_path ∙ has_client-registered old (holding_of taken).client ended.registered

  pub held-ended : HoldsAt content its_path (quantities_of taken.bundle)
  held-ended =
      HoldsAt-same (content_of old) content (IsSame-sym content (content_of old) sorted) its_path (quantities_of taken.bundle)
      (HoldsAt-gave_back old new its_path (quantities_of taken.bundle) gave)

  pub sorted-ended : (after : Content) → after ≡ with_change content its_path (refunded (quantities_of taken.bundle)) → IsSame after (content_of new)
  sorted-ended after changed =
      let back = refunded (quantities_of taken.bundle) in
      IsSame-between after (with_change content its_path back) (with_change (content_of old) its_path back) (content_of new)
      changed (IsSame-with_change content (content_of old) sorted its_path back)
      (content_of-gave_back old new its_path (quantities_of taken.bundle) gave)

-- ---- all selected offers and tasks have ended

-- no selected offer or task is left
pub nothing_left : (rows middle : Rows) (release : Release) → middle ≡ without_ended rows release → without_ended middle release ≡ middle
nothing_left rows middle release same =
    ap (λ (r : Rows). without_ended r release) same ∙ ended_twice rows release ∙ sym same

-- ---- agents

pub sorted-activity : (rows tables : Rows) (name : Text) (active : Bool) (content : Content)
    → IsSame content (content_of rows) → tables ≡ record rows { agents = with_activity rows name active } → IsSame content (content_of tables)
sorted-activity rows tables name active content sorted set =
    subst (IsSame content) (sym (ap content_of set ∙ content_of-activity rows name active)) sorted

pub effect-activated : (rows tables : Rows) (name : Text) → tables ≡ record rows { agents = with_activity rows name true }
    → tables ≡ effect rows (ActivateAgent name)
unfolding effect
effect-activated rows tables name set = set

pub effect-deactivated : (rows middle tables : Rows) (name : Text) → middle ≡ without_ended rows (offers_on name)
    → tables ≡ record middle { agents = with_activity middle name false } → tables ≡ effect rows (DeactivateAgent name)
unfolding effect
effect-deactivated rows middle tables name ended set =
    set ∙ (λ i. record (ended i) { agents = with_activity (ended i) name false })

pub effect-departed : (rows middle tables : Rows) (name : Text) → middle ≡ without_ended rows (all_on name)
    → tables ≡ agent_removed middle name → tables ≡ effect rows (RemoveAgent name)
unfolding effect
effect-departed rows middle tables name ended removed =
    let twice = ended_twice rows (all_on name) in
    removed
    ∙ ap (λ (r : Rows). agent_removed r name) ended
    ∙ (λ i. record (twice i) { agents = filter (λ a. not (same_text a.name name)) rows.agents; filters = filters_without_agent name rows.filters })

pub sorted-departed : (middle tables : Rows) (name : Text) (content after : Content) (total : List Entry)
    → IsSame content (content_of middle) → without_ended middle (all_on name) ≡ middle
    → tables ≡ agent_removed middle name
    → after ≡ record content { total = total }
    → total ≡ cluster_total (filter (λ a. not (same_text a.name name)) middle.agents)
    → IsSame after (content_of tables)
sorted-departed middle tables name content after total sorted nothing removed set sum =
    IsSame-between after (record content { total = total }) (record (content_of middle) { total = total }) (content_of tables)
    set (IsSame-with_total content (content_of middle) sorted total)
    ((λ i. record (content_of middle) { total = sum i })
    ∙ sym (ap content_of removed ∙ content_of-agent_removed middle name nothing))

-- ---- frameworks

-- the element that is found
pub record IsFound {X : Type 0} (p : X → Bool) (xs : List X) : Type 0 where
  pub one : X
  pub found : find p xs ≡ Some one

pub one_found : {X : Type 0} (p : X → Bool) (xs : List X) → list_any p xs ≡ true → IsFound p xs
one_found p [] some = cc
one_found p (x ∷ xs) some = elim (cases_Bool (p x)) [
  | inl here ↦ record { one = x; found = rw here refl }
  | inr past ↦
      let later = one_found p xs (rw past at some) in
      record { one = later.one; found = rw past later.found }
]

-- the clients of a framework can be removed from the sorter
pub AreKnown-ended : (middle : Rows) (name : Text) (f : FrameworkRow) (content : Content) (paths : List Path)
    → AreFrameworks middle.frameworks → find (λ f. same_text f.name name) middle.frameworks ≡ Some f
    → IsSame content (content_of middle) → paths ≡ client_paths name f.clients
    → AreKnown content paths
AreKnown-ended middle name f content paths right found sorted same =
    rw same (AreKnown-same (content_of middle) content (client_paths name f.clients) (IsSame-sym content (content_of middle) sorted)
    (AreKnown-removing middle name f right found))

pub sorted-left : (middle tables : Rows) (name : Text) (f : FrameworkRow) (content after : Content) (paths : List Path)
    → AreFrameworks middle.frameworks → find (λ f. same_text f.name name) middle.frameworks ≡ Some f
    → IsSame content (content_of middle) → without_ended middle (all_of name) ≡ middle
    → tables ≡ framework_removed middle name
    → after ≡ without_all content paths
    → paths ≡ client_paths name f.clients
    → IsSame after (content_of tables)
sorted-left middle tables name f content after paths right found sorted nothing removed taken reported =
    IsSame-between after (without_all content paths) (without_all (content_of middle) paths) (content_of tables)
    taken (IsSame-without_all content (content_of middle) paths sorted)
    (ap (without_all (content_of middle)) reported
    ∙ content_of-framework_removed middle name f right found nothing
    ∙ sym (ap content_of removed))

pub effect-left : (rows middle tables : Rows) (name : Text) → middle ≡ without_ended rows (all_of name)
    → tables ≡ framework_removed middle name → tables ≡ effect rows (RemoveFramework name)
unfolding effect
effect-left rows middle tables name ended removed =
    let twice = ended_twice rows (all_of name) in
    removed
    ∙ ap (λ (r : Rows). framework_removed r name) ended
    ∙ (λ i. record (twice i) { frameworks = filter (λ f. not (same_text f.name name)) rows.frameworks; filters = filters_without_framework name rows.filters })

-- ---- clients

pub known-client : (rows : Rows) (role : Path) (framework : Text) (content : Content) (path : Path)
    → IsSame content (content_of rows) → path ≡ client_path role framework
    → is_registered rows.frameworks (record { role = role; framework = framework }) ≡ true
    → has_client content path ≡ true
known-client rows role framework content path sorted is known =
    has_client-same content (content_of rows) sorted path ∙ ap (has_client (content_of rows)) is ∙ has_client-registered rows (record { role = role; framework = framework }) known

pub sorted-suppressed : (rows tables : Rows) (role : Path) (framework : Text) (content after : Content) (path : Path)
    → IsSame content (content_of rows) → path ≡ client_path role framework
    → tables ≡ record rows { frameworks = with_suppression rows (record { role = role; framework = framework }) true }
    → after ≡ with_change content path (sorter.activated false)
    → IsSame after (content_of tables)
sorted-suppressed rows tables role framework content after path sorted is set changed =
    IsSame-between after (with_change content path (sorter.activated false)) (with_change (content_of rows) path (sorter.activated false)) (content_of tables)
    changed (IsSame-with_change content (content_of rows) sorted path (sorter.activated false))
    (ap (λ (p : Path). with_change (content_of rows) p (sorter.activated false)) is
    ∙ sym (ap content_of set ∙ content_of-suppression rows (record { role = role; framework = framework }) true))

pub effect-suppressed : (rows tables : Rows) (role : Path) (framework : Text)
    → tables ≡ record rows { frameworks = with_suppression rows (record { role = role; framework = framework }) true }
    → tables ≡ effect rows (Suppress framework role)
unfolding effect
effect-suppressed rows tables role framework set = set

pub sorted-revived : (rows tables : Rows) (role : Path) (framework : Text) (content after : Content) (path : Path)
    → IsSame content (content_of rows) → path ≡ client_path role framework
    → tables ≡ revived rows (record { role = role; framework = framework })
    → after ≡ with_change content path (sorter.activated true)
    → IsSame after (content_of tables)
sorted-revived rows tables role framework content after path sorted is set changed =
    let client : Client = record { role = role; framework = framework } in
    IsSame-between after (with_change content path (sorter.activated true)) (with_change (content_of rows) path (sorter.activated true)) (content_of tables)
    changed (IsSame-with_change content (content_of rows) sorted path (sorter.activated true))
    (ap (λ (p : Path). with_change (content_of rows) p (sorter.activated true)) is
    ∙ sym (content_of-suppression rows client false)
    ∙ sym (content_of-filters (record rows { frameworks = with_suppression rows client false }) (filters_without_client client rows.filters))
    ∙ sym (ap content_of set))

pub effect-revived : (rows tables : Rows) (role : Path) (framework : Text)
    → tables ≡ revived rows (record { role = role; framework = framework }) → tables ≡ effect rows (Revive framework role)
unfolding effect
effect-revived rows tables role framework set = set

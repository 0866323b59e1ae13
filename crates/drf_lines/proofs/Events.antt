-- Reading the written line of an event gives the event.
use Rattle.std.proofs.Common.{◌≡◌, ℕ, ◌<◌, ◌≤◌, ◌^◌, ◌==◌, Bool, true, false, List, [], ◌∷◌, map, length, get_or, All, Some, Ok, refl, sym, ap, ◌∙◌, codes, arith}
use Rattle.std.proofs.lemmas.Bool.{le-ltb, le-leb, eqb-true, and_from, false≢true}
use Rattle.std.proofs.lemmas.List.Elements.{All-head, All-tail}
use Rattle.std.specs.Prelude.{suc}
use Rattle.std.specs.Option.{option_map}
use Rattle.std.specs.Str.{IsUtf8}
use Rattle.serde_json.specs.View.{items_of}
use Rattle.serde_json.specs.Read.{read}
use Rattle.drf_role.specs.Parts.{text_of}
use Rattle.drf_bundle.specs.declared.quantities.Entry.{Entry}
use Rattle.drf_bundle.specs.declared.resource.Resource.{Resource}
use Rattle.drf_rows.specs.Tasks.{Start, IsTaskList}
use Rattle.drf_rows.specs.declared.event.Accept as accepting
use Rattle.drf_rows.specs.declared.event.Decline as declining
use Rattle.drf_rows.specs.declared.event.Event.{Event}
use Rattle.drf_rows.specs.declared.event.Event.TheVariants.{AddAgent, RemoveAgent, ActivateAgent, DeactivateAgent, SetAgent, AddFramework, SetFramework, RemoveFramework, Accept, Decline, Rescind, Finish, Suppress, Revive, Reserve, Unreserve, SetWeight, SetLimit, Cycle, Report}
use Rattle.drf_text.specs.Written.{bundle_text, amount_text, quantities_text}
use Rattle.drf_lines.specs.AgentEvents.{its_total, agent_of}
use Rattle.drf_lines.specs.FrameworkEvents.{its_roles, role_value, framework_of, its_client}
use Rattle.drf_lines.specs.OfferEvents.{usual_refusal, accept_event, accept_value, decline_event, decline_value, rescind_event, finish_event}
use Rattle.drf_lines.specs.TaskTexts.{each_in, task_text, values_in, is_few, if_few, values_at, one_text, several_texts, task_texts, start_in, starts_in, start_text, task_value}
use Rattle.drf_lines.specs.ReservationEvents.{its_reservation}
use Rattle.drf_lines.specs.WeightEvents.{its_weight}
use Rattle.drf_lines.specs.LimitEvents.{its_limit}
use Rattle.drf_lines.specs.EventLine.{event_value, event_line}
use Rattle.drf_lines.specs.Object.{has_members, keys, keys_besides, texts_of, text_at, number_at, number_or, texts_at}
use Rattle.drf_lines.specs.Meaning.{cycle_event, report_event, event_in, longest_line, meaning_of}
use Rattle.drf_lines.specs.Resources.{bundle_in, quantities_in, weight_in}
use Rattle.drf_lines.specs.Words.{name_in, roles_in}
use Rattle.drf_lines.specs.Spelled.{IsSpelled}
use Rattle.drf_lines.proofs.Meanings.{meaning_read}
use Rattle.drf_lines.proofs.Spellings.{IsPrinted, text_read, total_printed, agent_printed, framework_printed, client_printed, reservation_printed, finish_printed, weight_printed, limit_printed, report_printed, rescind_printed, cycle_printed, roles_printed, decline_printed, accept_printed}
use Rattle.drf_lines.proofs.Texts.{IsRoleRead}
use Rattle.drf_lines.proofs.Values.{value_read}

-- a value that is printed and read back, and that means the event
spelled : (event : Event) → IsPrinted (event_value event) → event_in (event_value event) ≡ Ok event → IsSpelled event
unfolding event_line
spelled event printed means = record { value = text_read (event_value event) printed; meaning = means }

-- ---- events of agents

pub add_agent_read : (agent : List ℕ) (total : List Resource) → name_in agent ≡ Ok agent → bundle_in (bundle_text total) ≡ Ok total
    → IsSpelled (AddAgent agent total)
unfolding event_in its_total keys has_members text_at
add_agent_read agent total name is = spelled (AddAgent agent total) (total_printed (codes "add_agent") agent total) (rw (name, is) refl)

pub set_agent_read : (agent : List ℕ) (total : List Resource) → name_in agent ≡ Ok agent → bundle_in (bundle_text total) ≡ Ok total
    → IsSpelled (SetAgent agent total)
unfolding event_in its_total keys has_members text_at
set_agent_read agent total name is = spelled (SetAgent agent total) (total_printed (codes "set_agent") agent total) (rw (name, is) refl)

pub remove_agent_read : (agent : List ℕ) → name_in agent ≡ Ok agent
    → IsSpelled (RemoveAgent agent)
unfolding event_in agent_of keys has_members text_at
remove_agent_read agent name = spelled (RemoveAgent agent) (agent_printed (codes "remove_agent") agent) (rw name refl)

pub activate_agent_read : (agent : List ℕ) → name_in agent ≡ Ok agent
    → IsSpelled (ActivateAgent agent)
unfolding event_in agent_of keys has_members text_at
activate_agent_read agent name = spelled (ActivateAgent agent) (agent_printed (codes "activate_agent") agent) (rw name refl)

pub deactivate_agent_read : (agent : List ℕ) → name_in agent ≡ Ok agent
    → IsSpelled (DeactivateAgent agent)
unfolding event_in agent_of keys has_members text_at
deactivate_agent_read agent name = spelled (DeactivateAgent agent) (agent_printed (codes "deactivate_agent") agent) (rw name refl)

-- ---- events of frameworks

texts_found : (roles : List (List (List ℕ))) → texts_of (items_of (map role_value roles)) ≡ Some (map text_of roles)
texts_found [] = refl
texts_found (role ∷ roles) = ap (option_map (λ texts. text_of role ∷ texts)) (texts_found roles)

pub add_framework_read : (framework : List ℕ) (roles : List (List (List ℕ))) → name_in framework ≡ Ok framework
    → roles_in (map text_of roles) ≡ Ok roles
    → IsSpelled (AddFramework framework roles)
unfolding event_in its_roles keys has_members text_at texts_at
add_framework_read framework roles name each =
    spelled (AddFramework framework roles) (roles_printed (codes "add_framework") framework roles) (rw (texts_found roles, name, each) refl)

pub set_framework_read : (framework : List ℕ) (roles : List (List (List ℕ))) → name_in framework ≡ Ok framework
    → roles_in (map text_of roles) ≡ Ok roles
    → IsSpelled (SetFramework framework roles)
unfolding event_in its_roles keys has_members text_at texts_at
set_framework_read framework roles name each =
    spelled (SetFramework framework roles) (roles_printed (codes "set_framework") framework roles) (rw (texts_found roles, name, each) refl)

pub remove_framework_read : (framework : List ℕ) → name_in framework ≡ Ok framework
    → IsSpelled (RemoveFramework framework)
unfolding event_in framework_of keys has_members text_at
remove_framework_read framework name =
    spelled (RemoveFramework framework) (framework_printed (codes "remove_framework") framework) (rw name refl)

pub suppress_read : (framework : List ℕ) (role : List (List ℕ)) → name_in framework ≡ Ok framework → IsRoleRead role
    → IsSpelled (Suppress framework role)
unfolding event_in its_client keys has_members text_at
suppress_read framework role name is =
    spelled (Suppress framework role) (client_printed (codes "suppress") framework role) (rw (name, is) refl)

pub revive_read : (framework : List ℕ) (role : List (List ℕ)) → name_in framework ≡ Ok framework → IsRoleRead role
    → IsSpelled (Revive framework role)
unfolding event_in its_client keys has_members text_at
revive_read framework role name is =
    spelled (Revive framework role) (client_printed (codes "revive") framework role) (rw (name, is) refl)

-- ---- events of offers and tasks

-- the written form of a task can be read
abbrev pub IsStartRead : Start → Type 0
IsStartRead start = start_in (start_text start) ≡ Ok start

pub start_read : (start : Start) → name_in start.0 ≡ Ok start.0 → bundle_in (bundle_text start.1) ≡ Ok start.1 → IsStartRead start
unfolding start_in
start_read start name bundle = rw (name, bundle) refl

-- the written form of each task can be read
pub starts_read : (starts : List Start) → All IsStartRead starts
    → each_in start_in (map start_text starts) ≡ Ok starts
starts_read [] each = refl
starts_read (s ∷ starts) each =
    rw (All-head IsStartRead s starts each, starts_read starts (All-tail IsStartRead s starts each)) refl

texts_read : (starts : List Start) → each_in task_text (values_in (items_of (map task_value starts))) ≡ Ok (map start_text starts)
unfolding task_text keys has_members text_at
texts_read [] = refl
texts_read (s ∷ starts) = rw (texts_read starts) refl

values_few : (starts : List Start) → is_few (length (values_in (items_of (map task_value starts)))) ≡ is_few (length starts)
values_few starts = ap is_few (count starts)
  where
    count : (starts : List Start) → length (values_in (items_of (map task_value starts))) ≡ length starts
    count [] = refl
    count (s ∷ starts) = ap suc (count starts)

few_read : {X : Type 0} (xs : List X) → 1 ≤ length xs → length xs ≤ 16 → is_few (length xs) ≡ true
few_read xs some few = and_from _ _ (le-leb 1 (length xs) some) (le-leb (length xs) 16 few)

-- a list of length 1 consists of its first element
pub only_one : (tasks : List Start) (task : Start) → 1 ≤ length tasks → length tasks < 2 → task ≡ get_or tasks 0 task → tasks ≡ task ∷ []
only_one [] task some few is = absurd (omega (arith, some))
only_one (s ∷ []) task some few is = ap (λ (t : Start). t ∷ []) (sym is)
only_one (s ∷ next ∷ tasks) task some few is = absurd (omega (arith, few))

accept_meant : (a : accepting.Accept) → name_in a.framework ≡ Ok a.framework
    → each_in start_in (map start_text a.tasks) ≡ Ok a.tasks → IsTaskList a.tasks
    → event_in (accept_value a) ≡ Ok (Accept a)
unfolding event_in accept_event task_texts one_text several_texts values_at if_few starts_in keys_besides keys has_members text_at number_at number_or
accept_meant a name tasks list = by a.tasks tasks (few_read a.tasks list.some list.few)
  where
    with_tasks : List Start → accepting.Accept
    with_tasks starts = record a { tasks = starts }

    by : (starts : List Start) → each_in start_in (map start_text starts) ≡ Ok starts → is_few (length starts) ≡ true
        → event_in (accept_value (with_tasks starts)) ≡ Ok (Accept (with_tasks starts))
    by [] each few = absurd (false≢true few)
    by (s ∷ []) each few = by_test (a.refuse_ms == usual_refusal) refl
      where
        by_test : (usual : Bool) → (a.refuse_ms == usual_refusal) ≡ usual
            → event_in (accept_value (with_tasks (s ∷ []))) ≡ Ok (Accept (with_tasks (s ∷ [])))
        by_test true is = rw (is, name, each) (ap (λ time. Ok (Accept (record (with_tasks (s ∷ [])) { refuse_ms = time }))) (sym (eqb-true a.refuse_ms usual_refusal is)))
        by_test false is = rw (is, name, each) refl
    by (s ∷ next ∷ starts) each few = by_test (a.refuse_ms == usual_refusal) refl
      where
        all : List Start
        all = s ∷ next ∷ starts

        by_test : (usual : Bool) → (a.refuse_ms == usual_refusal) ≡ usual
            → event_in (accept_value (with_tasks all)) ≡ Ok (Accept (with_tasks all))
        by_test true is = rw (is, values_few all, few, texts_read all, name, each, few) (ap (λ time. Ok (Accept (record (with_tasks all) { refuse_ms = time }))) (sym (eqb-true a.refuse_ms usual_refusal is)))
        by_test false is = rw (is, values_few all, few, texts_read all, name, each, few) refl

pub accept_read : (a : accepting.Accept) → (a.offer < 2 ^ 64) × (a.at < 2 ^ 64) × (a.refuse_ms < 2 ^ 64) → name_in a.framework ≡ Ok a.framework
    → each_in start_in (map start_text a.tasks) ≡ Ok a.tasks → IsTaskList a.tasks → IsSpelled (Accept a)
accept_read a small name tasks list =
    spelled (Accept a) (accept_printed (codes "accept") a.framework a.offer a.at a.refuse_ms small.0 small.1 small.2 a.tasks)
    (accept_meant a name tasks list)

decline_meant : (d : declining.Decline) → name_in d.framework ≡ Ok d.framework → event_in (decline_value d) ≡ Ok (Decline d)
unfolding event_in decline_event keys_besides keys has_members text_at number_at number_or
decline_meant d name = by_test (d.refuse_ms == usual_refusal) refl
  where
    by_test : (usual : Bool) → (d.refuse_ms == usual_refusal) ≡ usual → event_in (decline_value d) ≡ Ok (Decline d)
    by_test true is = rw (is, name) (ap (λ time. Ok (Decline (record d { refuse_ms = time }))) (sym (eqb-true d.refuse_ms usual_refusal is)))
    by_test false is = rw (is, name) refl

pub decline_read : (d : declining.Decline) → (d.offer < 2 ^ 64) × (d.at < 2 ^ 64) × (d.refuse_ms < 2 ^ 64) → name_in d.framework ≡ Ok d.framework
    → IsSpelled (Decline d)
decline_read d small name =
    spelled (Decline d) (decline_printed (codes "decline") d.framework d.offer d.at d.refuse_ms small.0 small.1 small.2)
    (decline_meant d name)

pub rescind_read : (offer : ℕ) → offer < 2 ^ 64 → IsSpelled (Rescind offer)
unfolding event_in rescind_event keys has_members text_at number_at
rescind_read offer small = spelled (Rescind offer) (rescind_printed offer small) refl

pub finish_read : (framework task : List ℕ) → name_in framework ≡ Ok framework → name_in task ≡ Ok task
    → IsSpelled (Finish framework task)
unfolding event_in finish_event keys has_members text_at
finish_read framework task name task_name =
    spelled (Finish framework task) (finish_printed framework task) (rw (name, task_name) refl)

-- ---- events of reservations

module _ (agent : List ℕ) (role : List (List ℕ)) (resources : List Resource) (name : name_in agent ≡ Ok agent)
    (is : IsRoleRead role) (bundle : bundle_in (bundle_text resources) ≡ Ok resources) where
  pub reserve_read : IsSpelled (Reserve agent role resources)
  unfolding event_in its_reservation keys has_members text_at
  reserve_read = spelled (Reserve agent role resources) (reservation_printed (codes "reserve") agent role resources) (rw (name, is, bundle) refl)

  pub unreserve_read : IsSpelled (Unreserve agent role resources)
  unfolding event_in its_reservation keys has_members text_at
  unreserve_read = spelled (Unreserve agent role resources) (reservation_printed (codes "unreserve") agent role resources) (rw (name, is, bundle) refl)

-- ---- other events

pub weight_read : (role : List (List ℕ)) (weight : ℕ) → IsRoleRead role → weight_in (amount_text weight) ≡ Ok weight
    → IsSpelled (SetWeight role weight)
unfolding event_in its_weight keys has_members text_at
weight_read role weight is said = spelled (SetWeight role weight) (weight_printed role weight) (rw (is, said) refl)

pub limit_read : (role : List (List ℕ)) (limit : List Entry) → IsRoleRead role → quantities_in (quantities_text limit) ≡ Ok limit
    → IsSpelled (SetLimit role limit)
unfolding event_in its_limit keys has_members text_at
limit_read role limit is amounts = spelled (SetLimit role limit) (limit_printed role limit) (rw (is, amounts) refl)

pub cycle_read : (at : ℕ) → at < 2 ^ 64 → IsSpelled (Cycle at)
unfolding event_in cycle_event keys has_members text_at number_at
cycle_read at small = spelled (Cycle at) (cycle_printed at small) refl

pub report_read : IsSpelled Report
unfolding event_in report_event keys has_members text_at
report_read = spelled Report report_printed refl

-- ---- the line

pub line_read : (line : List ℕ) (event : Event) → line ≡ event_line event → IsUtf8 line → IsSpelled event
    → length line ≤ longest_line → meaning_of line ≡ Ok event
line_read line event is utf8 spelled short =
    meaning_read line (event_value event) (le-ltb longest_line (length line) short)
    (value_read line (event_value event) utf8 (ap read is ∙ spelled.value)) ∙ spelled.meaning

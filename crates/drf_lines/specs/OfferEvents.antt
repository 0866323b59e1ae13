-- The events `accept`, `decline`, `rescind` and `finish`, read and written like those of agents.
use Rattle.std.specs.Prelude.{ℕ, ◌==◌, List, Result, Ok, if◌then◌else◌, codes}
use Rattle.serde_json.specs.Data.{Data, number, unsigned, string, object, Members, member, no_members}
use Rattle.drf_rows.specs.declared.event.Accept as accepting
use Rattle.drf_rows.specs.declared.event.Decline as declining
use Rattle.drf_rows.specs.declared.event.Event.{Event}
use Rattle.drf_rows.specs.declared.event.Event.TheVariants.{Accept, Decline, Rescind, Finish}
use Rattle.drf_lines.specs.declared.fault.LineFault.{LineFault}
use Rattle.drf_lines.specs.Fault.{◌>>=◌}
use Rattle.drf_lines.specs.Object.{keys, keys_besides, text_at, number_at, number_or}
use Rattle.drf_lines.specs.Words.{name_in}
use Rattle.drf_lines.specs.TaskTexts.{task_texts, starts_in, tasks_members}

-- the default of `refuse_ms`, in milliseconds
abbrev pub usual_refusal : ℕ
usual_refusal = 5000

-- `refuse_ms` is left out if it is the default
abbrev pub refusal_member : ℕ → Members → Members
refusal_member refuse_ms members =
    if refuse_ms == usual_refusal then members else member (codes "refuse_ms") (number (unsigned refuse_ms)) members

-- the number of the offer, and `refuse_ms`
abbrev pub offer_members : ℕ → ℕ → Members → Members
offer_members offer refuse_ms more = member (codes "offer") (number (unsigned offer)) (refusal_member refuse_ms more)

-- the members that accept and decline have in common, followed by further members
abbrev pub answer_members : List ℕ → List ℕ → ℕ → ℕ → ℕ → Members → Members
answer_members event framework offer at refuse_ms more =
    member (codes "at") (number (unsigned at))
    (member (codes "event") (string event)
    (member (codes "framework") (string framework)
    (offer_members offer refuse_ms more)))

-- an accept event
unfoldable pub accept_event : Data → Result Event LineFault
accept_event value =
    task_texts value >>= λ tasks.
    text_at (codes "framework") value >>= λ framework. number_at (codes "offer") value >>= λ offer.
    number_at (codes "at") value >>= λ at. number_or usual_refusal (codes "refuse_ms") value >>= λ refuse_ms.
    name_in framework >>= λ framework. starts_in tasks >>= λ tasks.
    Ok (Accept (record { framework = framework; offer = offer; tasks = tasks; at = at; refuse_ms = refuse_ms }))

abbrev pub accept_value : accepting.Accept → Data
accept_value a =
    object (answer_members (codes "accept") a.framework a.offer a.at a.refuse_ms (tasks_members a.tasks))

-- a decline event
unfoldable pub decline_event : Data → Result Event LineFault
decline_event value =
    keys_besides (codes "refuse_ms") 4 value >>= λ _.
    text_at (codes "framework") value >>= λ framework. number_at (codes "offer") value >>= λ offer.
    number_at (codes "at") value >>= λ at. number_or usual_refusal (codes "refuse_ms") value >>= λ refuse_ms.
    name_in framework >>= λ framework.
    Ok (Decline (record { framework = framework; offer = offer; at = at; refuse_ms = refuse_ms }))

abbrev pub decline_value : declining.Decline → Data
decline_value d = object (answer_members (codes "decline") d.framework d.offer d.at d.refuse_ms no_members)

-- a rescind event
unfoldable pub rescind_event : Data → Result Event LineFault
rescind_event value = keys 2 value >>= λ _. number_at (codes "offer") value >>= λ offer. Ok (Rescind offer)

abbrev pub rescind_value : ℕ → Data
rescind_value offer =
    object (member (codes "event") (string (codes "rescind")) (member (codes "offer") (number (unsigned offer)) no_members))

-- a finish event
unfoldable pub finish_event : Data → Result Event LineFault
finish_event value =
    keys 3 value >>= λ _. text_at (codes "framework") value >>= λ framework. text_at (codes "task") value >>= λ task.
    name_in framework >>= λ framework. name_in task >>= λ task. Ok (Finish framework task)

abbrev pub finish_value : List ℕ → List ℕ → Data
finish_value framework task = object (
    member (codes "event") (string (codes "finish"))
    (member (codes "framework") (string framework)
    (member (codes "task") (string task)
    no_members)))

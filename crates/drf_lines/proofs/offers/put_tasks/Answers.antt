use Rattle.std.proofs.Common.{◌≡◌, true, List, Ok, map, refl, subst, sym}
use Rattle.std.proofs.lemmas.Result.{on_ok_weaker}
use Rattle.json.specs.Print.{escape_byte}
use Rattle.serde_json.specs.Written.{members_text}
use Rattle.drf_rows.specs.Tasks.{Start}
use Rattle.drf_lines.specs.TaskTexts.{each_in, start_in, start_text, tasks_members}
use Rattle.drf_lines.specs.Written.{AppendsText}
use Rattle.drf_lines.proofs.Events.{only_one}
use Rattle.drf_lines.proofs.offers.put_tasks.Goals as goal

pub returns-in-len1-clause-appends : goal.returns-in-len1-clause-appends
unfolding escape_byte
returns-in-len1-clause-appends c =
    let only = only_one c.args.tasks.now c.task-item.result c.in-len1.len_at_least c.in-len1.len_below c.task-item.is in
    subst (λ (ss : List Start). AppendsText c.put_start.result c.args.line.now.items c.put_start.new.line.items (members_text true (tasks_members ss)))
    (sym only) c.put_start.ensures.appends

pub returns-in-len1-clause-read : goal.returns-in-len1-clause-read
returns-in-len1-clause-read c =
    let only = only_one c.args.tasks.now c.task-item.result c.in-len1.len_at_least c.in-len1.len_below c.task-item.is in
    on_ok_weaker c.put_start.result
    (λ read. subst (λ (ss : List Start). each_in start_in (map start_text ss) ≡ Ok ss) (sym only) (rw read refl)) c.put_start.ensures.read

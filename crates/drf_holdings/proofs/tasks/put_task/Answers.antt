use Rattle.std.proofs.Common.{◌≡◌, ◌+◌, ◌∷◌, [], ◌++◌, List, map, refl, sym, ap, subst, ◌∙◌, append-nil}
use Rattle.std.proofs.lemmas.List.{map-append}
use Rattle.drf_rows.specs.Releases.{is_task}
use Rattle.drf_holdings.specs.Listed.{task_serial, task_row, AreTasksListed, AreTasksKept}
use Rattle.drf_holdings.specs.Rising.{IsRising}
use Rattle.drf_holdings.specs.declared.tasks.Task.{Task}
use Rattle.drf_holdings.proofs.Lists.{on_err}
use Rattle.drf_holdings.proofs.RisingLists.{rising_in}
use Rattle.drf_holdings.proofs.Removed.{unlisted}
use Rattle.drf_holdings.proofs.Running.{kept_in}
use Rattle.drf_holdings.proofs.tasks.put_task.Goals as goal

pub add-requires : goal.add-requires
add-requires c =
    let row = c.args.row in
    c.requires.kept.listed.names (row.framework, row.name)
    ∙ unlisted task_row (is_task row.framework row.name) task_serial c.args.tasks.now c.requires.new

pub returns-in_err-add-clause-err : goal.returns-in_err-add-clause-err
returns-in_err-add-clause-err c =
    let tasks : List Task = c.args.tasks.now in
    let kept = c.requires.kept in
    let same : (tasks ≡ tasks) × AreTasksKept c.add.new.self tasks c.args.serial =
    (refl, record { rising = kept.rising; below = kept.below; listed = c.in_err-add.ensures.err tasks kept.listed }) in
    on_err _ _ same

pub push-requires : goal.push-requires
push-requires c =
    let task : Task = record { row = c.args.row; serial = c.args.serial } in
    rising_in task_serial c.args.tasks.now task c.requires.kept.rising c.requires.kept.below

pub returns-in-Ok-clause-ok : goal.returns-in-Ok-clause-ok
returns-in-Ok-clause-ok c =
    let task : Task = record { row = c.args.row; serial = c.args.serial } in
    ap (map task_row) c.in-Ok.ensures.ok ∙ map-append task_row c.args.tasks.now (task ∷ [])

pub returns-in-Ok-clause-kept : goal.returns-in-Ok-clause-kept
returns-in-Ok-clause-kept c =
    let task : Task = record { row = c.args.row; serial = c.args.serial } in
    subst (λ (ts : List Task). AreTasksKept c.add.new.self ts (c.args.serial + 1)) (sym c.in-Ok.ensures.ok)
    (kept_in c.args.index.now c.add.new.self c.args.tasks.now task c.args.serial refl c.requires.kept
    (c.in_ok-add.ensures.ok c.args.tasks.now c.requires.kept.listed))

pub returns-in-Err-clause-err : goal.returns-in-Err-clause-err
returns-in-Err-clause-err c =
    let tasks : List Task = c.args.tasks.now in
    let kept = c.requires.kept in
    let task : Task = record { row = c.args.row; serial = c.args.serial } in
    let rising : IsRising (map task_serial (tasks ++ task ∷ [])) = rising_in task_serial tasks task kept.rising kept.below in
    let its : task ≡ c.in-Err.failed.value = sym c.in-Err.ensures.back in
    let listed : AreTasksListed c.remove.new.self (tasks ++ []) =
    c.remove.ensures tasks [] (subst (λ (t : Task). IsRising (map task_serial (tasks ++ t ∷ []))) its rising)
    (subst (λ (t : Task). AreTasksListed c.add.new.self (tasks ++ t ∷ [])) its (c.in_ok-add.ensures.ok tasks kept.listed)) in
    let kept_back : AreTasksKept c.remove.new.self c.push.new.self c.args.serial =
    subst (λ (ts : List Task). AreTasksKept c.remove.new.self ts c.args.serial) (sym c.in-Err.ensures.err) (record {
      rising = kept.rising;
      below = kept.below;
      listed = subst (AreTasksListed c.remove.new.self) (append-nil tasks) listed;
    }) in
    (c.in-Err.ensures.err, kept_back)

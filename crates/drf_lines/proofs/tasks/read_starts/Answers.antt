use Rattle.std.proofs.Common.{[], List, ℕ, refl}
use Rattle.std.proofs.lemmas.Result.{err_from_is_err_and}
use Rattle.drf_rows.specs.Tasks.{Start}
use Rattle.drf_lines.specs.TaskTexts.{start_in}
use Rattle.drf_lines.specs.declared.tasks.TaskText.{TaskText}
use Rattle.drf_lines.proofs.EachIn.{each_after-refused, each_after-one, each_after-all}
use Rattle.drf_lines.proofs.tasks.read_starts.Goals as goal

abbrev reported : TaskText → List ℕ × List ℕ
reported t = (t.name.now, t.used.now)

abbrev none : TaskText
none = record { name = record { ref_ptr = (0, 0); now = [] }; used = record { ref_ptr = (0, 0); now = [] } }

pub returns-in_err-read_start : goal.returns-in_err-read_start
returns-in_err-read_start c =
    let p = err_from_is_err_and c.from_residual-in_err-read_start.result c.from_residual-in_err-read_start.ensures.1 in
    rw (p.1, p.2) (each_after-refused start_in reported c.loop-text.starts.items c.args.texts.now _ c.loop-text.invariant _ none c.loop-text-test.true refl
    (λ (s : Start). s) (λ (ss : List Start). ss) c.in_err-read_start.field-0.0 c.in_err-read_start.ensures)

pub loop-text-preserved : goal.loop-text-preserved
loop-text-preserved c =
    rw (c.in_ok-push.ensures.items)
    (each_after-one start_in reported c.loop-text.starts.items c.args.texts.now _ c.loop-text.invariant _ none c.loop-text-test.true refl c.in_ok-read_start.field-0 c.in_ok-read_start.ensures)

pub returns : goal.returns
returns c = rw c.from_vec.ensures (each_after-all start_in reported c.loop-text.starts.items c.args.texts.now _ c.loop-text.invariant c.loop-text-test.false)

use Rattle.std.proofs.Common.{◌++◌, ap, sym, ◌∙◌}
use Rattle.std.proofs.lemmas.Result.{err_from_is_err_and}
use Rattle.drf_explain.specs.Each.{each_by_agent, turns_by_agent}
use Rattle.drf_explain.proofs.EachLaws.{turns_are_reported}
use Rattle.drf_explain.specs.Explained.{suppressed_of}
use Rattle.drf_explain.specs.ExplainedText.{explained_text}
use Rattle.drf_why.specs.Pick.{picked}
use Rattle.drf_rows.specs.declared.rows.Rows.{Rows}
use Rattle.drf_why.proofs.Lists.{text_of, text_of_lists, reported_in}
use Rattle.drf_why.proofs.Writes.{and_then, stopped, unwritten}
use Rattle.drf_why.proofs.explanations.write_cycle.Goals as goal

pub returns-in_err-silent : goal.returns-in_err-silent
returns-in_err-silent g c =
    let p = err_from_is_err_and c.from_residual.result c.from_residual.ensures.1 in
    rw (p.1, p.2) (unwritten _ _)

pub returns-in_err-explanations : goal.returns-in_err-explanations
returns-in_err-explanations g c =
    let p = err_from_is_err_and c.from_residual-in_err-explanations.result c.from_residual-in_err-explanations.ensures.1 in
    rw (p.1, p.2) (unwritten _ _)

pub returns-in_err-write_list : goal.returns-in_err-write_list
returns-in_err-write_list g c =
    let p = err_from_is_err_and c.from_residual-in_err-write_list.result c.from_residual-in_err-write_list.ensures.1 in
    let pick = c.args.pick.now in
    let rows = c.args.rows.now in
    let silent = c.deref.ensures.value ∙ c.in_ok-silent.ensures in
    let whole = text_of_lists pick (suppressed_of rows) (each_by_agent rows c.args.at)
    ∙ ap (λ fs. explained_text (picked pick fs) ++ text_of pick (each_by_agent rows c.args.at)) (sym silent) in
    rw (whole, p.1, p.2) (stopped _ _ _ _ _ c.in_err-write_list.ensures)

pub returns : goal.returns
returns g c =
    let pick = c.args.pick.now in
    let rows = c.args.rows.now in
    let silent = c.deref.ensures.value ∙ c.in_ok-silent.ensures in
    let reported = ap reported_in (c.in_ok-explanations.ensures ∙ ap (λ (r : Rows). turns_by_agent r c.args.at) (sym c.requires.rows)) ∙ turns_are_reported rows c.args.at in
    let whole = text_of_lists pick (suppressed_of rows) (each_by_agent rows c.args.at)
    ∙ (λ i. explained_text (picked pick (sym silent i)) ++ text_of pick (sym reported i)) in
    rw whole (and_then _ _ _ _ _ c.write_agents.result c.in_ok-write_list.ensures c.write_agents.ensures)

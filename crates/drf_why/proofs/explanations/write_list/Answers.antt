use Rattle.std.proofs.Common.{ℕ, List, ◌++◌, ap, subst, ◌∙◌}
use Rattle.std.proofs.lemmas.Result.{err_from_is_err_and}
use Rattle.drf_explain.specs.ExplainedText.{explained_text}
use Rattle.drf_why.specs.Pick.{picked}
use Rattle.drf_why.specs.Written.{HasWritten, output_of}
use Rattle.drf_why.proofs.Writes.{unwritten, written_whole}
use Rattle.drf_why.proofs.explanations.write_list.Goals as goal

pub returns-in_err-write_picked : goal.returns-in_err-write_picked
returns-in_err-write_picked g c =
    let p = err_from_is_err_and c.from_residual.result c.from_residual.ensures.1 in
    rw (p.1, p.2) (unwritten _ _)

pub returns : goal.returns
returns g c =
    let bytes = g.W.Write.contents in
    let wrote = c.write_whole in
    subst (λ (text : List ℕ). HasWritten text (output_of bytes c.args.writer.now) (output_of bytes wrote.new.writer) wrote.result)
    (c.deref.ensures.value ∙ c.in_ok-write_picked.ensures
    ∙ ap (λ text. text ++ explained_text (picked c.args.pick.now c.args.findings.now)) c.new-text.ensures.items)
    (written_whole c.deref.result.now _ _ wrote.result wrote.ensures.ok wrote.ensures.err wrote.ensures.fault wrote.ensures.failed wrote.ensures.flushed)

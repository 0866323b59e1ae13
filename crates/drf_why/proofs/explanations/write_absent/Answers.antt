use Rattle.std.proofs.Common.{ℕ, List, subst, ◌∙◌}
use Rattle.std.proofs.lemmas.Result.{err_from_is_err_and}
use Rattle.drf_why.specs.Written.{HasWritten, output_of}
use Rattle.drf_why.proofs.Writes.{unwritten, written_whole}
use Rattle.drf_why.proofs.explanations.write_absent.Goals as goal

pub returns-in_err-text : goal.returns-in_err-text
returns-in_err-text g c =
    let p = err_from_is_err_and c.from_residual.result c.from_residual.ensures.1 in
    rw (p.1, p.2) (unwritten _ _)

pub returns : goal.returns
returns g c =
    let bytes = g.W.Write.contents in
    let wrote = c.write_whole in
    subst (λ (text : List ℕ). HasWritten text (output_of bytes c.args.writer.now) (output_of bytes wrote.new.writer) wrote.result)
    (c.deref.ensures.value ∙ c.in_ok-text.ensures)
    (written_whole c.deref.result.now _ _ wrote.result wrote.ensures.ok wrote.ensures.err wrote.ensures.fault wrote.ensures.failed wrote.ensures.flushed)

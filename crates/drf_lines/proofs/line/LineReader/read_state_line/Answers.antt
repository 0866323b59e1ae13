use Rattle.std.proofs.lemmas.Result.{err_from_is_err_and}
use Rattle.drf_lines.specs.StateMeaning.{state_line_meaning}
use Rattle.drf_lines.proofs.LineReads.{utf8_of_value}
use Rattle.drf_lines.proofs.Meanings.{state_refused}
use Rattle.drf_lines.proofs.line.LineReader.read_state_line.Goals as goal

pub returns-in_err-value-clause-read : goal.returns-in_err-value-clause-read
returns-in_err-value-clause-read c =
    let p = err_from_is_err_and c.from_residual.result c.from_residual.ensures.1 in
    rw (p.1, p.2) (state_refused _ c.args.line.now c.in_err-value.ensures.read)

pub returns-clause-read : goal.returns-clause-read
unfolding state_line_meaning
returns-clause-read c = rw c.in_ok-value.ensures.read c.read_state_object.ensures

pub returns-clause-utf8 : goal.returns-clause-utf8
returns-clause-utf8 c = λ _. utf8_of_value c.args.line.now _ c.in_ok-value.ensures.read

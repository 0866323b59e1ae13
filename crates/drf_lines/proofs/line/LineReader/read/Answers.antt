use Rattle.std.proofs.Common.{arith}
use Rattle.std.proofs.lemmas.Bool.Decides.{nat_tests}
use Rattle.std.proofs.lemmas.Result.{err_from_is_err_and}
use Rattle.drf_lines.proofs.LineReads.{utf8_of_value}
use Rattle.drf_lines.proofs.Meanings.{meaning_refused, meaning_read, meaning_long}
use Rattle.drf_lines.proofs.line.LineReader.read.Goals as goal

pub returns-then-line-gt-LONGEST_LINE-clause-read : goal.returns-then-line-gt-LONGEST_LINE-clause-read
returns-then-line-gt-LONGEST_LINE-clause-read c = rw (meaning_long c.args.line.now (grind (arith, nat_tests)))

pub returns-in_err-value-clause-read : goal.returns-in_err-value-clause-read
returns-in_err-value-clause-read c =
    let p = err_from_is_err_and c.from_residual.result c.from_residual.ensures.1 in
    rw (p.1, p.2) (meaning_refused _ c.args.line.now (grind (arith, nat_tests)) c.in_err-value.ensures.read)

pub returns-clause-read : goal.returns-clause-read
returns-clause-read c = rw (meaning_read c.args.line.now _ (grind (arith, nat_tests)) c.in_ok-value.ensures.read) c.read_object.ensures

pub returns-clause-utf8 : goal.returns-clause-utf8
returns-clause-utf8 c = λ _. utf8_of_value c.args.line.now _ c.in_ok-value.ensures.read

use Rattle.std.proofs.Common.{rules}
use Rattle.drf_lint.proofs.linter.write_form.Goals as goal

pub returns-clause-err : goal.returns-clause-err
returns-clause-err g c = rw c.if-not-write.false (search rules)

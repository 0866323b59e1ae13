use Rattle.std.proofs.Common.{◌≡◌, ◌<◌, length, arith}
use Rattle.std.proofs.lemmas.Bool.Decides.{nat_tests}
use Rattle.drf_lint.specs.Lint.{lint_of}
use Rattle.drf_lint.proofs.Pieces.{closed-none, closed-some, close-stopped}
use Rattle.drf_lint.proofs.linter.Linter.close.Goals as goal

pub returns-then-is_empty-clause-ok : goal.returns-then-is_empty-clause-ok
returns-then-is_empty-clause-ok g c =
    let none : length c.args.self.now.prefix ≡ 0 = grind (arith, nat_tests) in
    closed-none (lint_of c.args.self.now) none _ _

pub returns-clause-ok : goal.returns-clause-ok
returns-clause-ok g c =
    let some : 0 < length c.args.self.now.prefix = grind (arith, nat_tests) in
    closed-some (lint_of c.args.self.now) (lint_of c.end_line.new.self) some _ _ _ _ c.end_line.result c.end_line.ensures.ok

pub returns-clause-err : goal.returns-clause-err
returns-clause-err g c =
    let some : 0 < length c.args.self.now.prefix = grind (arith, nat_tests) in
    close-stopped (lint_of c.args.self.now) some _ _ _ _ c.end_line.result c.end_line.ensures.err

use Rattle.std.proofs.lemmas.Result.{IfOk-weaker}
use Rattle.drf_core.specs.Machine.{live}
use Rattle.drf_journal.proofs.Checks.{checked-first}
use Rattle.drf_journal.proofs.journal.verify.Goals as goal

pub check-requires-clause-first : goal.check-requires-clause-first
check-requires-clause-first g c = checked-first (live c.args.core) _ c.begin-checker.ensures

pub returns-clause-verdict : goal.returns-clause-verdict
returns-clause-verdict g c =
    IfOk-weaker c.check.result _ _ (λ verdict each. each (live c.args.core) c.begin-checker.ensures) c.check.ensures.verdict

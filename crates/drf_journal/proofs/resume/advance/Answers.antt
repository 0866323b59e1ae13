use Rattle.drf_journal.proofs.Advances.{advanced-whole}
use Rattle.drf_journal.proofs.resume.advance.Goals as goal

pub returns-clause-advanced : goal.returns-clause-advanced
returns-clause-advanced g c =
    advanced-whole c.args.core _ c.begin-session.ensures _ _ _ _ c.in_ok-take_lines.ensures.taken c.into_core.ensures

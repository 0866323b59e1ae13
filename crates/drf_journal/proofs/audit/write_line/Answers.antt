use Rattle.drf_journal.proofs.Audits.{cause-written}
use Rattle.drf_journal.proofs.audit.write_line.Goals as goal

pub returns-clause-cause : goal.returns-clause-cause
returns-clause-cause g c = λ sound. cause-written c.write_whole.result c.write_whole.new.writer.failed (c.write_whole.ensures.failed sound) c.write_whole.ensures.fault

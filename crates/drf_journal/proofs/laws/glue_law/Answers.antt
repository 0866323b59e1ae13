use Rattle.drf_journal.proofs.Glues.{journal-in-two}
use Rattle.drf_journal.proofs.laws.glue_law.Goals as goal

pub returns : goal.returns
returns c = journal-in-two

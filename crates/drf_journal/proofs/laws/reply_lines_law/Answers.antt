use Rattle.drf_journal.proofs.Glues.{replies-passed}
use Rattle.drf_journal.proofs.ReplyLines.{replies_no_events, faults_no_events}
use Rattle.drf_journal.proofs.laws.reply_lines_law.Goals as goal

pub returns : goal.returns
returns c = record { replies = replies_no_events; faults = faults_no_events; passed_over = replies-passed }

use Rattle.drf_rows.specs.Step.{live_rows}
use Rattle.drf_row_laws.proofs.LiveLaws.{reply_to-live, rows_after-live, replies_to-same_live, rows_after_all-same_live, live_rows-twice}
use Rattle.drf_laws.proofs.definition.live_rows_law.Goals as goal

pub returns-clause-reply : goal.returns-clause-reply
returns-clause-reply c = reply_to-live

pub returns-clause-go_on : goal.returns-clause-go_on
returns-clause-go_on c = rows_after-live

pub returns-clause-run : goal.returns-clause-run
returns-clause-run c = λ limits rows events. (
  replies_to-same_live limits (live_rows rows) rows events (live_rows-twice rows),
  rows_after_all-same_live limits (live_rows rows) rows events (live_rows-twice rows),
)

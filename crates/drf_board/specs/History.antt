-- Histories: lists of events with their replies.
use Rattle.std.specs.Prelude.{◌≡◌, List, map}
use Rattle.drf_rows.specs.LimitNumbers.{LimitNumbers}
use Rattle.drf_rows.specs.Step.{replies_to, rows_after_all}
use Rattle.drf_rows.specs.declared.event.Event.{Event}
use Rattle.drf_rows.specs.declared.reply.Reply.{Reply}
use Rattle.drf_rows.specs.declared.rows.Rows.{Rows}
use Rattle.drf_board.specs.declared.entry.Entry.{Entry}

-- an event with its reply
abbrev pub entry : Event → Reply → Entry
entry event reply = record { event = event; reply = reply }

-- the events of entries
abbrev pub events_of : List Entry → List Event
events_of entries = map (λ e. e.event) entries

-- the replies of entries
abbrev pub replies_of : List Entry → List Reply
replies_of entries = map (λ e. e.reply) entries

-- the replies are those that the definition gives to these events under these limits, from the rows `start` (`opening` for an empty cluster)
unfoldable pub IsLegal : LimitNumbers → Rows → List Entry → Type 0
IsLegal limits start entries = replies_of entries ≡ replies_to limits start (events_of entries)

-- the rows after these entries, from the rows `start`
unfoldable pub rows_of : LimitNumbers → Rows → List Entry → Rows
rows_of limits start entries = rows_after_all limits start (events_of entries)

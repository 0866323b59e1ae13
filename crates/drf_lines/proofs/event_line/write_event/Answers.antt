use Rattle.std.proofs.Common.{IsUtf8, sym, subst}
use Rattle.std.proofs.lemmas.Str.{IsUtf8-nil}
use Rattle.drf_lines.proofs.Events.{line_read}
use Rattle.drf_lines.proofs.event_line.write_event.Goals as goal

pub returns-clause-read : goal.returns-clause-read
returns-clause-read c =
    let utf8 = c.in_ok-push_event.ensures.appends.utf8 (subst IsUtf8 (sym c.new-line.ensures.items) IsUtf8-nil) in
    line_read c.push_event.new.text.items c.args.event.now (rw c.new-line.ensures.items at c.in_ok-push_event.ensures.appends.ok) utf8 c.in_ok-push_event.ensures.read

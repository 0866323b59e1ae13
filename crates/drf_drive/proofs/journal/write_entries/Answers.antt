use Rattle.std.proofs.Common.{◌+◌, take, drop, subst}
use Rattle.std.proofs.lemmas.Result.{err_from_is_err_and, on_err_weaker}
use Rattle.drf_journal.specs.Device.{AppendsPrefixOf}
use Rattle.drf_drive.specs.JournalText.{entry_text, journal_text}
use Rattle.drf_drive.proofs.Sent.{prefix-nothing, sent-prefix, sent-more, sent-waits, text-next, text-parts}
use Rattle.drf_drive.proofs.journal.write_entries.Goals as goal

pub returns-in_err-push_entry-clause-err : goal.returns-in_err-push_entry-clause-err
returns-in_err-push_entry-clause-err g c =
    let entries = c.args.entries.now in
    let i = c.loop-entry.entry-index in
    let p = err_from_is_err_and c.from_residual.result c.from_residual.ensures.1 in
    rw p.1 (sent-prefix _ _ _ (journal_text (take i entries)) c.loop-entry.text.items (journal_text (drop i entries)) _
    c.loop-entry.invariant.sent (prefix-nothing _ _) (text-parts entries i))

pub returns-in_err-send_long-clause-err : goal.returns-in_err-send_long-clause-err
returns-in_err-send_long-clause-err g c =
    let entries = c.args.entries.now in
    let i = c.loop-entry.entry-index in
    let entry = c.entry-item.result in
    let waits = sent-waits _ _ (journal_text (take i entries)) c.loop-entry.text.items (entry_text entry) (journal_text (take (i + 1) entries))
    c.push_entry.new.text.items c.loop-entry.invariant.sent (text-next entries i entry c.loop-entry-test.true c.entry-item.is) c.in_ok-push_entry.ensures in
    let p = err_from_is_err_and c.from_residual-in_err-send_long.result c.from_residual-in_err-send_long.ensures.1 in
    rw p.1 (sent-prefix _ _ _ (journal_text (take (i + 1) entries)) c.push_entry.new.text.items (journal_text (drop (i + 1) entries)) _
    waits c.in_err-send_long.ensures.err (text-parts entries (i + 1)))

pub loop-entry-preserved : goal.loop-entry-preserved
loop-entry-preserved g c =
    let entries = c.args.entries.now in
    let i = c.loop-entry.entry-index in
    let entry = c.entry-item.result in
    let waits = sent-waits _ _ (journal_text (take i entries)) c.loop-entry.text.items (entry_text entry) (journal_text (take (i + 1) entries))
    c.push_entry.new.text.items c.loop-entry.invariant.sent (text-next entries i entry c.loop-entry-test.true c.entry-item.is) c.in_ok-push_entry.ensures in
    record {
      sent = sent-more _ _ _ _ _ _ waits c.in_ok-send_long.ensures.ok;
      sound = c.in_ok-send_long.ensures.cause.1;
      flushed = λ was. c.in_ok-send_long.ensures.flushed (c.loop-entry.invariant.flushed was) c.in_ok-send_long.ensures.cause.1;
    }

pub returns-clause-err : goal.returns-clause-err
returns-clause-err g c =
    let entries = c.args.entries.now in
    let i = c.loop-entry.entry-index in
    let old = g.W.Write.contents c.loop-entry.writer.inner in
    let new = g.W.Write.contents c.write_whole.new.writer.inner in
    on_err_weaker c.write_whole.result
    (λ prefix. sent-prefix _ old new (journal_text (take i entries)) c.loop-entry.text.items (journal_text (drop i entries)) _ c.loop-entry.invariant.sent
    (subst (AppendsPrefixOf old new) c.deref.ensures.value prefix) (text-parts entries i))
    c.write_whole.ensures.err

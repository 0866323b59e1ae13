use Rattle.std.proofs.Common.{◌≡◌, ℕ, ◌+◌, false, List, ◌++◌, ap, ◌∙◌, subst}
use Rattle.drf_core.specs.Machine.{live}
use Rattle.drf_journal.specs.Checking.{Check, after_event_line}
use Rattle.drf_journal.specs.State.{answer_to}
use Rattle.drf_journal.proofs.Checks.{event-line-is}
use Rattle.drf_journal.proofs.checker.Checker.end_event_line.Goals as goal

pub returns : goal.returns
returns g c =
    let inside = c.self.inside in
    let old : Check = record { machine = live inside.core; line = inside.line; due = inside.due; events = inside.events } in
    let new : Check = record {
      machine = live c.reply_to_parted_line.new.core;
      line = c.clear.new.self;
      due = c.of.result;
      events = inside.events + 1;
    } in
    let text = c.in_ok-reply_to_parted_line.ensures.reported
    ∙ ap (λ (none : List ℕ). none ++ answer_to false old.machine (old.line ++ c.args.end.now)) c.in_ok-text.ensures.items in
    subst (λ (s : Check). new ≡ after_event_line s c.args.end.now) c.self.view_is
    (event-line-is old c.args.end.now (live c.reply_to_parted_line.new.core) c.clear.new.self c.reply_to_parted_line.new.text.items c.of.result
    c.in_ok-reply_to_parted_line.ensures.ok c.clear.ensures c.of.ensures text)

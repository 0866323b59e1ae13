use Rattle.std.proofs.Common.{◌≡◌, ◌+◌, [], ◌∷◌, ◌++◌, ◌∙◌, sym, subst}
use Rattle.drf_core.specs.Machine.{live}
use Rattle.drf_journal.specs.State.{State, after_piece}
use Rattle.drf_journal.proofs.Pieces.{with_line, piece-line}
use Rattle.drf_journal.proofs.session.Session.end_line.Goals as goal

pub returns-clause-ok : goal.returns-clause-ok
returns-clause-ok g c =
    let inside = c.self.inside in
    let old : State = record { machine = live inside.core; echo = inside.echo; pending = inside.pending; unsent = inside.unsent.items; lines = inside.lines } in
    let machine = c.in_ok-reply_to_parted_line.ensures.ok in
    let pending = c.clear.ensures in
    let unsent = c.in_ok-reply_to_parted_line.ensures.reported in
    let new : State = record {
      machine = live c.reply_to_parted_line.new.core;
      echo = inside.echo;
      pending = c.clear.new.self;
      unsent = c.reply_to_parted_line.new.text.items;
      lines = inside.lines + 1;
    } in
    let step : new ≡ with_line old (old.pending ++ c.args.end.now) = λ i. record {
      machine = machine i;
      echo = inside.echo;
      pending = pending i;
      unsent = unsent i;
      lines = inside.lines + 1;
    } in
    subst (λ (s : State). new ≡ after_piece s (c.args.end.now ++ 10 ∷ [])) c.self.view_is (step ∙ sym (piece-line old c.args.end.now c.requires.within))

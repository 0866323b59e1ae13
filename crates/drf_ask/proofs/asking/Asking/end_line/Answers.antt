use Rattle.std.proofs.Common.{◌≡◌, ◌+◌, ◌++◌, ap, ◌∙◌, subst}
use Rattle.std.proofs.KnownBytes.{Appends-nil}
use Rattle.std.proofs.lemmas.Result.{err_from_is_err_and}
use Rattle.std.specs.Io.KnownBytes.{Appends}
use Rattle.drf_core.specs.Machine.{live}
use Rattle.drf_journal.specs.Output.{kept_of}
use Rattle.drf_ask.specs.Asked.{text_for, after_asked}
use Rattle.drf_ask.specs.Asking.{Asking, after_line, count_of, HasPart}
use Rattle.drf_ask.proofs.Steps.{part_of_view}
use Rattle.drf_ask.proofs.asking.Asking.end_line.Goals as goal

pub returns-in_err-keep-clause-err : goal.returns-in_err-keep-clause-err
unfolding HasPart
returns-in_err-keep-clause-err g c =
    let p = err_from_is_err_and c.from_residual.result c.from_residual.ensures.1 in
    rw (p.1, p.2) (Appends-nil _)

pub returns-in_err-answer_line-clause-err : goal.returns-in_err-answer_line-clause-err
returns-in_err-answer_line-clause-err g c =
    let p = err_from_is_err_and c.from_residual-in_err-answer_line.result c.from_residual-in_err-answer_line.ensures.1 in
    let inside = c.self.inside in
    let old : Asking = record { machine = live inside.core; echo = inside.echo; pending = inside.pending; events = inside.events } in
    rw (p.1, p.2)
    (part_of_view _ _ _ c.args.end.now _ old _ c.in_ok-keep.ensures c.self.view_is c.in_err-answer_line.ensures.err)

pub returns-clause-written : goal.returns-clause-written
returns-clause-written g c =
    let inside = c.self.inside in
    let same = ap (text_for inside.echo (live inside.core)) c.in_ok-keep.ensures in
    let before = g.W.Write.contents c.args.writer.now.inner in
    let after = g.W.Write.contents c.answer_line.new.writer.inner in
    subst (λ (a : Asking). Appends before after (text_for a.echo a.machine (kept_of (a.pending ++ c.args.end.now)))) c.self.view_is
    (subst (Appends before after) same c.in_ok-answer_line.ensures.written)

pub returns-clause-ok : goal.returns-clause-ok
returns-clause-ok g c =
    let inside = c.self.inside in
    let old : Asking = record { machine = live inside.core; echo = inside.echo; pending = inside.pending; events = inside.events } in
    let machine = c.in_ok-answer_line.ensures.ok ∙ ap (after_asked (live inside.core)) c.in_ok-keep.ensures in
    let count = c.count_of-count.ensures.count ∙ ap count_of (c.bytes.ensures ∙ c.in_ok-keep.ensures) in
    let pending = c.clear.ensures in
    let new : Asking = record {
      machine = live c.answer_line.new.core;
      echo = inside.echo;
      pending = c.clear.new.self;
      events = inside.events + c.count_of-count.result;
    } in
    let step : new ≡ after_line old (kept_of (old.pending ++ c.args.end.now)) = λ i. record {
      machine = machine i;
      echo = inside.echo;
      pending = pending i;
      events = inside.events + count i;
    } in
    subst (λ (a : Asking). new ≡ after_line a (kept_of (a.pending ++ c.args.end.now))) c.self.view_is step

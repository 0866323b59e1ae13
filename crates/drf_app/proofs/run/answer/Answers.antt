use Rattle.std.specs.Prelude.{Bool}
use Rattle.std.proofs.Common.{subst, sym, ◌∙◌}
use Rattle.drf_core.specs.Machine.{live}
use Rattle.drf_app.specs.Done.{HasAnsweredAs}
use Rattle.drf_app.proofs.run.answer.Goals as goal

pub run_asked-requires-clause-limits : goal.run_asked-requires-clause-limits
unfolding live
run_asked-requires-clause-limits g c = c.full.ensures ∙ sym c.requires.limits

pub returns-then-ask-clause-run : goal.returns-then-ask-clause-run
returns-then-ask-clause-run g c =
    subst (λ (ask : Bool). HasAnsweredAs ask (live c.args.core) c.args.echo (g.R.Read.remaining c.args.input.now.inner)
    (g.R.Read.remaining c.run_asked.new.reader.inner) (g.W.Write.contents c.args.output.now.inner)
    (g.W.Write.contents c.run_asked.new.writer.inner) c.run_asked.result) (sym c.if-ask.true) c.run_asked.ensures.run

pub returns-clause-run : goal.returns-clause-run
returns-clause-run g c =
    subst (λ (ask : Bool). HasAnsweredAs ask (live c.args.core) c.args.echo (g.R.Read.remaining c.args.input.now.inner)
    (g.R.Read.remaining c.run.new.reader.inner) (g.W.Write.contents c.args.output.now.inner)
    (g.W.Write.contents c.run.new.writer.inner) c.run.result) (sym c.if-ask.false) c.run.ensures.run

use Rattle.std.proofs.Common.{◌≡◌, Result, Ok, Err, ◌∙◌}
use Rattle.std.specs.Prelude.{OnOk, OnErr}
use Rattle.std.proofs.lemmas.Result.{IfOk-weaker}
use Rattle.drf_rows.specs.Step.{reply_to}
use Rattle.drf_core.specs.Machine.{Engine, live, IsSame}
use Rattle.drf_core.proofs.MachineLaws.{live-after, reply_to-seen}
use Rattle.drf_journal.proofs.answer.take_event.Goals as goal

-- a consequence of what holds at `Ok`
at_ok : {T E A B : Type 0} (r : Result T E) → (A → B) → OnOk r A → OnOk r B
at_ok (Ok x) f h = f h
at_ok (Err e) f h = h

pub returns-clause-reported : goal.returns-clause-reported
returns-clause-reported g c =
    IfOk-weaker c.step.result (λ reply. reply ≡ reply_to c.args.core.now.limits c.args.core.now.rows c.args.event)
    (λ reply. reply ≡ reply_to (live c.args.core.now).limits (live c.args.core.now).rows c.args.event)
    (λ reply reported. reported ∙ reply_to-seen c.args.core.now c.args.event) c.step.ensures.reply

pub returns-clause-ok : goal.returns-clause-ok
returns-clause-ok g c = at_ok c.step.result (live-after c.args.core.now c.step.new.self c.args.event) c.step.ensures.ok

-- a consequence of what holds at `Err`
at_err : {T E A B : Type 0} (r : Result T E) → (A → B) → OnErr r A → OnErr r B
at_err (Ok x) f h = h
at_err (Err e) f h = f h

same_seen : (old new : Engine) → IsSame old new → live new ≡ live old
unfolding live
same_seen old new is = λ i. record { limits = is.limits i; rows = is.rows i }

pub returns-clause-err : goal.returns-clause-err
returns-clause-err g c = at_err c.step.result (same_seen c.args.core.now c.step.new.self) c.step.ensures.err

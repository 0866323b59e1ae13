use Rattle.drf_board.specs.History.{entry}
use Rattle.drf_master.specs.Receipts.{Keeps}
use Rattle.drf_master.proofs.Scripts.{if_ok, keeps-same}
use Rattle.drf_master.proofs.master.Master.call_held.Goals as goal

pub returns-in-Ok-clause-kept : goal.returns-in-Ok-clause-kept
returns-in-Ok-clause-kept g c =
    if_ok (λ (r : _). Keeps c.make_ready.new.pass c.call_ready.new.pass r.0.place (entry c.args.event r.0.reply))
    (λ (r : _). Keeps c.args.pass.now c.call_ready.new.pass r.0.place (entry c.args.event r.0.reply)) c.call_ready.result
    (λ (r : _). keeps-same c.args.pass.now c.make_ready.new.pass c.call_ready.new.pass r.0.place (entry c.args.event r.0.reply) c.make_ready.ensures.same)
    c.call_ready.ensures.kept

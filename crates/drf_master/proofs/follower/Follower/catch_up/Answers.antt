use Rattle.std.proofs.Common.{refl, arith}
use Rattle.drf_master.proofs.Followers.{taken-at, taken-next}
use Rattle.drf_master.proofs.Runs.{taken-same}
use Rattle.drf_master.proofs.follower.Follower.catch_up.Goals as goal

pub loop-place-preserved : goal.loop-place-preserved
loop-place-preserved g c = (
  refl,
  taken-next c.args.self.now.core.limits g.K.Naming.start c.args.entries.now c.loop-place.self.core c.step.new.self c.loop-place.place c.index-entries-place.result
      c.in_ok-event.event c.loop-place.invariant.1 c.loop-place-test.true c.index-entries-place.is c.in_ok-event.ensures c.in_ok-step.ensures.ok,
)

pub returns-in_err-event-clause-taken : goal.returns-in_err-event-clause-taken
returns-in_err-event-clause-taken g c =
    taken-at c.args.self.now.core.limits g.K.Naming.start c.args.entries.now c.loop-place.self.core c.loop-place.self.taken c.loop-place.place
    c.loop-place.invariant.0 c.loop-place.invariant.1

pub returns-in_err-step-clause-taken : goal.returns-in_err-step-clause-taken
returns-in_err-step-clause-taken g c =
    taken-at c.args.self.now.core.limits g.K.Naming.start c.args.entries.now c.step.new.self c.loop-place.self.taken c.loop-place.place c.loop-place.invariant.0
    (taken-same c.args.self.now.core.limits g.K.Naming.start c.args.entries.now c.loop-place.self.core c.step.new.self c.loop-place.place
    c.loop-place.invariant.1 c.in_err-step.ensures.err)

pub returns-clause-taken : goal.returns-clause-taken
returns-clause-taken g c =
    taken-at c.args.self.now.core.limits g.K.Naming.start c.args.entries.now c.loop-place.self.core c.loop-place.self.taken c.loop-place.place
    c.loop-place.invariant.0 c.loop-place.invariant.1

pub returns-clause-ok : goal.returns-clause-ok
returns-clause-ok g c = omega (arith, c.loop-place.invariant.0, c.loop-place.invariant.1.few, c.loop-place-test.false)

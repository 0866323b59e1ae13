use Rattle.std.proofs.Common.{◌∙◌}
use Rattle.drf_gates.specs.quota.Allowance.{used_at}
use Rattle.drf_rows.specs.Quota.{binds, room_under}
use Rattle.drf_explain.specs.Explained.{tighter}
use Rattle.drf_explain.proofs.Found.{fold_more, fold_over, found_of}
use Rattle.drf_explain.proofs.gates.tightest.Goals as goal

pub loop-limit-preserved : goal.loop-limit-preserved
loop-limit-preserved c =
    fold_more _ _ c.args.limits.now c.loop-limit.limit-index _ _ c.limit-item.result c.loop-limit-test.true c.limit-item.is c.tightest_with-found.ensures
    c.loop-limit.invariant

pub returns : goal.returns
returns c =
    fold_over _ _ c.args.limits.now c.loop-limit.limit-index _ c.loop-limit-test.false c.loop-limit.invariant
    ∙ found_of (binds c.args.role.now c.args.label.now) (tighter (room_under (used_at c.args.quota.now.used) c.args.label.now)) c.args.limits.now

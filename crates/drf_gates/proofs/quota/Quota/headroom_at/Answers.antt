use Rattle.std.proofs.Common.{◌≡◌, ◌∙◌, arith, [], ap, sym}
use Rattle.drf_rows.specs.Quota.{headroom_under}
use Rattle.drf_gates.specs.quota.Prefix.{limits_at}
use Rattle.drf_gates.specs.quota.Allowance.{Allowance, used_at}
use Rattle.drf_gates.proofs.quota.Rows.{headroom_at-its}
use Rattle.drf_gates.proofs.quota.Least.{least_begun, least_next, least_end}
use Rattle.drf_gates.proofs.quota.Quota.headroom_at.Goals as goal

pub loop-len-init : goal.loop-len-init
loop-len-init c =
    least_begun (used_at c.args.self.now.used) c.args.role.now c.args.label.now c.args.self.now.limits
    (ap (λ (a : Allowance). limits_at [] a.limits) (sym c.self.view_is) ∙ c.recall.ensures)

pub loop-len-preserved : goal.loop-len-preserved
loop-len-preserved c =
    let a : Allowance = c.args.self.now in
    least_next (used_at a.used) c.args.role.now c.args.label.now c.loop-len.len a.limits c.loop-len.least c.prefix_room-least.result
    (omega (arith, c.len-prefixes.ensures.len)) c.loop-len.invariant c.prefix_room-least.ensures

pub returns-clause-value : goal.returns-clause-value
returns-clause-value c =
    let a : Allowance = c.args.self.now in
    c.loop-len.invariant
    ∙ least_end (used_at a.used) c.args.role.now c.args.label.now c.loop-len.len a.limits (omega (arith, c.len-prefixes.ensures.len))

pub returns-clause-of_rows : goal.returns-clause-of_rows
returns-clause-of_rows c =
    let a : Allowance = c.args.self.now in
    let value : c.loop-len.least ≡ headroom_under a.limits (used_at a.used) c.args.role.now c.args.label.now =
    c.loop-len.invariant
    ∙ least_end (used_at a.used) c.args.role.now c.args.label.now c.loop-len.len a.limits (omega (arith, c.len-prefixes.ensures.len)) in
    λ rows its. value ∙ headroom_at-its rows a its c.args.role.now c.args.label.now

use Rattle.std.proofs.Common.{sym, ◌∙◌, arith, [], ap}
use Rattle.drf_rows.specs.Quota.{stays_within}
use Rattle.drf_gates.specs.quota.Prefix.{limits_at}
use Rattle.drf_gates.specs.quota.Allowance.{Allowance, used_at}
use Rattle.drf_gates.proofs.quota.Leave.{prefix_fails, prefixes_pass, none_passes}
use Rattle.drf_gates.proofs.quota.Quota.admits_one.Goals as goal

pub loop-len-init : goal.loop-len-init
loop-len-init c =
    none_passes (stays_within (used_at c.args.self.now.used) c.args.more.now) c.args.role.now c.args.more.now.label c.args.self.now.limits
    (ap (λ (a : Allowance). limits_at [] a.limits) (sym c.self.view_is) ∙ c.recall.ensures)

pub returns-then-not-prefix_admits : goal.returns-then-not-prefix_admits
returns-then-not-prefix_admits c =
    prefix_fails (stays_within (used_at c.args.self.now.used) c.args.more.now) c.args.role.now c.args.more.now.label c.args.self.now.limits c.loop-len.len
    (omega (arith, c.len-prefixes.ensures.len)) (sym c.prefix_admits.ensures ∙ c.if-not-prefix_admits.true)

pub returns : goal.returns
returns c =
    prefixes_pass (stays_within (used_at c.args.self.now.used) c.args.more.now) c.args.role.now c.args.more.now.label c.args.self.now.limits
    (λ n few. c.loop-len.invariant n (omega (arith, c.len-prefixes.ensures.len)))

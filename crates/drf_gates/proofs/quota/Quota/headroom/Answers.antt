use Rattle.std.proofs.Common.{◌≡◌, List, ap, ◌∙◌, arith, [], sym}
use Rattle.drf_bundle.specs.declared.quantities.Entry.{Entry}
use Rattle.drf_rows.specs.Quota.{headrooms}
use Rattle.drf_bundle.specs.Quantities.{known_amount}
use Rattle.drf_gates.specs.quota.Prefix.{limits_at}
use Rattle.drf_gates.specs.quota.Allowance.{Allowance, used_at}
use Rattle.drf_gates.proofs.quota.Rows.{headroom-its}
use Rattle.drf_gates.proofs.quota.Room.{headrooms_are}
use Rattle.drf_gates.proofs.quota.Least.{least_begun, least_next, least_end}
use Rattle.drf_gates.proofs.quota.Quota.headroom.Goals as goal

pub loop-len-init : goal.loop-len-init
loop-len-init c = λ label.
    ap (λ (es : List Entry). known_amount es label) c.empty-room.ensures
    ∙ least_begun (used_at c.args.self.now.used) c.args.role.now label c.args.self.now.limits
    (ap (λ (a : Allowance). limits_at [] a.limits) (sym c.self.view_is) ∙ c.recall.ensures)

pub loop-len-preserved : goal.loop-len-preserved
loop-len-preserved c =
    let a : Allowance = c.args.self.now in
    λ label.
    least_next (used_at a.used) c.args.role.now label c.loop-len.len a.limits (known_amount c.loop-len.room label)
    (known_amount c.add_prefix.new.room label) (omega (arith, c.len-prefixes.ensures.len)) (c.loop-len.invariant label)
    (c.in_ok-add_prefix.ensures label)

pub returns-clause-value : goal.returns-clause-value
returns-clause-value c =
    let a : Allowance = c.args.self.now in
    headrooms_are (used_at a.used) c.args.role.now a.limits c.loop-len.room c.recall-2.ensures (λ label.
    c.loop-len.invariant label
    ∙ least_end (used_at a.used) c.args.role.now label c.loop-len.len a.limits (omega (arith, c.len-prefixes.ensures.len)))

pub returns-clause-of_rows : goal.returns-clause-of_rows
returns-clause-of_rows c =
    let a : Allowance = c.args.self.now in
    let value : c.loop-len.room ≡ headrooms a.limits (used_at a.used) c.args.role.now =
    headrooms_are (used_at a.used) c.args.role.now a.limits c.loop-len.room c.recall-2.ensures (λ label.
    c.loop-len.invariant label
    ∙ least_end (used_at a.used) c.args.role.now label c.loop-len.len a.limits (omega (arith, c.len-prefixes.ensures.len))) in
    λ rows its. value ∙ headroom-its rows a its c.args.role.now

use Rattle.std.proofs.Common.{◌≡◌, ℕ, ◌≤◌, length, nat_le, take, ap, sym, ◌∙◌, arith, length-take-le, []}
use Rattle.std.specs.List.{list_all}
use Rattle.std.proofs.lemmas.List.{length-take}
use Rattle.drf_role.specs.Path.{Path}
use Rattle.drf_rows.specs.Quota.{room_under}
use Rattle.drf_gates.specs.quota.Prefix.{limits_at, passes_one}
use Rattle.drf_gates.specs.quota.Allowance.{Allowance, used_at}
use Rattle.drf_gates.proofs.quota.Rows.{leaves-its}
use Rattle.drf_gates.proofs.quota.Leave.{prefix_little, prefixes_leave, none_passes}
use Rattle.drf_gates.proofs.quota.Quota.short_prefix.Goals as goal

-- a role that begins with the same parts has at least as many
as_many : (role other : Path) (len : ℕ) → len ≤ length role → take len other ≡ take len role → len ≤ length other
as_many role other len within same =
    let size = ap (λ (p : Path). length p) same in
    omega (arith, size, length-take len other, length-take-le len role within)

pub loop-len-init : goal.loop-len-init
loop-len-init c =
    let a : Allowance = c.args.self.now in
    none_passes (λ l. nat_le c.args.least (room_under (used_at a.used) c.args.label.now l)) c.args.role.now c.args.label.now a.limits
    (ap (λ (a : Allowance). limits_at [] a.limits) (sym c.self.view_is) ∙ c.recall.ensures)

pub returns-then-not-prefix_leaves-clause-first : goal.returns-then-not-prefix_leaves-clause-first
returns-then-not-prefix_leaves-clause-first c = record {
  short = sym c.prefix_leaves.ensures ∙ c.if-not-prefix_leaves.true;
  first = λ fewer few. c.loop-len.invariant fewer few;
}

pub returns-clause-none : goal.returns-clause-none
returns-clause-none c none len few = c.loop-len.invariant len (omega (arith, c.len-prefixes.ensures.len))

-- the limit of the prefix leaves as little to the other role
pub returns-then-not-prefix_leaves-clause-short : goal.returns-then-not-prefix_leaves-clause-short
returns-then-not-prefix_leaves-clause-short c rows other its same =
    let a : Allowance = c.args.self.now in
    let within : c.loop-len.len ≤ length c.args.role.now = omega (arith, c.len-prefixes.ensures.len) in
    let little = ap (λ (p : Path). list_all (passes_one (λ l. nat_le c.args.least (room_under (used_at a.used) c.args.label.now l)) c.args.label.now) (limits_at p a.limits)) same
    ∙ sym c.prefix_leaves.ensures ∙ c.if-not-prefix_leaves.true in
    sym (leaves-its rows a its other c.args.label.now c.args.least)
    ∙ sym (prefix_little (used_at a.used) other c.args.label.now c.args.least a.limits c.loop-len.len
    (as_many c.args.role.now other c.loop-len.len within same) little)

pub returns-clause-enough : goal.returns-clause-enough
returns-clause-enough c none rows its =
    let a : Allowance = c.args.self.now in
    sym (leaves-its rows a its c.args.role.now c.args.label.now c.args.least)
    ∙ sym (prefixes_leave (used_at a.used) c.args.role.now c.args.label.now c.args.least a.limits
    (λ n few. c.loop-len.invariant n (omega (arith, c.len-prefixes.ensures.len))))

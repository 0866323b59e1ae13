use Rattle.std.proofs.Common.{List, sym, ap, subst, arith}
use Rattle.drf_role.specs.Path.{Path}
use Rattle.drf_gates.specs.quota.Allowance.{Usage, used_at}
use Rattle.drf_gates.specs.quota.Totals.{IsCounted}
use Rattle.drf_gates.proofs.quota.Total.{raised_beside}
use Rattle.drf_gates.proofs.quota.Used.{bounded-raised, used_by_le, within_itself}
use Rattle.drf_gates.proofs.quota.consumption.Consumption.consume.Goals as goal

pub raise-requires : goal.raise-requires
raise-requires c = λ label.
    let role : Path = c.args.role.now in
    omega (
      arith,
      c.requires role label c.recall.ensures.right (within_itself role),
      ap (λ (us : List Usage). used_at us role label) c.self.view_is,
      used_by_le c.self.inside.used.entries role label,
    )

pub invariant_of-self : goal.invariant_of-self
invariant_of-self c =
    subst (λ (us : List Usage). IsCounted us c.self.inside.totals.entries) (sym c.in_err-raise.ensures.err) c.self.invariant

pub invariant_of-self-2 : goal.invariant_of-self-2
invariant_of-self-2 c =
    let old : List Usage = c.self.inside.used.entries in
    let new : List Usage = c.raise.new.used.entries in
    raised_beside old new c.args.role.now c.args.amounts.now c.self.inside.totals.entries c.raise_totals.new.totals.entries
    c.self.invariant c.raise.ensures.some c.in_ok-raise.ensures.ok
    (bounded-raised c.raise.result old new c.args.role.now c.args.amounts.now c.raise.ensures.ok c.raise.ensures.err c.self.invariant.bounded
    (λ outer label right within.
    omega (arith, c.requires outer label right within, ap (λ (us : List Usage). used_at us outer label) c.self.view_is)))
    c.raise_totals.ensures

use Rattle.std.proofs.Common.{◌≡◌, arith, subst, sym}
use Rattle.drf_rows.specs.declared.rows.Rows.{Rows}
use Rattle.drf_core.specs.Keeping.{IsStanding}
use Rattle.drf_core.proofs.allocator.Core.assemble.Goals as goal

pub invariant_of-result : goal.invariant_of-result
invariant_of-result g c =
    let same : c.in_ok-new.field-0.value.rows ≡ c.args.tables.rows = grind (arith, c.in_ok-new.ensures.ok) in
    subst (λ (r : Rows). IsStanding c.args.limits r) (sym same) c.requires.standing

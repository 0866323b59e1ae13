use Rattle.std.proofs.Common.{◌≡◌, Some, rules, sym, ap, ◌∙◌}
use Rattle.std.specs.Option.{option_copied}
use Rattle.drf_amount.specs.declared.algebra.AlgebraFault.TheVariants.{Memory}
use Rattle.drf_amount.specs.Pool.{part_at}
use Rattle.drf_amount.proofs.Kept.{IsPool-give_back, part_joins, only_memory}
use Rattle.drf_amount.proofs.pool.Pool.give_back.Goals as goal

pub returns-in_err-joined-clause-fault : goal.returns-in_err-joined-clause-fault
returns-in_err-joined-clause-fault g c =
    let laws = g.met.A.Algebra.laws in
    let found : part_at c.self.inside.parts.entries c.args.number ≡ Some c.in-Some.part.now = sym c.get.ensures.value ∙ ap option_copied c.in-Some.is in
    let joins = part_joins laws _ c.args.number c.in-Some.part.now c.self.invariant found in
    let only : c.in_err-joined.field-0.0 ≡ Memory = only_memory laws _ _ joins.0 _ c.in_err-joined.ensures.given.0 c.in_err-joined.ensures.given.1 joins.1 c.in_err-joined.ensures.fault in
    search (rules, only)

pub invariant_of-self : goal.invariant_of-self
invariant_of-self g c =
    let found : part_at c.self.inside.parts.entries c.args.number ≡ Some c.in-Some.part.now = sym c.get.ensures.value ∙ ap option_copied c.in-Some.is in
    rw c.remove.ensures.entries (IsPool-give_back g.met.A.Algebra.laws _ c.args.number c.in-Some.part.now _ c.self.invariant found c.in_ok-joined.ensures.joined)

use Rattle.std.proofs.Common.{◌≡◌, rules}
use Rattle.drf_amount.specs.declared.algebra.AlgebraFault.TheVariants.{Memory}
use Rattle.drf_amount.proofs.Kept.{IsPool-replace_free, rest_of_total, new_joins, only_memory, only_memory_covered}
use Rattle.drf_amount.proofs.pool.Pool.replace_free.Goals as goal

pub returns-in_err-try_minus-clause-fault : goal.returns-in_err-try_minus-clause-fault
returns-in_err-try_minus-clause-fault g c =
    let laws = g.met.A.Algebra.laws in
    let more = rest_of_total laws _ c.args.old.now c.in_ok-free_rest.free_rest c.self.invariant c.in_ok-free_rest.ensures.given.1 c.in_ok-free_rest.ensures.rest in
    let only : c.in_err-try_minus.field-0.0 ≡ Memory = only_memory_covered laws c.self.inside.total c.args.old.now _ (record { rest = more.0; is_rest = more.2 }) c.in_err-try_minus.ensures.fault in
    search (rules, only)

pub returns-in_err-free_joined-clause-fault : goal.returns-in_err-free_joined-clause-fault
returns-in_err-free_joined-clause-fault g c =
    let laws = g.met.A.Algebra.laws in
    let joins = new_joins laws _ c.args.old.now c.args.new.now _ _ c.in_ok-total.total c.self.invariant c.in_ok-free_rest.ensures.given.1 c.in_ok-total.ensures.given.1 c.in_ok-free_rest.ensures.rest c.in_ok-try_minus.ensures.rest c.in_ok-total.ensures.joined in
    let only : c.in_err-free_joined.field-0.0 ≡ Memory = only_memory laws _ _ joins.0 _ c.in_err-free_joined.ensures.given.0 c.in_err-free_joined.ensures.given.1 joins.1 c.in_err-free_joined.ensures.fault in
    search (rules, only)

pub invariant_of-self : goal.invariant_of-self
invariant_of-self g c =
    IsPool-replace_free g.met.A.Algebra.laws _ c.args.old.now c.args.new.now _ _ _ _ c.self.invariant c.in_ok-free_rest.ensures.given.1 c.in_ok-total.ensures.given.1 c.in_ok-free_rest.ensures.rest c.in_ok-try_minus.ensures.rest c.in_ok-total.ensures.joined c.in_ok-free_joined.ensures.joined

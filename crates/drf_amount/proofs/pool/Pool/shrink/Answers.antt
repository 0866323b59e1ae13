use Rattle.std.proofs.Common.{◌≡◌, Some, rules, refl, sym, ap, ◌∙◌}
use Rattle.std.specs.Option.{option_copied}
use Rattle.drf_amount.specs.declared.algebra.AlgebraFault.TheVariants.{Memory}
use Rattle.drf_amount.specs.Pool.{part_at}
use Rattle.drf_amount.specs.PoolCalls.{PartCovers}
use Rattle.drf_amount.proofs.Kept.{IsPool-shrink, rest_joins, only_memory}
use Rattle.drf_amount.proofs.Numbered.{insert_entry-there}
use Rattle.drf_amount.proofs.pool.Pool.shrink.Goals as goal

pub returns-in_err-free-clause-fault : goal.returns-in_err-free-clause-fault
returns-in_err-free-clause-fault g c =
    let laws = g.met.A.Algebra.laws in
    let found : part_at c.self.inside.parts.entries c.args.number ≡ Some c.in-Some.part.now = sym c.get.ensures.value ∙ ap option_copied c.in-Some.is in
    let joins = rest_joins laws _ c.args.number c.in-Some.part.now c.args.smaller.now _ c.self.invariant found c.in_ok-freed.ensures.given.1 c.in_ok-freed.ensures.rest in
    let only : c.in_err-free.field-0.0 ≡ Memory = only_memory laws _ _ joins.0 _ c.in_err-free.ensures.given.0 c.in_err-free.ensures.given.1 joins.1 c.in_err-free.ensures.fault in
    let covers : PartCovers g.A.Algebra.is_given g.A.Algebra.join c.args.self.now c.args.number c.args.smaller.now =
    rw (← c.self.view_is, found) (record { rest = c.in_ok-freed.freed; is_rest = c.in_ok-freed.ensures.rest }) in
    search (rules, only, covers)

pub invariant_of-self-2 : goal.invariant_of-self-2
invariant_of-self-2 g c =
    let found : part_at c.self.inside.parts.entries c.args.number ≡ Some c.in-Some.part.now = sym c.get.ensures.value ∙ ap option_copied c.in-Some.is in
    rw (c.in_ok-insert.ensures.entries, insert_entry-there 0 _ c.args.number _ c.in-Some.part.now _ c.self.invariant.numbered found, c.in_ok-kept.ensures.same)
    (IsPool-shrink g.met.A.Algebra.laws _ c.args.number c.in-Some.part.now c.args.smaller.now _ _ c.self.invariant found c.in_ok-freed.ensures.given.1 c.in_ok-freed.ensures.rest c.in_ok-free.ensures.joined)

pub returns-clause-ok : goal.returns-clause-ok
returns-clause-ok g c =
    let found : part_at c.self.inside.parts.entries c.args.number ≡ Some c.in-Some.part.now = sym c.get.ensures.value ∙ ap option_copied c.in-Some.is in
    rw (← c.self.view_is) (record {
      part = c.in-Some.part.now;
      part_is = found;
      rest = c.in_ok-freed.freed;
      rest_is = c.in_ok-freed.ensures.rest;
      freed = record { given = c.self.invariant.free_given; joined = c.in_ok-free.ensures.joined };
      parts = rw (c.in_ok-insert.ensures.entries, c.in_ok-kept.ensures.same) (insert_entry-there 0 _ c.args.number _ c.in-Some.part.now _ c.self.invariant.numbered found);
      next = refl;
      total = refl;
    })

use Rattle.std.proofs.Common.{refl, rules, arith}
use Rattle.drf_amount.proofs.Kept.{IsPool-take}
use Rattle.drf_amount.proofs.Numbered.{insert_entry-last}
use Rattle.drf_amount.proofs.pool.Pool.take.Goals as goal

pub invariant_of-self-2 : goal.invariant_of-self-2
invariant_of-self-2 g c =
    rw (c.in_ok-insert.ensures.entries, c.in_ok-part.ensures.same)
    (IsPool-take g.met.A.Algebra.laws _ _ _ c.self.invariant c.in_ok-rest.ensures.given.1 c.in_ok-rest.ensures.rest)

pub returns-clause-ok : goal.returns-clause-ok
returns-clause-ok g c =
    rw (← c.self.view_is) (record {
      number_is = refl;
      number_left = search (rules, arith);
      taken = c.in_ok-rest.ensures.rest;
      parts = rw (c.in_ok-insert.ensures.entries, c.in_ok-part.ensures.same) (insert_entry-last 0 _ _ _ c.self.invariant.numbered);
      next = refl;
      total = refl;
    })

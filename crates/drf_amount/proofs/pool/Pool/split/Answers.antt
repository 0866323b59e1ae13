use Rattle.std.proofs.Common.{◌≡◌, ◌+◌, ◌++◌, length, Some, rules, refl, sym, ap, ◌∙◌, arith}
use Rattle.std.specs.BTreeMap.{is_at}
use Rattle.std.specs.Option.{option_copied}
use Rattle.std.specs.Ordering.{nat_cmp}
use Rattle.drf_amount.specs.declared.algebra.AlgebraFault.TheVariants.{Memory}
use Rattle.drf_amount.specs.Pool.{numbered, part_at, parts_without}
use Rattle.drf_amount.proofs.Kept.{only_memory}
use Rattle.drf_amount.proofs.Split.{IsPool-split, split_joins, remove_entry-prefix}
use Rattle.drf_amount.proofs.pool.Pool.split.Goals as goal

pub returns-in_err-free-clause-fault : goal.returns-in_err-free-clause-fault
returns-in_err-free-clause-fault g c =
    let laws = g.met.A.Algebra.laws in
    let found : part_at c.self.inside.parts.entries c.args.number ≡ Some c.in-Some.part.now = sym c.get.ensures.value ∙ ap option_copied c.in-Some.is in
    let joins = split_joins laws _ c.args.number c.in-Some.part.now c.in_ok-wanted.wanted _ c.self.invariant found c.in_ok-rest.ensures.given.1 c.in_ok-rest.ensures.rest in
    let only : c.in_err-free.field-0.0 ≡ Memory = only_memory laws _ _ joins.0 _ c.in_err-free.ensures.given.0 c.in_err-free.ensures.given.1 joins.1 c.in_err-free.ensures.fault in
    search (rules, only)

pub invariant_of-self-2 : goal.invariant_of-self-2
invariant_of-self-2 g c =
    let found : part_at c.self.inside.parts.entries c.args.number ≡ Some c.in-Some.part.now = sym c.get.ensures.value ∙ ap option_copied c.in-Some.is in
    let more = numbered c.self.inside.next c.args.parts.now in
    let parts : c.remove.new.self.entries ≡ parts_without c.self.inside.parts.entries c.args.number ++ more =
    c.remove.ensures.entries ∙ rw c.in_ok-numbers.ensures.put (remove_entry-prefix (is_at (nat_cmp c.args.number)) c.self.inside.parts.entries more c.in-Some.part.now found) in
    let next : c.in-Some-checked_add.next ≡ c.self.inside.next + length c.args.parts.now = omega (arith, c.in-Some-checked_add.ensures) in
    rw (parts, next)
    (IsPool-split g.met.A.Algebra.laws _ c.args.number c.in-Some.part.now c.in_ok-wanted.wanted _ _ c.args.parts.now c.self.invariant found c.in_ok-wanted.ensures.given c.in_ok-wanted.ensures.joined c.in_ok-rest.ensures.rest c.in_ok-free.ensures.joined)

pub returns-clause-ok : goal.returns-clause-ok
returns-clause-ok g c =
    let found : part_at c.self.inside.parts.entries c.args.number ≡ Some c.in-Some.part.now = sym c.get.ensures.value ∙ ap option_copied c.in-Some.is in
    let more = numbered c.self.inside.next c.args.parts.now in
    let next : c.in-Some-checked_add.next ≡ c.self.inside.next + length c.args.parts.now = omega (arith, c.in-Some-checked_add.ensures) in
    rw (← c.self.view_is) (record {
      part = c.in-Some.part.now;
      part_is = found;
      whole = c.in_ok-wanted.wanted;
      whole_is = c.in_ok-wanted.ensures.joined;
      rest = c.in_ok-rest.rest;
      rest_is = c.in_ok-rest.ensures.rest;
      freed = record { given = c.self.invariant.free_given; joined = c.in_ok-free.ensures.joined };
      numbers_are = c.in_ok-numbers.ensures.numbers;
      numbers_left = omega (arith, c.in-Some-checked_add.ensures);
      parts = c.remove.ensures.entries ∙ rw c.in_ok-numbers.ensures.put (remove_entry-prefix (is_at (nat_cmp c.args.number)) c.self.inside.parts.entries more c.in-Some.part.now found);
      next = next;
      total = refl;
    })

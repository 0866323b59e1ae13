-- The invariant of a pool after each of its methods, and which errors cannot occur.
use Rattle.std.proofs.Common.{◌≡◌, ℕ, Bool, true, false, cond, ◌+◌, List, [], ◌∷◌, Option, Some, None, option_and_then, IfSome, All, refl, sym, ap, ◌∙◌}
use Rattle.std.specs.Map.{lookup, remove_entry, set_value, values_of}
use Rattle.std.specs.BTreeMap.{is_at, insert_entry}
use Rattle.std.specs.Ordering.{nat_cmp}
use Rattle.std.proofs.lemmas.Map.Views.{All-values-insert_entry, All-values-set_value}
use Rattle.std.proofs.lemmas.Option.{none-some, same_Some, option_and_then_some}
use Rattle.drf_amount.specs.declared.algebra.AlgebraFault.{AlgebraFault}
use Rattle.drf_amount.specs.declared.algebra.AlgebraFault.TheVariants.{Kind, Overlap, TooLarge, NotCovered, Memory}
use Rattle.drf_amount.specs.Algebra.{AlgebraLaws, IsRest, Covers, IsJoinFault, IsMinusFault}
use Rattle.drf_amount.specs.Pool.{PoolContent, IsPool, joined_with, part_at, parts_without, parts_with}
use Rattle.drf_amount.proofs.Joined.{joined_with-push, IfSome-joined_with, given-found, given-without, joined_with-base, joined_with-without}
use Rattle.drf_amount.proofs.Numbered.{insert_entry-last, NumbersRise-push, NumbersRise-without, NumbersRise-with}

-- both steps of a chain of options that ends in a value
pub both_steps : {A B : Type 0} (f : A → Option B) (o : Option A) (b : B) → option_and_then f o ≡ Some b → (a : A) × (o ≡ Some a) × (f a ≡ Some b)
both_steps f o b chain = option_and_then_some f o b chain (λ a first second. (a, first, second))

-- a part that was replaced is found, and the others are the same
lookup-set_value : {A : Type 0} (test : ℕ → Bool) (parts : List (ℕ × A)) (was part : A) → lookup test parts ≡ Some was → lookup test (set_value test parts part) ≡ Some part
lookup-set_value test [] was part found = absurd (none-some was found)
lookup-set_value test (first ∷ parts) was part found =
    elim (test first.0) as (λ b. test first.0 ≡ b → cond b (Some first.1) (lookup test parts) ≡ Some was → lookup test (cond b ((first.0, part) ∷ parts) (first ∷ set_value test parts part)) ≡ Some part) [
      | true ↦ λ is _. rw is
      | false ↦ λ is found. rw is (lookup-set_value test parts was part found)
    ] refl found

remove_entry-set_value : {A : Type 0} (test : ℕ → Bool) (parts : List (ℕ × A)) (part : A) → remove_entry test (set_value test parts part) ≡ remove_entry test parts
remove_entry-set_value test [] part = refl
remove_entry-set_value test (first ∷ parts) part =
    elim (test first.0) as (λ b. test first.0 ≡ b → remove_entry test (cond b ((first.0, part) ∷ parts) (first ∷ set_value test parts part)) ≡ cond b parts (first ∷ remove_entry test parts)) [
      | true ↦ λ is. rw is
      | false ↦ λ is. rw is (ap (λ rest. first ∷ rest) (remove_entry-set_value test parts part))
    ] refl

module _ {A : Type 0} {is_given : A → Type 0} {empty : A} {join : A → A → Option A} {refusal : A → A → Option AlgebraFault} {amount : A → ℕ} (laws : AlgebraLaws is_given empty join refusal amount) where
  -- if b can be joined to what a base and parts make, it can be joined to the base
  pub joins_base : (base b whole : A) (parts : List (ℕ × A)) → is_given base → is_given b → All is_given (values_of parts) → option_and_then (λ rest. join rest b) (joined_with join base parts) ≡ Some whole → (more : A) × (join base b ≡ Some more) × (joined_with join more parts ≡ Some whole)
  joins_base base b whole parts base_given b_given given made =
      both_steps (λ more. joined_with join more parts) (join base b) whole (joined_with-base laws base b parts base_given b_given given ∙ made)

  -- if there is a join, there is no refusal, so only memory can be missing
  unrefused : (a b whole : A) (fault : AlgebraFault) → is_given a → is_given b → join a b ≡ Some whole → refusal a b ≡ Some fault → ⊥
  unrefused a b whole fault a_given b_given joined refused =
      none-some whole (sym ((laws.refused a b a_given b_given).1 (rw refused)) ∙ joined)

  pub only_memory : (a b whole : A) (fault : AlgebraFault) → is_given a → is_given b → join a b ≡ Some whole → IsJoinFault (refusal a b) fault → fault ≡ Memory
  only_memory a b whole Kind a_given b_given joined refused = absurd (unrefused a b whole Kind a_given b_given joined refused)
  only_memory a b whole Overlap a_given b_given joined refused = absurd (unrefused a b whole Overlap a_given b_given joined refused)
  only_memory a b whole TooLarge a_given b_given joined refused = absurd (unrefused a b whole TooLarge a_given b_given joined refused)
  only_memory a b whole NotCovered a_given b_given joined refused = absurd refused
  only_memory a b whole Memory a_given b_given joined refused = refl

  -- if there is a rest, only memory can be missing
  pub only_memory_covered : (whole part : A) (fault : AlgebraFault) → Covers is_given join whole part → IsMinusFault (Covers is_given join whole part) fault → fault ≡ Memory
  only_memory_covered whole part Kind covers is_fault = absurd is_fault
  only_memory_covered whole part Overlap covers is_fault = absurd is_fault
  only_memory_covered whole part TooLarge covers is_fault = absurd is_fault
  only_memory_covered whole part NotCovered covers is_fault = absurd (is_fault covers)
  only_memory_covered whole part Memory covers is_fault = refl

  -- there is only one rest
  pub same_rest : (whole part one other : A) → is_given part → IsRest is_given join whole part one → IsRest is_given join whole part other → one ≡ other
  same_rest whole part one other part_given first second =
      laws.cancellative part one other whole part_given first.given second.given (laws.commutative part one part_given first.given ∙ first.joined) (laws.commutative part other part_given second.given ∙ second.joined)

  -- the invariant of the pool after `take`
  pub IsPool-take : (pool : PoolContent A) (wanted free : A) → IsPool is_given join pool → is_given wanted → IsRest is_given join pool.free wanted free → IsPool is_given join (record { total = pool.total; free = free; parts = insert_entry nat_cmp pool.parts pool.next wanted; next = pool.next + 1 })
  IsPool-take pool wanted free kept wanted_given rest =
      let last = insert_entry-last 0 pool.next pool.parts wanted kept.numbered in
      record {
        total_given = kept.total_given;
        free_given = rest.given;
        parts_given = All-values-insert_entry nat_cmp pool.next wanted is_given pool.parts kept.parts_given wanted_given;
        whole = ap (joined_with join free) last ∙ joined_with-push join free pool.free pool.parts pool.next wanted rest.joined ∙ kept.whole;
        numbered = rw last (NumbersRise-push 0 pool.next pool.parts wanted kept.numbered);
      }

  -- the part with a number can be joined to the free amount
  pub part_joins : (pool : PoolContent A) (number : ℕ) (part : A) → IsPool is_given join pool → part_at pool.parts number ≡ Some part → (more : A) × (join pool.free part ≡ Some more) × (joined_with join more (parts_without pool.parts number) ≡ Some pool.total)
  part_joins pool number part kept found =
      let test = is_at (nat_cmp number) in
      joins_base pool.free part pool.total (parts_without pool.parts number) kept.free_given (given-found laws test pool.parts part kept.parts_given found) (given-without laws test pool.parts kept.parts_given)
      (sym (joined_with-without laws pool.free pool.parts test part kept.free_given kept.parts_given found) ∙ kept.whole)

  -- the invariant of the pool after `give_back`
  pub IsPool-give_back : (pool : PoolContent A) (number : ℕ) (part free : A) → IsPool is_given join pool → part_at pool.parts number ≡ Some part → join pool.free part ≡ Some free → IsPool is_given join (record { total = pool.total; free = free; parts = parts_without pool.parts number; next = pool.next })
  IsPool-give_back pool number part free kept found joined =
      let test = is_at (nat_cmp number) in
      let joins = part_joins pool number part kept found in
      let same : joins.0 ≡ free = same_Some joins.0 free (sym joins.1 ∙ joined) in
      record {
        total_given = kept.total_given;
        free_given = laws.join_given pool.free part free kept.free_given (given-found laws test pool.parts part kept.parts_given found) joined;
        parts_given = given-without laws test pool.parts kept.parts_given;
        whole = rw same at joins.2;
        numbered = NumbersRise-without 0 pool.next number pool.parts kept.numbered;
      }

  -- what can be joined with `smaller` can then be joined with the rest, and the result is that with the whole part
  shrunk : (o : Option A) (part smaller rest : A) → IfSome o is_given → is_given smaller → IsRest is_given join part smaller rest → option_and_then (λ whole. join whole rest) (option_and_then (λ whole. join whole smaller) o) ≡ option_and_then (λ whole. join whole part) o
  shrunk None part smaller rest _ _ _ = refl
  shrunk (Some a) part smaller rest a_given smaller_given is_rest =
      laws.associative a smaller rest a_given smaller_given is_rest.given
      ∙ ap (option_and_then (join a)) (laws.commutative smaller rest smaller_given is_rest.given ∙ is_rest.joined)

  -- the rest of the part with a number can be joined to the free amount
  pub rest_joins : (pool : PoolContent A) (number : ℕ) (part smaller rest : A) → IsPool is_given join pool → part_at pool.parts number ≡ Some part → is_given smaller → IsRest is_given join part smaller rest → (more : A) × (join pool.free rest ≡ Some more) × (joined_with join more (parts_with pool.parts number smaller) ≡ Some pool.total)
  rest_joins pool number part smaller rest kept found smaller_given is_rest =
      let test = is_at (nat_cmp number) in
      let others = parts_without pool.parts number in
      let with_given = All-values-set_value test is_given pool.parts smaller kept.parts_given smaller_given in
      joins_base pool.free rest pool.total (parts_with pool.parts number smaller) kept.free_given is_rest.given with_given
      (ap (option_and_then (λ whole. join whole rest)) (joined_with-without laws pool.free (parts_with pool.parts number smaller) test smaller kept.free_given with_given (lookup-set_value test pool.parts part smaller found)
      ∙ ap (λ others. option_and_then (λ whole. join whole smaller) (joined_with join pool.free others)) (remove_entry-set_value test pool.parts smaller))
      ∙ shrunk (joined_with join pool.free others) part smaller rest (IfSome-joined_with laws pool.free others kept.free_given (given-without laws test pool.parts kept.parts_given)) smaller_given is_rest
      ∙ sym (joined_with-without laws pool.free pool.parts test part kept.free_given kept.parts_given found)
      ∙ kept.whole)

  -- the invariant of the pool after `shrink`
  pub IsPool-shrink : (pool : PoolContent A) (number : ℕ) (part smaller rest free : A) → IsPool is_given join pool → part_at pool.parts number ≡ Some part → is_given smaller → IsRest is_given join part smaller rest → join pool.free rest ≡ Some free → IsPool is_given join (record { total = pool.total; free = free; parts = parts_with pool.parts number smaller; next = pool.next })
  IsPool-shrink pool number part smaller rest free kept found smaller_given is_rest joined =
      let joins = rest_joins pool number part smaller rest kept found smaller_given is_rest in
      let same : joins.0 ≡ free = same_Some joins.0 free (sym joins.1 ∙ joined) in
      record {
        total_given = kept.total_given;
        free_given = laws.join_given pool.free rest free kept.free_given is_rest.given joined;
        parts_given = All-values-set_value (is_at (nat_cmp number)) is_given pool.parts smaller kept.parts_given smaller_given;
        whole = rw same at joins.2;
        numbered = NumbersRise-with 0 pool.next number pool.parts smaller kept.numbered;
      }

  -- a part of the free amount is also a part of the total; the rest of the total is the rest of the free amount joined
  -- with the parts
  pub rest_of_total : (pool : PoolContent A) (old rest : A) → IsPool is_given join pool → is_given old → IsRest is_given join pool.free old rest → (more : A) × (joined_with join rest pool.parts ≡ Some more) × IsRest is_given join pool.total old more
  rest_of_total pool old rest kept old_given is_rest =
      let made : option_and_then (λ whole. join whole old) (joined_with join rest pool.parts) ≡ Some pool.total =
      sym (joined_with-base laws rest old pool.parts is_rest.given old_given kept.parts_given) ∙ ap (option_and_then (λ more. joined_with join more pool.parts)) is_rest.joined ∙ kept.whole in
      let steps = both_steps (λ whole. join whole old) (joined_with join rest pool.parts) pool.total made in
      (steps.0, steps.1, record { given = rw steps.1 at (IfSome-joined_with laws rest pool.parts is_rest.given kept.parts_given); joined = steps.2 })

  -- what can be joined to the rest of the total can be joined to the rest of the free amount
  pub new_joins : (pool : PoolContent A) (old new rest total_rest total : A) → IsPool is_given join pool → is_given old → is_given new → IsRest is_given join pool.free old rest → IsRest is_given join pool.total old total_rest → join total_rest new ≡ Some total → (more : A) × (join rest new ≡ Some more) × (joined_with join more pool.parts ≡ Some total)
  new_joins pool old new rest total_rest total kept old_given new_given is_rest is_total_rest joined =
      let more = rest_of_total pool old rest kept old_given is_rest in
      let same : more.0 ≡ total_rest = same_rest pool.total old more.0 total_rest old_given more.2 is_total_rest in
      joins_base rest new total pool.parts is_rest.given new_given kept.parts_given
      (ap (option_and_then (λ whole. join whole new)) (more.1 ∙ ap Some same) ∙ joined)

  -- the invariant of the pool after `replace_free`
  pub IsPool-replace_free : (pool : PoolContent A) (old new rest total_rest free total : A) → IsPool is_given join pool → is_given old → is_given new → IsRest is_given join pool.free old rest → IsRest is_given join pool.total old total_rest → join total_rest new ≡ Some total → join rest new ≡ Some free → IsPool is_given join (record { total = total; free = free; parts = pool.parts; next = pool.next })
  IsPool-replace_free pool old new rest total_rest free total kept old_given new_given is_rest is_total_rest joined free_joined =
      let joins = new_joins pool old new rest total_rest total kept old_given new_given is_rest is_total_rest joined in
      let same : joins.0 ≡ free = same_Some joins.0 free (sym joins.1 ∙ free_joined) in
      record {
        total_given = laws.join_given total_rest new total is_total_rest.given new_given joined;
        free_given = laws.join_given rest new free is_rest.given new_given free_joined;
        parts_given = kept.parts_given;
        whole = rw same at joins.2;
        numbered = kept.numbered;
      }

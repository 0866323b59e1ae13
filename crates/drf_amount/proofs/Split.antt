-- Replacing a part by several parts (`Pool::split`).
use Rattle.std.proofs.Common.{◌≡◌, ℕ, suc, ◌+◌, ◌<◌, ◌≤◌, List, [], ◌∷◌, ◌++◌, length, take, drop, get_or, append_assoc, drop-cons, Option, Some, None, Bool, true, false, cond, option_and_then, All, refl, sym, ap, subst, ◌∙◌, arith}
use Rattle.std.specs.BTreeMap.{is_at, insert_entry}
use Rattle.std.specs.Ordering.{nat_cmp}
use Rattle.std.specs.Map.{lookup, remove_entry, keys_of, values_of}
use Rattle.std.proofs.lemmas.List.Elements.{All-head, All-tail, All-append}
use Rattle.std.proofs.lemmas.List.{take_more, length-take-le, take-append-drop, map-append}
use Rattle.std.proofs.lemmas.Option.{none-some, same_Some}
use Rattle.drf_amount.specs.declared.algebra.AlgebraFault.{AlgebraFault}
use Rattle.drf_amount.specs.declared.algebra.AlgebraFault.TheVariants.{Kind, Overlap, TooLarge, NotCovered, Memory}
use Rattle.drf_amount.specs.Algebra.{AlgebraLaws, IsRest, IsJoinFault}
use Rattle.drf_amount.specs.PoolCalls.{StopsAt, IsJoinAllFault}
use Rattle.drf_amount.specs.Pool.{PoolContent, IsPool, NumbersRise, joined_with, joined_all, numbered, part_at, parts_without}
use Rattle.drf_amount.proofs.Joined.{and_then-and_then, and_then-Some, given-without, joined_with-base}
use Rattle.drf_amount.proofs.Kept.{both_steps, part_joins}
use Rattle.drf_amount.proofs.Numbered.{insert_entry-last, NumbersRise-without}

-- ---- numbers

-- one more amount
pub numbered-push : {A : Type 0} (first : ℕ) (amounts : List A) (amount : A) → numbered first (amounts ++ amount ∷ []) ≡ numbered first amounts ++ (first + length amounts, amount) ∷ []
numbered-push first [] amount = let same : first ≡ first + 0 = omega arith in ap (λ number. (number, amount) ∷ []) same
numbered-push first (other ∷ amounts) amount =
    let same : (first + 1) + length amounts ≡ first + length (other ∷ amounts) = omega arith in
    ap (λ rest. (first, other) ∷ rest) (numbered-push (first + 1) amounts amount ∙ ap (λ number. numbered (first + 1) amounts ++ (number, amount) ∷ []) same)

-- the numbers after those of the parts rise too
NumbersRise-numbered : {A : Type 0} (low first : ℕ) (amounts : List A) → low ≤ first → NumbersRise low (numbered first amounts) (first + length amounts)
NumbersRise-numbered low first [] below = omega arith
NumbersRise-numbered low first (amount ∷ amounts) below =
    let same : (first + 1) + length amounts ≡ first + length (amount ∷ amounts) = omega arith in
    (below, subst (NumbersRise (first + 1) (numbered (first + 1) amounts)) same (NumbersRise-numbered (first + 1) (first + 1) amounts (omega arith)))

pub NumbersRise-behind : {A : Type 0} (low next : ℕ) (parts : List (ℕ × A)) (amounts : List A) → NumbersRise low parts next → NumbersRise low (parts ++ numbered next amounts) (next + length amounts)
NumbersRise-behind low next [] amounts rise = NumbersRise-numbered low next amounts rise
NumbersRise-behind low next (part ∷ parts) amounts rise = (rise.0, NumbersRise-behind (part.0 + 1) next parts amounts rise.1)

-- the numbers before a part are less than its own
NumbersRise-before : {A : Type 0} (low number next : ℕ) (before after : List (ℕ × A)) (part : A) → NumbersRise low (before ++ (number, part) ∷ after) next → NumbersRise low before number
NumbersRise-before low number next [] after part rise = rise.0
NumbersRise-before low number next (first ∷ before) after part rise = (rise.0, NumbersRise-before (first.0 + 1) number next before after part rise.1)

-- a part is inserted after those with lower numbers
pub insert_entry-before : {A : Type 0} (number next : ℕ) (before after : List (ℕ × A)) (part : A) → NumbersRise 0 (before ++ (number, part) ∷ after) next → insert_entry nat_cmp before number part ≡ before ++ (number, part) ∷ []
insert_entry-before number next before after part rise = insert_entry-last 0 number before part (NumbersRise-before 0 number next before after part rise)

-- ---- the amounts that were handled

amounts_more : {A : Type 0} (amounts : List A) (i : ℕ) (amount : A) → i < length amounts → get_or amounts i amount ≡ amount → take (i + 1) amounts ≡ take i amounts ++ amount ∷ []
amounts_more amounts i amount below is = take_more amounts i amount below ∙ ap (λ a. take i amounts ++ a ∷ []) is

numbered-more : {A : Type 0} (first i number : ℕ) (amounts : List A) (amount : A) → i < length amounts → get_or amounts i amount ≡ amount → number ≡ first + i → numbered first (take (i + 1) amounts) ≡ numbered first (take i amounts) ++ (number, amount) ∷ []
numbered-more first i number amounts amount below is number_is =
    let here : first + length (take i amounts) ≡ number = omega (arith, length-take-le i amounts (omega arith)) in
    ap (numbered first) (amounts_more amounts i amount below is) ∙ numbered-push first (take i amounts) amount ∙ ap (λ number. numbered first (take i amounts) ++ (number, amount) ∷ []) here

-- one more part is put
pub put_more : {A : Type 0} (start parts new : List (ℕ × A)) (first i number : ℕ) (amounts : List A) (amount copy : A) → i < length amounts → get_or amounts i amount ≡ amount → NumbersRise 0 start first → number ≡ first + i → parts ≡ start ++ numbered first (take i amounts) → copy ≡ amount → new ≡ insert_entry nat_cmp parts number copy → new ≡ start ++ numbered first (take (i + 1) amounts)
put_more {A = A} start parts new first i number amounts amount copy below is rise number_is parts_are copy_is new_is =
    let here : first + length (take i amounts) ≡ number = omega (arith, length-take-le i amounts (omega arith)) in
    let rises : NumbersRise 0 parts number =
    subst (λ (n : ℕ). NumbersRise 0 parts n) here (subst (λ (ps : List (ℕ × A)). NumbersRise 0 ps (first + length (take i amounts))) (sym parts_are) (NumbersRise-behind 0 first start (take i amounts) rise)) in
    new_is
    ∙ insert_entry-last 0 number parts copy rises
    ∙ (λ k. parts_are k ++ (number, copy_is k) ∷ [])
    ∙ append_assoc start (numbered first (take i amounts)) ((number, amount) ∷ [])
    ∙ ap (λ (ps : List (ℕ × A)). start ++ ps) (sym (numbered-more first i number amounts amount below is number_is))

pub numbers_more : {A : Type 0} (numbers new : List ℕ) (first i number : ℕ) (amounts : List A) (amount : A) → i < length amounts → get_or amounts i amount ≡ amount → number ≡ first + i → numbers ≡ keys_of (numbered first (take i amounts)) → new ≡ numbers ++ number ∷ [] → new ≡ keys_of (numbered first (take (i + 1) amounts))
numbers_more {A = A} numbers new first i number amounts amount below is number_is numbers_are new_is =
    new_is
    ∙ ap (λ (ns : List ℕ). ns ++ number ∷ []) numbers_are
    ∙ sym (map-append (λ (part : ℕ × A). part.0) (numbered first (take i amounts)) ((number, amount) ∷ []))
    ∙ ap keys_of (sym (numbered-more first i number amounts amount below is number_is))

-- one more part is copied
pub copy_more : {A : Type 0} (whole copied iterator rest new : List (ℕ × A)) (next number : ℕ) (part copy : A) → NumbersRise 0 whole next → copied ++ iterator ≡ whole → iterator ≡ (number, part) ∷ rest → copy ≡ part → new ≡ insert_entry nat_cmp copied number copy → new ++ rest ≡ whole
copy_more {A = A} whole copied iterator rest new next number part copy rise all turn copy_is new_is =
    let split : copied ++ (number, part) ∷ rest ≡ whole = ap (λ (ps : List (ℕ × A)). copied ++ ps) (sym turn) ∙ all in
    let put : new ≡ copied ++ (number, part) ∷ [] =
    new_is ∙ ap (insert_entry nat_cmp copied number) copy_is ∙ insert_entry-before number next copied rest part (subst (λ (ps : List (ℕ × A)). NumbersRise 0 ps next) (sym split) rise) in
    ap (λ (ps : List (ℕ × A)). ps ++ rest) put ∙ append_assoc copied ((number, part) ∷ []) rest ∙ split

-- ---- lists of parts

pub values_of-numbered : {A : Type 0} (first : ℕ) (amounts : List A) → values_of (numbered first amounts) ≡ amounts
values_of-numbered first [] = refl
values_of-numbered first (amount ∷ amounts) = ap (λ rest. amount ∷ rest) (values_of-numbered (first + 1) amounts)

values_of-append : {A : Type 0} (parts more : List (ℕ × A)) → values_of (parts ++ more) ≡ values_of parts ++ values_of more
values_of-append [] more = refl
values_of-append (part ∷ parts) more = ap (λ rest. part.1 ∷ rest) (values_of-append parts more)

-- removing a part keeps the parts after it
pub remove_entry-prefix : {A : Type 0} (test : ℕ → Bool) (parts more : List (ℕ × A)) (part : A) → lookup test parts ≡ Some part → remove_entry test (parts ++ more) ≡ remove_entry test parts ++ more
remove_entry-prefix test [] more part found = absurd (none-some part found)
remove_entry-prefix test (first ∷ parts) more part found =
    elim (test first.0) as (λ b. cond b (Some first.1) (lookup test parts) ≡ Some part → cond b (parts ++ more) (first ∷ remove_entry test (parts ++ more)) ≡ cond b parts (first ∷ remove_entry test parts) ++ more) [
      | true ↦ λ _. refl
      | false ↦ λ found. ap (λ rest. first ∷ rest) (remove_entry-prefix test parts more part found)
    ] found

-- ---- joins

pub joined_all-push : {A : Type 0} (join : A → A → Option A) (base : A) (amounts : List A) (amount : A) → joined_all join base (amounts ++ amount ∷ []) ≡ option_and_then (λ whole. join whole amount) (joined_all join base amounts)
joined_all-push join base [] amount = and_then-Some (join base amount)
joined_all-push join base (first ∷ amounts) amount =
    elim (join base first) as (λ o. option_and_then (λ more. joined_all join more (amounts ++ amount ∷ [])) o ≡ option_and_then (λ whole. join whole amount) (option_and_then (λ more. joined_all join more amounts) o)) [
      | None ↦ refl
      | Some more ↦ joined_all-push join more amounts amount
    ]

pub joined_all-more : {A : Type 0} (join : A → A → Option A) (base whole more : A) (amounts : List A) (i : ℕ) (amount : A) → i < length amounts → get_or amounts i amount ≡ amount → joined_all join base (take i amounts) ≡ Some whole → join whole amount ≡ Some more → joined_all join base (take (i + 1) amounts) ≡ Some more
joined_all-more join base whole more amounts i amount below is so_far joined =
    ap (joined_all join base) (amounts_more amounts i amount below is) ∙ joined_all-push join base (take i amounts) amount ∙ ap (option_and_then (λ whole. join whole amount)) so_far ∙ joined

-- joining all amounts stops at the first error of a join
pub stops_at : {A : Type 0} (join : A → A → Option A) (refusal : A → A → Option AlgebraFault) (empty whole : A) (amounts : List A) (i : ℕ) (amount : A) (fault : AlgebraFault) → i < length amounts → get_or amounts i amount ≡ amount → joined_all join empty (take i amounts) ≡ Some whole → refusal whole amount ≡ Some fault → StopsAt join refusal empty amounts fault
stops_at join refusal empty whole amounts i amount fault below is so_far refused = record {
  before = take i amounts;
  amount = amount;
  after = drop (suc i) amounts;
  amounts_are = sym (take-append-drop i amounts) ∙ ap (λ rest. take i amounts ++ rest) (drop-cons amounts i amount below ∙ ap (λ a. a ∷ drop (suc i) amounts) is);
  joined = whole;
  joined_is = so_far;
  refused = refused;
}

pub join_all_fault : {A : Type 0} (join : A → A → Option A) (refusal : A → A → Option AlgebraFault) (empty whole : A) (amounts : List A) (i : ℕ) (amount : A) (fault : AlgebraFault) → i < length amounts → get_or amounts i amount ≡ amount → joined_all join empty (take i amounts) ≡ Some whole → IsJoinFault (refusal whole amount) fault → IsJoinAllFault join refusal empty amounts fault
join_all_fault join refusal empty whole amounts i amount Kind below is so_far refused = stops_at join refusal empty whole amounts i amount Kind below is so_far refused
join_all_fault join refusal empty whole amounts i amount Overlap below is so_far refused = stops_at join refusal empty whole amounts i amount Overlap below is so_far refused
join_all_fault join refusal empty whole amounts i amount TooLarge below is so_far refused = stops_at join refusal empty whole amounts i amount TooLarge below is so_far refused
join_all_fault join refusal empty whole amounts i amount NotCovered below is so_far refused = refused
join_all_fault join refusal empty whole amounts i amount Memory below is so_far refused = tt

-- joining two lists of parts: first the later ones, then the earlier ones
joined_with-append : {A : Type 0} (join : A → A → Option A) (base : A) (parts more : List (ℕ × A)) → joined_with join base (parts ++ more) ≡ option_and_then (λ whole. joined_with join whole parts) (joined_with join base more)
joined_with-append join base [] more = sym (and_then-Some (joined_with join base more))
joined_with-append join base (part ∷ parts) more =
    ap (option_and_then (λ rest. join rest part.1)) (joined_with-append join base parts more)
    ∙ sym (and_then-and_then (λ whole. joined_with join whole parts) (λ rest. join rest part.1) (joined_with join base more))

module _ {A : Type 0} {is_given : A → Type 0} {empty : A} {join : A → A → Option A} {refusal : A → A → Option AlgebraFault} {amount : A → ℕ} (laws : AlgebraLaws is_given empty join refusal amount) where
  -- the join of given amounts is given
  pub given-joined_all : (base whole : A) (amounts : List A) → is_given base → All is_given amounts → joined_all join base amounts ≡ Some whole → is_given whole
  given-joined_all base whole [] base_given given joined = subst is_given (same_Some base whole joined) base_given
  given-joined_all base whole (first ∷ amounts) base_given given joined =
      let steps = both_steps (λ more. joined_all join more amounts) (join base first) whole joined in
      given-joined_all steps.0 whole amounts (laws.join_given base first steps.0 base_given (All-head is_given first amounts given) steps.1) (All-tail is_given first amounts given) steps.2

  -- joining all amounts to a base is joining their join to it
  joined_all-base : (base amount : A) (amounts : List A) → is_given base → is_given amount → All is_given amounts → option_and_then (λ more. joined_all join more amounts) (join base amount) ≡ option_and_then (join base) (joined_all join amount amounts)
  joined_all-base base amount [] base_given amount_given given = and_then-Some (join base amount)
  joined_all-base base amount (first ∷ amounts) base_given amount_given given =
      let first_given = All-head is_given first amounts given in
      let rest_given = All-tail is_given first amounts given in
      and_then-and_then (λ more. join more first) (λ more. joined_all join more amounts) (join base amount)
      ∙ ap (option_and_then (λ more. joined_all join more amounts)) (laws.associative base amount first base_given amount_given first_given)
      ∙ elim (join amount first) as (λ o. join amount first ≡ o → option_and_then (λ more. joined_all join more amounts) (option_and_then (join base) o) ≡ option_and_then (join base) (option_and_then (λ more. joined_all join more amounts) o)) [
        | None ↦ λ _. refl
        | Some both ↦ λ joined. joined_all-base base both amounts base_given (laws.join_given amount first both amount_given first_given joined) rest_given
      ] refl

  -- parts with numbers are joined as their amounts are
  joined_with-numbered : (base : A) (first : ℕ) (amounts : List A) → is_given base → All is_given amounts → joined_with join base (numbered first amounts) ≡ joined_all join base amounts
  joined_with-numbered base first [] base_given given = refl
  joined_with-numbered base first (amount ∷ amounts) base_given given =
      let amount_given = All-head is_given amount amounts given in
      let rest_given = All-tail is_given amount amounts given in
      sym (joined_with-base laws base amount (numbered (first + 1) amounts) base_given amount_given (subst (All is_given) (sym (values_of-numbered (first + 1) amounts)) rest_given))
      ∙ elim (join base amount) as (λ o. join base amount ≡ o → option_and_then (λ more. joined_with join more (numbered (first + 1) amounts)) o ≡ option_and_then (λ more. joined_all join more amounts) o) [
        | None ↦ λ _. refl
        | Some more ↦ λ joined. joined_with-numbered more (first + 1) amounts (laws.join_given base amount more base_given amount_given joined) rest_given
      ] refl

  -- joining numbered parts to a base is joining the join of their amounts to it
  joined_with-whole : (base whole : A) (first : ℕ) (amounts : List A) → is_given base → All is_given amounts → joined_all join empty amounts ≡ Some whole → joined_with join base (numbered first amounts) ≡ join base whole
  joined_with-whole base whole first amounts base_given given joined =
      joined_with-numbered base first amounts base_given given
      ∙ ap (option_and_then (λ more. joined_all join more amounts)) (sym (laws.neutral base base_given))
      ∙ joined_all-base base empty amounts base_given laws.empty_given given
      ∙ ap (option_and_then (join base)) joined

  -- the rest of the part with a number can be joined to the free amount
  pub split_joins : (pool : PoolContent A) (number : ℕ) (part whole rest : A) → IsPool is_given join pool → part_at pool.parts number ≡ Some part → is_given whole → IsRest is_given join part whole rest → (more : A) × (join pool.free rest ≡ Some more)
  split_joins pool number part whole rest kept found whole_given is_rest =
      let joins = part_joins laws pool number part kept found in
      let steps = both_steps (λ more. join more whole) (join pool.free rest) joins.0
      (laws.associative pool.free rest whole kept.free_given is_rest.given whole_given ∙ ap (option_and_then (join pool.free)) is_rest.joined ∙ joins.1) in
      (steps.0, steps.1)

  -- the invariant of the pool after `split`
  pub IsPool-split : (pool : PoolContent A) (number : ℕ) (part whole rest free : A) (wanted : List A) → IsPool is_given join pool → part_at pool.parts number ≡ Some part → All is_given wanted → joined_all join empty wanted ≡ Some whole → IsRest is_given join part whole rest → join pool.free rest ≡ Some free → IsPool is_given join (record { total = pool.total; free = free; parts = parts_without pool.parts number ++ numbered pool.next wanted; next = pool.next + length wanted })
  IsPool-split pool number part whole rest free wanted kept found given joined is_rest freed =
      let others = parts_without pool.parts number in
      let whole_given = given-joined_all empty whole wanted laws.empty_given given joined in
      let free_given = laws.join_given pool.free rest free kept.free_given is_rest.given freed in
      let joins = part_joins laws pool number part kept found in
      let same : join free whole ≡ join pool.free part =
      ap (option_and_then (λ more. join more whole)) (sym freed) ∙ laws.associative pool.free rest whole kept.free_given is_rest.given whole_given ∙ ap (option_and_then (join pool.free)) is_rest.joined in
      record {
        total_given = kept.total_given;
        free_given = free_given;
        parts_given = subst (All is_given) (sym (values_of-append others (numbered pool.next wanted))) (All-append is_given (values_of others) (values_of (numbered pool.next wanted)) (given-without laws (is_at (nat_cmp number)) pool.parts kept.parts_given) (subst (All is_given) (sym (values_of-numbered pool.next wanted)) given));
        whole = joined_with-append join free others (numbered pool.next wanted)
            ∙ ap (option_and_then (λ whole. joined_with join whole others)) (joined_with-whole free whole pool.next wanted free_given given joined ∙ same ∙ joins.1)
            ∙ joins.2;
        numbered = NumbersRise-behind 0 pool.next others wanted (NumbersRise-without 0 pool.next number pool.parts kept.numbered);
      }

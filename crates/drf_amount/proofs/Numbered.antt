-- Lists of parts whose numbers rise.
use Rattle.std.proofs.Common.{◌≡◌, ℕ, ◌+◌, ◌<◌, ◌≤◌, List, [], ◌∷◌, ◌++◌, Some, None, true, false, cond, refl, sym, ap, ◌∙◌, arith}
use Rattle.std.specs.BTreeMap.{is_at, insert_entry}
use Rattle.std.specs.Ordering.{nat_cmp}
use Rattle.std.specs.Cmp.{nat_cmp_is}
use Rattle.std.specs.declared.cmp.Ordering.TheVariants.{Less, Greater}
use Rattle.std.proofs.lemmas.Cmp.{by_ranked, ranked}
use Rattle.std.proofs.lemmas.Option.{none-some}
use Rattle.drf_amount.specs.Pool.{NumbersRise, part_at, parts_with, parts_without}

-- the lower bound is at most the next number
NumbersRise-le : {A : Type 0} (low next : ℕ) (parts : List (ℕ × A)) → NumbersRise low parts next → low ≤ next
NumbersRise-le low next [] rise = rise
NumbersRise-le low next (part ∷ parts) rise = let above = NumbersRise-le (part.0 + 1) next parts rise.1 in let here = rise.0 in omega arith

-- a part with the next number is inserted last
pub insert_entry-last : {A : Type 0} (low next : ℕ) (parts : List (ℕ × A)) (part : A) → NumbersRise low parts next → insert_entry nat_cmp parts next part ≡ parts ++ (next, part) ∷ []
insert_entry-last low next [] part rise = refl
insert_entry-last low next (first ∷ parts) part rise =
    let above : first.0 < next = omega (arith, NumbersRise-le (first.0 + 1) next parts rise.1) in
    rw (← nat_cmp_is next first.0 Greater above) (ap (λ rest. first ∷ rest) (insert_entry-last (first.0 + 1) next parts part rise.1))

-- the lower bound can be replaced by a smaller one
NumbersRise-lower : {A : Type 0} (low lower next : ℕ) (parts : List (ℕ × A)) → lower ≤ low → NumbersRise low parts next → NumbersRise lower parts next
NumbersRise-lower low lower next [] below rise = omega arith
NumbersRise-lower low lower next (part ∷ parts) below rise = (omega (arith, rise.0), rise.1)

pub NumbersRise-push : {A : Type 0} (low next : ℕ) (parts : List (ℕ × A)) (part : A) → NumbersRise low parts next → NumbersRise low (parts ++ (next, part) ∷ []) (next + 1)
NumbersRise-push low next [] part rise = (rise, omega arith)
NumbersRise-push low next (first ∷ parts) part rise = (rise.0, NumbersRise-push (first.0 + 1) next parts part rise.1)

pub NumbersRise-without : {A : Type 0} (low next number : ℕ) (parts : List (ℕ × A)) → NumbersRise low parts next → NumbersRise low (parts_without parts number) next
NumbersRise-without low next number [] rise = rise
NumbersRise-without low next number (first ∷ parts) rise =
    elim (is_at (nat_cmp number) first.0) as (λ b. NumbersRise low (cond b parts (first ∷ parts_without parts number)) next) [
      | true ↦ NumbersRise-lower (first.0 + 1) low next parts (omega (arith, rise.0)) rise.1
      | false ↦ (rise.0, NumbersRise-without (first.0 + 1) next number parts rise.1)
    ]

pub NumbersRise-with : {A : Type 0} (low next number : ℕ) (parts : List (ℕ × A)) (part : A) → NumbersRise low parts next → NumbersRise low (parts_with parts number part) next
NumbersRise-with low next number [] part rise = rise
NumbersRise-with low next number (first ∷ parts) part rise =
    elim (is_at (nat_cmp number) first.0) as (λ b. NumbersRise low (cond b ((first.0, part) ∷ parts) (first ∷ parts_with parts number part)) next) [
      | true ↦ rise
      | false ↦ (rise.0, NumbersRise-with (first.0 + 1) next number parts part rise.1)
    ]

-- there is no part with a number below all of them
pub part_at-below : {A : Type 0} (low next number : ℕ) (parts : List (ℕ × A)) → number < low → NumbersRise low parts next → part_at parts number ≡ None
part_at-below low next number [] below rise = refl
part_at-below low next number (first ∷ parts) below rise =
    let less : number < first.0 = omega (arith, rise.0) in
    rw (← nat_cmp_is number first.0 Less less) (part_at-below (first.0 + 1) next number parts (omega arith) rise.1)

-- inserting a part under a number that exists replaces the part
pub insert_entry-there : {A : Type 0} (low next number : ℕ) (parts : List (ℕ × A)) (was part : A) → NumbersRise low parts next → part_at parts number ≡ Some was → insert_entry nat_cmp parts number part ≡ parts_with parts number part
insert_entry-there low next number [] was part rise found = cc
insert_entry-there low next number (first ∷ parts) was part rise found =
    by_ranked (number < first.0) (number ≡ first.0) (first.0 < number) (nat_cmp number first.0) (ranked number first.0 (nat_cmp number first.0) refl)
    (λ is less. absurd (none-some was (sym (part_at-below (first.0 + 1) next number parts (omega arith) rise.1) ∙ rw is at found)))
    (λ is _. rw is)
    (λ is _. rw is (ap (λ rest. first ∷ rest) (insert_entry-there (first.0 + 1) next number parts was part rise.1 (rw is at found))))

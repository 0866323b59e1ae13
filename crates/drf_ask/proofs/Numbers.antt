-- The number that digits represent.
use Rattle.std.proofs.Common.{◌≡◌, ℕ, ◌+◌, ◌-◌, ◌*◌, ◌^◌, ◌<◌, ◌≤◌, min, List, ◌∷◌, drop, get_or, length, refl, sym, ap, ◌∙◌, arith}
use Rattle.std.proofs.lemmas.List.{at_drop_more, at_drop_all}
use Rattle.drf_ask.specs.Question.{number_from}

-- `number` is the value so far, or 2^64 - 1 if `exact` is greater; the remaining digits continue `exact`
pub record IsNumberTo (all left : List ℕ) (number : ℕ) : Type 0 where
  pub exact : ℕ
  pub is : number ≡ min exact (2 ^ 64 - 1)
  pub rest : number_from exact left ≡ number_from 0 all

pub number_begins : (all : List ℕ) → IsNumberTo all all 0
number_begins all = record { exact = 0; is = omega arith; rest = refl }

pub number_more : (all : List ℕ) (i digit number next : ℕ) → i < length all → digit ≡ get_or all i digit
    → next ≡ min (min (number * 10) (2 ^ 64 - 1) + (digit - 48)) (2 ^ 64 - 1)
    → IsNumberTo all (drop i all) number → IsNumberTo all (drop (i + 1) all) next
number_more all i digit number next inside is stepped so_far = record {
  exact = so_far.exact * 10 + (digit - 48);
  is = let was = so_far.is in omega arith;
  rest =
      ap (λ y. number_from so_far.exact (y ∷ drop (i + 1) all)) is
      ∙ sym (at_drop_more (number_from so_far.exact) all i digit inside) ∙ so_far.rest;
}

pub number_ends : (all : List ℕ) (i number : ℕ) → length all ≤ i → IsNumberTo all (drop i all) number
    → number ≡ min (number_from 0 all) (2 ^ 64 - 1)
number_ends all i number past so_far =
    so_far.is ∙ ap (λ n. min n (2 ^ 64 - 1)) (sym (at_drop_all (number_from so_far.exact) all i past) ∙ so_far.rest)

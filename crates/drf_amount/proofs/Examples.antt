-- The definitions computed for a pool of 3000 thousandths, of which 2000 are taken.
use Rattle.std.proofs.Common.{◌≡◌, ℕ, ◌-◌, ◌^◌, ◌++◌, [], ◌∷◌, Some, None, refl}
use Rattle.std.specs.Map.{keys_of}
use Rattle.drf_amount.specs.declared.algebra.AlgebraFault.TheVariants.{TooLarge}
use Rattle.drf_amount.specs.Scalar.{scalar_join, scalar_refusal}
use Rattle.drf_amount.specs.PoolCalls.{StopsAt}
use Rattle.drf_amount.specs.Pool.{pool_of, joined_with, joined_all, numbered, IsWhole, part_at, parts_without, parts_with}

-- the greatest amount, and one that is too large
greatest : scalar_join (2 ^ 64 - 2) 1 ≡ Some (2 ^ 64 - 1)
greatest = refl

too_large : scalar_join (2 ^ 64 - 1) 1 ≡ None
too_large = refl

refused : scalar_refusal (2 ^ 64 - 1) 1 ≡ Some TooLarge
refused = refl

whole : IsWhole scalar_join (pool_of 3000 1000 ((0, 2000) ∷ []) 1)
whole = refl

-- an amount less than the total is not the join
lost : joined_with scalar_join 500 ((0, 2000) ∷ []) ≡ Some 2500
lost = refl

-- shrunk to 500, and given back
shrunk : parts_with {A = ℕ} ((0, 2000) ∷ []) 0 500 ≡ (0, 500) ∷ []
shrunk = refl

whole_again : IsWhole scalar_join (pool_of 3000 2500 ((0, 500) ∷ []) 1)
whole_again = refl

given_back : parts_without {A = ℕ} ((0, 500) ∷ []) 0 ≡ []
given_back = refl

unknown : part_at {A = ℕ} [] 0 ≡ None
unknown = refl

-- of the 2000 that are taken, 700 and 800 become parts of their own
wanted : joined_all scalar_join 0 (700 ∷ 800 ∷ []) ≡ Some 1500
wanted = refl

split_numbers : keys_of {X = ℕ} (numbered 1 (700 ∷ 800 ∷ [])) ≡ 1 ∷ 2 ∷ []
split_numbers = refl

whole_split : IsWhole scalar_join (pool_of 3000 1500 (parts_without ((0, 2000) ∷ []) 0 ++ numbered 1 (700 ∷ 800 ∷ [])) 3)
whole_split = refl

-- after a split into no parts, everything is free
whole_of_none : IsWhole scalar_join (pool_of 3000 3000 (parts_without ((0, 2000) ∷ []) 0 ++ numbered 1 []) 1)
whole_of_none = refl

-- three amounts, of which the third makes the join too large
stops : StopsAt scalar_join scalar_refusal 0 (1 ∷ (2 ^ 64 - 2) ∷ 1 ∷ 5 ∷ []) TooLarge
stops = record {
  before = 1 ∷ (2 ^ 64 - 2) ∷ [];
  amount = 1;
  after = 5 ∷ [];
  amounts_are = refl;
  joined = 2 ^ 64 - 1;
  joined_is = refl;
  refused = refl;
}

-- What a type of amounts must satisfy. Each of its values is a given amount, and there can be other given amounts: the
-- theorems are about all given amounts.
use Rattle.std.specs.Prelude.{◌≡◌, ℕ, ◌+◌, ◌↔◌, Option, Some, None, option_and_then, IsSome, IfSome}
use Rattle.drf_amount.specs.declared.algebra.AlgebraFault.{AlgebraFault}
use Rattle.drf_amount.specs.declared.algebra.AlgebraFault.TheVariants.{Kind, Overlap, TooLarge, NotCovered, Memory}

-- `whole` is the join of `rest` and `part`
pub record IsRest {A : Type 0} (is_given : A → Type 0) (join : A → A → Option A) (whole part rest : A) : Type 0 where
  pub given : is_given rest
  pub joined : join rest part ≡ Some whole

-- `whole` is the join of `part` and some given amount
pub record Covers {A : Type 0} (is_given : A → Type 0) (join : A → A → Option A) (whole part : A) : Type 0 where
  pub rest : A
  pub is_rest : IsRest is_given join whole part rest

-- the errors that mean that two amounts have no join
abbrev pub IsRefusal : AlgebraFault → Type 0
IsRefusal Kind = Unit {0}
IsRefusal Overlap = Unit {0}
IsRefusal TooLarge = Unit {0}
IsRefusal NotCovered = ⊥
IsRefusal Memory = ⊥

-- the errors that joining can return: the reason why there is no join, or `Memory` if there is a join
abbrev pub IsJoinFault : Option AlgebraFault → AlgebraFault → Type 0
IsJoinFault refusal Kind = refusal ≡ Some Kind
IsJoinFault refusal Overlap = refusal ≡ Some Overlap
IsJoinFault refusal TooLarge = refusal ≡ Some TooLarge
IsJoinFault refusal NotCovered = ⊥
IsJoinFault refusal Memory = refusal ≡ None

-- the errors that taking a part away can return: `covers` says whether there is a rest
abbrev pub IsMinusFault : Type 0 → AlgebraFault → Type 0
IsMinusFault covers Kind = ⊥
IsMinusFault covers Overlap = ⊥
IsMinusFault covers TooLarge = ⊥
IsMinusFault covers NotCovered = ¬ covers
IsMinusFault covers Memory = covers

pub record AlgebraLaws {A : Type 0} (is_given : A → Type 0) (empty : A) (join : A → A → Option A) (refusal : A → A → Option AlgebraFault) (amount : A → ℕ) : Type 0 where
  -- the empty amount and joins of given amounts are given
  pub empty_given : is_given empty
  pub join_given : (a b c : A) → is_given a → is_given b → join a b ≡ Some c → is_given c
  -- if one side is defined, so is the other, and they are equal
  pub commutative : (a b : A) → is_given a → is_given b → join a b ≡ join b a
  pub associative : (a b c : A) → is_given a → is_given b → is_given c → option_and_then (λ ab. join ab c) (join a b) ≡ option_and_then (join a) (join b c)
  -- an amount has at most one rest without a part
  pub cancellative : (a b c whole : A) → is_given a → is_given b → is_given c → join a b ≡ Some whole → join a c ≡ Some whole → b ≡ c
  pub neutral : (a : A) → is_given a → join a empty ≡ Some a
  -- sizes add up, and only the empty amount has the size 0
  pub amount_adds : (a b c : A) → is_given a → is_given b → join a b ≡ Some c → amount c ≡ amount a + amount b
  pub amount_zero : (a : A) → is_given a → (amount a ≡ 0) ↔ (a ≡ empty)
  -- there is a reason for refusal exactly if there is no join
  pub refused : (a b : A) → is_given a → is_given b → (join a b ≡ None) ↔ IsSome (refusal a b)
  pub refusals : (a b : A) → is_given a → is_given b → IfSome (refusal a b) IsRefusal

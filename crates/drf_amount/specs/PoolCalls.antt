-- What the methods of a pool do, and when they return which error.
use Rattle.std.specs.Prelude.{◌≡◌, ℕ, ◌+◌, ◌-◌, ◌<◌, ◌≤◌, ◌^◌, List, [], ◌∷◌, ◌++◌, length, Option, Some, None, IsSome, IsSomeAnd}
use Rattle.std.specs.Map.{keys_of}
use Rattle.drf_amount.specs.declared.algebra.AlgebraFault.{AlgebraFault}
use Rattle.drf_amount.specs.declared.algebra.AlgebraFault.TheVariants as algebra
use Rattle.drf_amount.specs.declared.pool.PoolFault.{PoolFault}
use Rattle.drf_amount.specs.declared.pool.PoolFault.TheVariants.{UnknownPart, NotCovered, Kind, Overlap, TooLarge, Full, Memory}
use Rattle.drf_amount.specs.Algebra.{IsRest, Covers}
use Rattle.drf_amount.specs.Pool.{PoolContent, joined_all, numbered, part_at, parts_without, parts_with}

-- the error of a pool for an error of an amount
abbrev pub pool_fault : AlgebraFault → PoolFault
pool_fault algebra.Kind = Kind
pool_fault algebra.Overlap = Overlap
pool_fault algebra.TooLarge = TooLarge
pool_fault algebra.NotCovered = NotCovered
pool_fault algebra.Memory = Memory

-- the first amount, from the left, that has no join with those before it is refused for this reason
pub record StopsAt {A : Type 0} (join : A → A → Option A) (refusal : A → A → Option AlgebraFault) (empty : A) (amounts : List A) (fault : AlgebraFault) : Type 0 where
  pub before : List A
  pub amount : A
  pub after : List A
  pub amounts_are : amounts ≡ before ++ amount ∷ after
  pub joined : A
  pub joined_is : joined_all join empty before ≡ Some joined
  pub refused : refusal joined amount ≡ Some fault

-- the errors that joining all amounts can return
abbrev pub IsJoinAllFault : {A : Type 0} → (A → A → Option A) → (A → A → Option AlgebraFault) → A → List A → AlgebraFault → Type 0
IsJoinAllFault join refusal empty amounts algebra.Kind = StopsAt join refusal empty amounts algebra.Kind
IsJoinAllFault join refusal empty amounts algebra.Overlap = StopsAt join refusal empty amounts algebra.Overlap
IsJoinAllFault join refusal empty amounts algebra.TooLarge = StopsAt join refusal empty amounts algebra.TooLarge
IsJoinAllFault join refusal empty amounts algebra.NotCovered = ⊥
IsJoinAllFault join refusal empty amounts algebra.Memory = Unit {0}

-- when `give_back` returns which error
abbrev pub IsGiveBackFault : {A : Type 0} → PoolContent A → ℕ → PoolFault → Type 0
IsGiveBackFault pool number UnknownPart = part_at pool.parts number ≡ None
IsGiveBackFault pool number Memory = IsSome (part_at pool.parts number)
IsGiveBackFault pool number _ = ⊥

module _ {A : Type 0} (is_given : A → Type 0) (join : A → A → Option A) where
  -- the amount was free and is now a part with the next number; no part has the number 2^64 - 1
  pub record Takes (old new : PoolContent A) (wanted : A) (number : ℕ) : Type 0 where
    pub number_is : number ≡ old.next
    pub number_left : old.next < 2 ^ 64 - 1
    pub taken : IsRest is_given join old.free wanted new.free
    pub parts : new.parts ≡ old.parts ++ (number, wanted) ∷ []
    pub next : new.next ≡ old.next + 1
    pub total : new.total ≡ old.total

  -- the part with that number is free again
  pub record GivesBack (old new : PoolContent A) (number : ℕ) (part : A) : Type 0 where
    pub part_is : part_at old.parts number ≡ Some part
    pub freed : IsRest is_given join new.free part old.free
    pub parts : new.parts ≡ parts_without old.parts number
    pub next : new.next ≡ old.next
    pub total : new.total ≡ old.total

  -- the part with that number is now `smaller`, and the rest of it is free
  pub record Shrinks (old new : PoolContent A) (number : ℕ) (smaller : A) : Type 0 where
    pub part : A
    pub part_is : part_at old.parts number ≡ Some part
    pub rest : A
    pub rest_is : IsRest is_given join part smaller rest
    pub freed : IsRest is_given join new.free rest old.free
    pub parts : new.parts ≡ parts_with old.parts number smaller
    pub next : new.next ≡ old.next
    pub total : new.total ≡ old.total

  -- the part with that number is replaced by the wanted parts with the next numbers, and the rest of it is free
  pub record Splits (empty : A) (old new : PoolContent A) (number : ℕ) (wanted : List A) (numbers : List ℕ) : Type 0 where
    pub part : A
    pub part_is : part_at old.parts number ≡ Some part
    pub whole : A
    pub whole_is : joined_all join empty wanted ≡ Some whole
    pub rest : A
    pub rest_is : IsRest is_given join part whole rest
    pub freed : IsRest is_given join new.free rest old.free
    pub numbers_are : numbers ≡ keys_of (numbered old.next wanted)
    pub numbers_left : old.next + length wanted ≤ 2 ^ 64 - 1
    pub parts : new.parts ≡ parts_without old.parts number ++ numbered old.next wanted
    pub next : new.next ≡ old.next + length wanted
    pub total : new.total ≡ old.total

  -- `after` is `before` with `old` replaced by `new`
  pub record IsReplaced (before after old new : A) : Type 0 where
    pub rest : A
    pub of_before : IsRest is_given join before old rest
    pub of_after : IsRest is_given join after new rest

  -- `old` is replaced by `new` in the free amount and in the total
  pub record Replaces (before after : PoolContent A) (old new : A) : Type 0 where
    pub free : IsReplaced before.free after.free old new
    pub total : IsReplaced before.total after.total old new
    pub parts : after.parts ≡ before.parts
    pub next : after.next ≡ before.next

  -- there is a part with that number, and it covers `smaller` (or it does not: `PartLacks`)
  abbrev pub PartCovers : PoolContent A → ℕ → A → Type 0
  PartCovers pool number smaller = IsSomeAnd (part_at pool.parts number) (λ part. Covers is_given join part smaller)

  abbrev pub PartLacks : PoolContent A → ℕ → A → Type 0
  PartLacks pool number smaller = IsSomeAnd (part_at pool.parts number) (λ part. ¬ Covers is_given join part smaller)

  -- when `take` returns which error
  abbrev pub IsTakeFault : PoolContent A → A → PoolFault → Type 0
  IsTakeFault pool wanted NotCovered = ¬ Covers is_given join pool.free wanted
  IsTakeFault pool wanted Full = Covers is_given join pool.free wanted × (pool.next ≡ 2 ^ 64 - 1)
  IsTakeFault pool wanted Memory = Covers is_given join pool.free wanted × (pool.next < 2 ^ 64 - 1)
  IsTakeFault pool wanted _ = ⊥

  -- when `shrink` returns which error
  abbrev pub IsShrinkFault : PoolContent A → ℕ → A → PoolFault → Type 0
  IsShrinkFault pool number smaller UnknownPart = part_at pool.parts number ≡ None
  IsShrinkFault pool number smaller NotCovered = PartLacks pool number smaller
  IsShrinkFault pool number smaller Memory = PartCovers pool number smaller
  IsShrinkFault pool number smaller _ = ⊥

  -- when `split` returns which error: `Memory` can come before every other one except `UnknownPart`
  abbrev pub IsSplitFault : (A → A → Option AlgebraFault) → A → PoolContent A → ℕ → List A → PoolFault → Type 0
  IsSplitFault refusal empty pool number wanted UnknownPart = part_at pool.parts number ≡ None
  IsSplitFault refusal empty pool number wanted Kind = IsSome (part_at pool.parts number) × StopsAt join refusal empty wanted algebra.Kind
  IsSplitFault refusal empty pool number wanted Overlap = IsSome (part_at pool.parts number) × StopsAt join refusal empty wanted algebra.Overlap
  IsSplitFault refusal empty pool number wanted TooLarge = IsSome (part_at pool.parts number) × StopsAt join refusal empty wanted algebra.TooLarge
  IsSplitFault refusal empty pool number wanted NotCovered = IsSomeAnd (joined_all join empty wanted) (PartLacks pool number)
  IsSplitFault refusal empty pool number wanted Full = IsSomeAnd (joined_all join empty wanted) (PartCovers pool number) × (2 ^ 64 - 1 < pool.next + length wanted)
  IsSplitFault refusal empty pool number wanted Memory = IsSome (part_at pool.parts number)

  -- the free amount covers `old`, and the rest of the total has no join with `new`, for this reason
  pub record Refuses (refusal : A → A → Option AlgebraFault) (pool : PoolContent A) (old new : A) (fault : AlgebraFault) : Type 0 where
    pub covers : Covers is_given join pool.free old
    pub rest : A
    pub rest_is : IsRest is_given join pool.total old rest
    pub refused : refusal rest new ≡ Some fault

  -- when `replace_free` returns which error: `Memory` can come before the errors of the join
  abbrev pub IsReplaceFault : (A → A → Option AlgebraFault) → PoolContent A → A → A → PoolFault → Type 0
  IsReplaceFault refusal pool old new NotCovered = ¬ Covers is_given join pool.free old
  IsReplaceFault refusal pool old new Kind = Refuses refusal pool old new algebra.Kind
  IsReplaceFault refusal pool old new Overlap = Refuses refusal pool old new algebra.Overlap
  IsReplaceFault refusal pool old new TooLarge = Refuses refusal pool old new algebra.TooLarge
  IsReplaceFault refusal pool old new Memory = Covers is_given join pool.free old
  IsReplaceFault refusal pool old new _ = ⊥

-- The work of a sorter: the number of keys that it computed, and of keys that can be stale and must then be computed again.
use Rattle.std.specs.Prelude.{◌≡◌, ◌≤◌, ◌+◌, ℕ, Bool, IsTrue, OnOk, Result}

-- the number of keys that were computed, and of nodes whose key can be stale
pub record Work : Type 0 where
  pub made : ℕ
  pub marked : ℕ

-- the sum of both numbers
abbrev pub debt : Work → ℕ
debt work = work.made + work.marked

-- if work is counted, the sum grows by at most `most`
abbrev pub Adds : Bool → Work → Work → ℕ → Type 0
Adds counted old new most = IsTrue counted → debt new ≤ debt old + most

-- the number of computed keys does not fall, and the sum grows by at most `most`
pub record Spends (counted : Bool) (old new : Work) (most : ℕ) : Type 0 where
  pub made : old.made ≤ new.made
  pub work : Adds counted old new most

-- no key is computed, and the sum grows by at most `most`
pub record Defers (counted : Bool) (old new : Work) (most : ℕ) : Type 0 where
  pub made : new.made ≡ old.made
  pub work : Adds counted old new most

-- the same for a call that can fail; the bound on the sum holds only if it succeeds
pub record SpendsOnOk {T E : Type 0} (counted : Bool) (result : Result T E) (old new : Work) (most : ℕ) : Type 0 where
  pub made : old.made ≤ new.made
  pub work : OnOk result (Adds counted old new most)

pub record DefersOnOk {T E : Type 0} (counted : Bool) (result : Result T E) (old new : Work) (most : ℕ) : Type 0 where
  pub made : new.made ≡ old.made
  pub work : OnOk result (Adds counted old new most)

-- if work is counted, no key is stale
abbrev pub IsRepaired : Bool → Work → Type 0
IsRepaired counted work = IsTrue counted → work.marked ≡ 0

-- if work is counted, at most `most` keys are stale
abbrev pub OwesAtMost : Bool → Work → ℕ → Type 0
OwesAtMost counted work most = IsTrue counted → work.marked ≤ most

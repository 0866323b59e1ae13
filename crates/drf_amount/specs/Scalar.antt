-- Thousandths as amounts: their join is their sum, if it is below 2^64.
use Rattle.std.specs.Prelude.{ℕ, ◌+◌, ◌<◌, ◌^◌, Option, Some, None, nat_lt, if◌then◌else◌}
use Rattle.drf_amount.specs.declared.algebra.AlgebraFault.{AlgebraFault}
use Rattle.drf_amount.specs.declared.algebra.AlgebraFault.TheVariants.{TooLarge}

-- a number of thousandths that a scalar can have
abbrev pub IsScalar : ℕ → Type 0
IsScalar thousandths = thousandths < 2 ^ 64

-- the sum, if it is below 2^64
abbrev pub scalar_join : ℕ → ℕ → Option ℕ
scalar_join a b = if nat_lt (a + b) (2 ^ 64) then Some (a + b) else None

-- a sum of 2^64 or more is too large
abbrev pub scalar_refusal : ℕ → ℕ → Option AlgebraFault
scalar_refusal a b = if nat_lt (a + b) (2 ^ 64) then None else Some TooLarge

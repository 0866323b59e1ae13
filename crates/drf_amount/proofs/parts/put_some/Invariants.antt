use Rattle.std.proofs.Common.{◌≡◌, ◌+◌, ◌++◌, take}
use Rattle.std.specs.Map.{keys_of}
use Rattle.drf_amount.specs.Pool.{numbered}
use Rattle.drf_amount.proofs.parts.put_some.Given as goal

-- the amounts so far were put under consecutive numbers
abbrev pub invariant-loop-amount : goal.invariant-loop-amount
invariant-loop-amount g l = record {
  number : l.number ≡ l.first + l.amount-index;
  parts : l.parts.entries ≡ l.fn.parts.entries ++ numbered l.first (take l.amount-index l.amounts);
  numbers : l.numbers.items ≡ keys_of (numbered l.first (take l.amount-index l.amounts));
}

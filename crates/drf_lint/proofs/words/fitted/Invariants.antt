use Rattle.std.proofs.Common.{◌≡◌, true, All, length}
use Rattle.drf_lint.specs.Diagnosed.{is_seen}
use Rattle.drf_lint.proofs.words.fitted.Given as goal

abbrev pub invariant-loop-byte : goal.invariant-loop-byte
invariant-loop-byte l = record {
  seen : All (λ b. is_seen b ≡ true) l.words.items;
  count : length l.words.items ≡ l.byte-index;
}

use Rattle.std.proofs.Common.{◌≡◌, ◌+◌, ◌<◌, ◌^◌, ℕ, List, drop, IsTrue}
use Rattle.drf_bundle.specs.Quantities.{amount_of, is_in_order, plus}
use Rattle.drf_bundle.proofs.quantities.Quantities.plus.Given as goal

-- the sum so far and the remaining entries make the whole sum, which is small enough
abbrev pub invariant-loop-i : goal.invariant-loop-i
invariant-loop-i l = record {
  whole : plus l.sum (drop l.i l.entry-items) ≡ plus l.self l.other;
  fits : (n : List ℕ) → amount_of l.sum n + amount_of (drop l.i l.entry-items) n < 2 ^ 64;
  in_order : IsTrue (is_in_order (drop l.i l.entry-items));
}

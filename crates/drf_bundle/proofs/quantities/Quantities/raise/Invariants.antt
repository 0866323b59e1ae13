use Rattle.std.proofs.Common.{◌≡◌, ◌+◌, ◌<◌, ◌^◌, ℕ, List, drop, IsTrue}
use Rattle.drf_bundle.specs.Quantities.{amount_of, is_in_order, names_all, plus}
use Rattle.drf_bundle.proofs.quantities.Quantities.raise.Given as goal

-- the sum so far names the labels of the remaining entries and makes the whole sum with them, which is small enough
abbrev pub invariant-loop-entry : goal.invariant-loop-entry
invariant-loop-entry l = record {
  whole : plus l.self (drop l.entry-index l.entry-items) ≡ plus l.initial.self l.other;
  fits : (n : List ℕ) → amount_of l.self n + amount_of (drop l.entry-index l.entry-items) n < 2 ^ 64;
  in_order : IsTrue (is_in_order (drop l.entry-index l.entry-items));
  named : IsTrue (names_all l.self (drop l.entry-index l.entry-items));
}

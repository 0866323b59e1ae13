use Rattle.std.proofs.Common.{◌≡◌, ◌+◌, ◌≤◌, ◌++◌, length, take, reverse, vec_len, vec_capacity}
use Rattle.drf_holdings.proofs.offers.move_back.Given as goal

abbrev pub invariant-loop-rows : goal.invariant-loop-rows
invariant-loop-rows l = record {
  within : l.count ≤ length l.rows;
  rows : take l.count l.rows ≡ take l.count l.fn.rows;
  all : l.rows ++ reverse l.offers.items ≡ l.fn.rows ++ reverse l.fn.offers.items;
  room : vec_len l.offers + length l.rows ≤ vec_capacity l.offers + l.count;
}

abbrev pub decreases-loop-rows : goal.decreases-loop-rows
decreases-loop-rows l = length l.rows

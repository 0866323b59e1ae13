use Rattle.std.proofs.Common.{◌≡◌, ◌<◌, length, map}
use Rattle.std.specs.List.{AllByRecursion}
use Rattle.std.specs.Vec.Iter.{into_iter_items, into_iter_len}
use Rattle.drf_tables.specs.Inside.{agent_row, frees_in, known_after}
use Rattle.drf_tables.proofs.cycle.put_lefts.Given as goal

abbrev pub invariant-loop-left : goal.invariant-loop-left
invariant-loop-left l = record {
  rows : map agent_row l.agents.entries ≡ map agent_row l.fn.agents.entries;
  places : AllByRecursion (λ left. left.agent < length l.agents.entries) (into_iter_items l.left-iterator);
  free : known_after (frees_in l.agents.entries) (into_iter_items l.left-iterator)
      ≡ known_after (frees_in l.fn.agents.entries) l.fn.lefts.items;
  number : into_iter_len l.left-iterator ≡ length (into_iter_items l.left-iterator);
}

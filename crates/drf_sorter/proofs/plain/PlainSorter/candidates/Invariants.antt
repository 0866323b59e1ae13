use Rattle.std.proofs.Common.{◌≡◌, ◌≤◌, ◌+◌, ◌-◌, ◌^◌, All, length, map, min, take}
use Rattle.std.specs.List.{filter, sum_by}
use Rattle.drf_sorter.specs.Candidates.{HasKeys}
use Rattle.drf_sorter.specs.Plain.{plain_standing}
use Rattle.drf_sorter.proofs.plain.PlainSorter.candidates.Given as goal

abbrev pub invariant-loop-client : goal.invariant-loop-client
invariant-loop-client l = record {
  paths : map (λ c. c.path) l.candidates.items
      ≡ map (λ c. c.path) (filter (λ c. c.active) (take l.client-index l.self.clients.items));
  keys : All (HasKeys (plain_standing l.self)) l.candidates.items;
  counted : l.made
      ≡ min (l.fn.made + sum_by length (map (λ c. c.path) (filter (λ c. c.active) (take l.client-index l.self.clients.items)))) (2 ^ 64 - 1);
  made : l.fn.made ≤ l.made;
}

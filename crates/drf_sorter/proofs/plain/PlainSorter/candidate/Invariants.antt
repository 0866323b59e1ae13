use Rattle.std.proofs.Common.{◌≡◌, ◌≤◌, ◌+◌, ◌-◌, ◌^◌, [], map, min, take}
use Rattle.drf_sorter.specs.Keys.{key_by}
use Rattle.drf_sorter.specs.Keys.{keys_of}
use Rattle.drf_sorter.specs.Plain.{plain_standing}
use Rattle.drf_sorter.proofs.plain.PlainSorter.candidate.Given as goal

abbrev pub invariant-loop-i : goal.invariant-loop-i
invariant-loop-i l = record {
  keys : map key_by l.keys.items ≡ keys_of (plain_standing l.self) [] (take l.i l.path);
  counted : l.made ≡ min (l.fn.made + l.i) (2 ^ 64 - 1);
  made : l.fn.made ≤ l.made;
}

use Rattle.std.proofs.Common.{◌≡◌, length, take}
use Rattle.drf_tree.specs.Lines.{AreListed}
use Rattle.drf_tree.proofs.lines.listed.Given as goal

abbrev pub invariant-loop-number : goal.invariant-loop-number
invariant-loop-number l = record {
  long : length l.flags.items ≡ l.len;
  listed : AreListed l.flags.items (take l.number-index l.numbers);
}

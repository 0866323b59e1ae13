use Rattle.std.proofs.Common.{◌≡◌, map, take}
use Rattle.drf_tree.specs.Nodes.{seen_in}
use Rattle.drf_tree.proofs.copied.copies_of_families.Given as goal

abbrev pub invariant-loop-family : goal.invariant-loop-family
invariant-loop-family l = map seen_in l.copies.items ≡ map seen_in (take l.family-index l.families)

use Rattle.std.proofs.Common.{◌≡◌, map, take}
use Rattle.drf_tree.specs.Family.{seen}
use Rattle.drf_tree.proofs.family.Family.copy.Given as goal

abbrev pub invariant-loop-child : goal.invariant-loop-child
invariant-loop-child l = map seen l.children.items ≡ map seen (take l.child-index l.self.children.items)

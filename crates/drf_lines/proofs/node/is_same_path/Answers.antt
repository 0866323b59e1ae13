use Rattle.std.specs.Cmp.Lexicographic.{bytes_decides, pointwise_decides}
use Rattle.std.proofs.Common.{subst, IsTrue, Bool}
use Rattle.drf_lines.proofs.node.is_same_path.Goals as goal

pub returns : goal.returns
returns c is = (pointwise_decides bytes_decides c.args.path.now c.args.other.now).0 (subst (λ (b : Bool). IsTrue b) c.eq.ensures is)

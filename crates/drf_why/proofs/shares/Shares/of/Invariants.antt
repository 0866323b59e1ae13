use Rattle.std.proofs.Common.{◌≡◌, drop}
use Rattle.drf_role.specs.Text.{Text}
use Rattle.drf_why.specs.Shares.{share_at, reported_share}
use Rattle.drf_why.proofs.shares.Shares.of.Given as goal

abbrev pub invariant-loop-i : goal.invariant-loop-i
invariant-loop-i l = (node : Text) → share_at l.by_node node ≡ reported_share (drop l.i l.nodes) node

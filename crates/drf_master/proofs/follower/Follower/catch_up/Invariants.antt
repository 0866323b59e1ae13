use Rattle.std.proofs.Common.{◌≡◌}
use Rattle.drf_master.specs.Journal.{HasTaken}
use Rattle.drf_master.proofs.follower.Follower.catch_up.Given as goal

-- it has taken the entries before this one
abbrev pub invariant-loop-place : goal.invariant-loop-place
invariant-loop-place g l = (l.self.taken ≡ l.place) × HasTaken l.initial.self.core.limits g.K.Naming.start l.entries l.self.core l.place

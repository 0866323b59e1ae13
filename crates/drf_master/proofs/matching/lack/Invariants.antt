use Rattle.std.proofs.Common.{◌≡◌, ◌-◌, take}
use Rattle.drf_master.specs.Matching.{count, receipts_of}
use Rattle.drf_master.proofs.matching.lack.Given as goal

abbrev pub invariant-loop-pass : goal.invariant-loop-pass
invariant-loop-pass l = l.left ≡ l.wanted - count (receipts_of (take l.pass-index l.passes))

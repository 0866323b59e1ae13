use Rattle.std.proofs.Common.{take}
use Rattle.drf_master.specs.Matching.{receipts_of}
use Rattle.drf_master.specs.Tallies.{IsTally}
use Rattle.drf_master.proofs.matching.matches.Given as goal

abbrev pub invariant-loop-pass : goal.invariant-loop-pass
invariant-loop-pass l = IsTally l.journal (receipts_of (take l.pass-index l.passes)) l.tally.named.items l.tally.wrong

use Rattle.std.proofs.Common.{List}
use Rattle.drf_gates.specs.quota.Allowance.{AreRaised, Usage}
use Rattle.drf_gates.specs.quota.Totals.{AreCarried, AreExact}
use Rattle.drf_gates.proofs.quota.totals.raise_totals.Given as goal

-- the totals of the prefixes so far are the new ones
abbrev pub invariant-loop-len : goal.invariant-loop-len
invariant-loop-len l = (old new : List Usage) → AreRaised old new l.role l.amounts → AreExact old l.fn.totals.entries → AreCarried old new l.role l.len l.totals.entries

use Rattle.std.proofs.Common.{List}
use Rattle.std.specs.Prelude.{All}
use Rattle.drf_gates.specs.quota.Allowance.{Usage}
use Rattle.drf_gates.specs.quota.Totals.{AreExact, IsExact}
use Rattle.drf_gates.proofs.quota.totals.copy_totals.Given as goal

-- the copied totals are exact if the original ones are
abbrev pub invariant-loop-role : goal.invariant-loop-role
invariant-loop-role l =
    (used : List Usage) → AreExact used l.totals.entries
    → record { copied : AreExact used l.copy.entries; left : All (λ e. IsExact used e.0 e.1) l.role-iterator }

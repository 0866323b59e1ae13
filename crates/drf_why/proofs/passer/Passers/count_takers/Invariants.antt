use Rattle.std.proofs.Common.{◌≡◌, drop}
use Rattle.std.specs.Prelude.{fold}
use Rattle.std.specs.List.{flat_map}
use Rattle.std.specs.Borrow.{Bor}
use Rattle.drf_explain.specs.declared.finding.Finding.{Finding}
use Rattle.drf_why.specs.Passers.{taker_in, with_passer}
use Rattle.drf_why.proofs.passer.Passers.count_takers.Given as goal

abbrev pub invariant-loop-finding : goal.invariant-loop-finding
invariant-loop-finding l =
    fold with_passer l.self (flat_map (λ (f : Bor Finding). taker_in l.bundle f.now) (drop l.finding-index l.findings))
    ≡ fold with_passer l.fn.self (flat_map (λ (f : Bor Finding). taker_in l.bundle f.now) l.findings)

use Rattle.std.proofs.Common.{◌≡◌, ◌++◌, map}
use Rattle.std.specs.List.{flat_map}
use Rattle.drf_why.specs.Passers.{passer_of, passer_text}
use Rattle.drf_why.proofs.passer_line.write_passers.Given as goal

abbrev pub invariant-loop-client : goal.invariant-loop-client
invariant-loop-client l =
    l.text.items ++ flat_map (passer_text l.shares.report.now l.path) (map passer_of l.client-iterator)
    ≡ l.fn.text.items ++ flat_map (passer_text l.shares.report.now l.path) l.passers

use Rattle.std.proofs.Common.{◌≡◌, ◌++◌, drop}
use Rattle.std.specs.List.{flat_map}
use Rattle.drf_why.specs.Tally.{tally_lines}
use Rattle.drf_why.proofs.tally.write_each.Given as goal

abbrev pub invariant-loop-tally : goal.invariant-loop-tally
invariant-loop-tally l =
    l.text.items ++ flat_map (tally_lines l.shares.report.now) (drop l.tally-index l.tallies) ≡ l.fn.text.items ++ flat_map (tally_lines l.shares.report.now) l.tallies

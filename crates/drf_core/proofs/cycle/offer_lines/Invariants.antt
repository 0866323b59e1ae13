use Rattle.std.proofs.Common.{◌≡◌, map, take}
use Rattle.drf_rows.specs.Step.{line_reported}
use Rattle.drf_core.proofs.cycle.offer_lines.Given as goal

abbrev pub invariant-loop-offer : goal.invariant-loop-offer
invariant-loop-offer l = l.lines.items ≡ map line_reported (take l.offer-index l.offers)

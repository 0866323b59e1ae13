use Rattle.std.proofs.Common.{◌++◌, ap, ◌∙◌}
use Rattle.std.specs.List.{flat_map}
use Rattle.drf_why.specs.Tally.{tally_lines}
use Rattle.drf_why.proofs.tally.write_tallies.Goals as goal

pub returns : goal.returns
returns c =
    c.in_ok-write_each.ensures
    ∙ ap (λ report. c.args.text.now.items ++ flat_map (tally_lines report) c.args.tallies.now) c.in_ok-shares.ensures.report

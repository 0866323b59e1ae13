use Rattle.std.proofs.Common.{sym}
use Rattle.drf_sorter.proofs.LineLemmas.{goes_last}
use Rattle.drf_sorter.proofs.lines.goes_last.Goals as goal

pub returns-then-is_below : goal.returns-then-is_below
returns-then-is_below c is =
    goes_last c.args.path.now c.args.lines.now c.in-Some.line.now (sym c.in-Some.ensures.value) (c.is_below.ensures is) c.requires

pub returns-else-is_below : goal.returns-else-is_below
returns-else-is_below c is =
    goes_last c.args.path.now c.args.lines.now c.in-Some.line.now (sym c.in-Some.ensures.value) (c.is_beside.ensures is) c.requires

use Rattle.std.proofs.Common.{length}
use Rattle.drf_rows.proofs.tasks.+are_distinct.Given as goal

abbrev pub decreases-are_distinct : goal.decreases-are_distinct
decreases-are_distinct l = length l.tasks.now

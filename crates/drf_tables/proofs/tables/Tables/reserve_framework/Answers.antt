use Rattle.drf_tables.specs.Inside.{rows_of}
use Rattle.drf_tables.proofs.tables.Tables.reserve_framework.Goals as goal

pub invariant_of-self-2 : goal.invariant_of-self-2
unfolding rows_of
invariant_of-self-2 c = record {
  kept = rw c.reserve.ensures.same c.self.invariant.kept;
  consumed = rw c.reserve.ensures.same c.self.invariant.consumed;
}

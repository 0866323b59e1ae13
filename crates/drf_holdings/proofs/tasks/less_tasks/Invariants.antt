use Rattle.std.proofs.Common.{◌≡◌, flat_map}
use Rattle.std.specs.VecDeque.Iter.{deque_iter_rest}
use Rattle.drf_bundle.specs.Taken.{rest_of_all}
use Rattle.drf_holdings.specs.Listed.{task_serial, bundles_at}
use Rattle.drf_holdings.proofs.tasks.less_tasks.Given as goal

abbrev pub invariant-loop-serial : goal.invariant-loop-serial
invariant-loop-serial l =
    rest_of_all l.left (flat_map (bundles_at task_serial (λ t. t.row.bundle) l.tasks) (deque_iter_rest l.serial-iterator))
    ≡ rest_of_all l.fn.whole (flat_map (bundles_at task_serial (λ t. t.row.bundle) l.tasks) l.serials.items)

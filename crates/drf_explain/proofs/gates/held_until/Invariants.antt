use Rattle.std.proofs.Common.{◌≡◌, fold, drop, None}
use Rattle.std.specs.Prelude.{max}
use Rattle.drf_rows.specs.Filters.{holds_back}
use Rattle.drf_explain.specs.Gates.{client_at, reduced}
use Rattle.drf_explain.proofs.gates.held_until.Given as goal

-- the result so far, continued over the remaining filters, is the result for all
abbrev pub invariant-loop-filter : goal.invariant-loop-filter
invariant-loop-filter l =
    fold (reduced (holds_back l.timestamp (client_at l.client) l.agent l.bundle) (λ f. f.until) max) l.until (drop l.filter-index l.filters)
    ≡ fold (reduced (holds_back l.timestamp (client_at l.client) l.agent l.bundle) (λ f. f.until) max) None l.filters

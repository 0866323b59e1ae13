use Rattle.std.proofs.Common.{◌≡◌, ◌++◌, List, length, map}
use Rattle.std.specs.Option.{option_copied}
use Rattle.drf_rows.specs.Client.{Client, path_of}
use Rattle.drf_rows.specs.Cycle.{free_of}
use Rattle.drf_rows.specs.declared.rows.AgentRow.{AgentRow}
use Rattle.drf_rows.specs.declared.rows.Rows.{Rows}
use Rattle.drf_explain.specs.Each.{reported_here}
use Rattle.drf_explain.specs.Gates.{AreGatesOf}
use Rattle.drf_core.specs.cycle.Entitling.{IsQuotaOf}
use Rattle.drf_core.proofs.cycle.explain.explain_queue.Given as goal

-- the clients in the queue are reported after those before them
abbrev pub invariant-loop-sorter : goal.invariant-loop-sorter
invariant-loop-sorter g l = record {
  content : g.S.Sorter.content l.sorter ≡ g.S.Sorter.content l.initial.sorter;
  reported : (clients : List Client) (rows : Rows) (a : AgentRow) → g.S.Sorter.queue l.initial.sorter ≡ map path_of clients → AreGatesOf rows a l.gates
      → IsQuotaOf rows (option_copied l.quota) → l.free ≡ free_of rows a → l.agent ≡ a.name
      → (rest : List Client) × (g.S.Sorter.queue l.sorter ≡ map path_of rest)
      × (l.findings.items ++ map (reported_here rows a) rest ≡ l.initial.findings.items ++ map (reported_here rows a) clients);
}

abbrev pub decreases-loop-sorter : goal.decreases-loop-sorter
decreases-loop-sorter g l = length (g.S.Sorter.queue l.sorter)

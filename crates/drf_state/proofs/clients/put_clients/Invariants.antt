use Rattle.std.proofs.Common.{◌≡◌, ◌≤◌, drop}
use Rattle.drf_content.specs.Putting.{CanAllBeBack, with_all_back}
use Rattle.drf_state.proofs.clients.put_clients.Given as goal

-- the remaining clients can be added, and with them the sorter has its final content
abbrev pub invariant-loop-client : goal.invariant-loop-client
invariant-loop-client g l = record {
  can : CanAllBeBack (g.S.Sorter.content l.sorter) l.framework (drop l.client-index l.clients);
  all : with_all_back (g.S.Sorter.content l.sorter) l.framework (drop l.client-index l.clients)
      ≡ with_all_back (g.S.Sorter.content l.initial.sorter) l.framework l.clients;
  made : (g.S.Sorter.work l.initial.sorter).made ≤ (g.S.Sorter.work l.sorter).made;
}

use Rattle.std.proofs.Common.{◌≡◌, ◌+◌, ◌≤◌, IsTrue, drop, length}
use Rattle.std.specs.Prelude.{sum_by}
use Rattle.drf_sorter.specs.Work.{debt}
use Rattle.drf_content.specs.Registering.{AreKnown, without_all}
use Rattle.drf_core.proofs.events.frameworks.remove_clients.Given as goal

-- the remaining clients are known, and removing them gives the content that is ensured
abbrev pub invariant-loop-path : goal.invariant-loop-path
invariant-loop-path g l = record {
  known : AreKnown (g.S.Sorter.content l.sorter) (drop l.path-index l.paths);
  work : IsTrue g.S.Sorter.COUNTED → debt (g.S.Sorter.work l.sorter) + sum_by length (drop l.path-index l.paths)
      ≤ debt (g.S.Sorter.work l.initial.sorter) + sum_by length l.paths;
  removed : without_all (g.S.Sorter.content l.sorter) (drop l.path-index l.paths) ≡ without_all (g.S.Sorter.content l.initial.sorter) l.paths;
  made : (g.S.Sorter.work l.sorter).made ≡ (g.S.Sorter.work l.initial.sorter).made;
}

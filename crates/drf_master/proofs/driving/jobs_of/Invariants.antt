use Rattle.std.proofs.Common.{◌≡◌, length}
use Rattle.std.specs.Iterator.Adapters.{zip_first, zip_second}
use Rattle.std.specs.Vec.Iter.{into_iter_items, into_iter_len}
use Rattle.drf_master.proofs.Scripts.{IsShared}
use Rattle.drf_master.proofs.driving.jobs_of.Given as goal

-- there is a job for each pass so far, with its script
abbrev pub invariant-loop-pass : goal.invariant-loop-pass
invariant-loop-pass l =
    IsShared l.fn.passes.items l.fn.scripts.items l.jobs.items (into_iter_items (zip_first l.pass-iterator)) (into_iter_items (zip_second l.pass-iterator))
    × ((into_iter_len (zip_first l.pass-iterator) ≡ length (into_iter_items (zip_first l.pass-iterator)))
    × (into_iter_len (zip_second l.pass-iterator) ≡ length (into_iter_items (zip_second l.pass-iterator))))

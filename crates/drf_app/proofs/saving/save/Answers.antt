use Rattle.std.proofs.Common.{◌≡◌, List, ℕ, sym, subst}
use Rattle.drf_core.specs.Machine.{Machine, live}
use Rattle.drf_app.specs.Saving.{IsSavedAfter, IsTextOf, saved_of}
use Rattle.drf_app.proofs.Wrote.{saved_of_wrote}
use Rattle.drf_app.proofs.saving.save.Goals as goal

pub returns-clause-saved : goal.returns-clause-saved
unfolding live
returns-clause-saved g c =
    let advanced = c.in_ok-core.ensures.advanced in
    let bytes : List ℕ = c.in_ok-text.text.items in
    let saved : IsSavedAfter (live c.args.core) c.args.epoch advanced.read bytes =
    subst (λ (m : Machine). IsTextOf m.limits (saved_of c.args.epoch m.rows) bytes) advanced.machine c.in_ok-text.ensures in
    let is : c.deref.result.now ≡ bytes = c.deref.ensures.value in
    saved_of_wrote (live c.args.core) c.args.epoch _ _ _ _ advanced.read c.deref.result.now c.write_whole.result advanced.consumed advanced.whole (subst (IsSavedAfter (live c.args.core) c.args.epoch advanced.read) (sym is) saved)
    c.write_whole.ensures.ok c.write_whole.ensures.err c.write_whole.ensures.fault

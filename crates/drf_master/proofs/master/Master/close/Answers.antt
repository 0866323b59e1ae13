use Rattle.std.proofs.Common.{◌≡◌, List, subst}
use Rattle.drf_master.specs.Closing.{AreOf, IsCloseFault}
use Rattle.drf_master.specs.Matching.{IsShuffle, receipts_of}
use Rattle.drf_master.specs.Receipts.{Held}
use Rattle.drf_master.specs.declared.matching.CloseFault.TheVariants.{Memory}
use Rattle.drf_master.proofs.Closing.{closed}
use Rattle.drf_master.proofs.master.Master.close.Goals as goal

pub returns-in-Ok-clause-closed : goal.returns-in-Ok-clause-closed
returns-in-Ok-clause-closed g c =
    closed g.K.Naming.slate.limits g.K.Naming.start c.into_told-book.result.0 c.args.self.key c.args.passes.items c.deref.result.now c.deref.ensures.value
    c.into_told-book.ensures.limits c.entries.ensures.legal c.in-Ok.ensures.own c.in-Ok.ensures.shuffle

pub returns-in-Err-clause-fault : goal.returns-in-Err-clause-fault
returns-in-Err-clause-fault g c =
    subst (λ (passes : List Held). IsCloseFault c.into_told-book.result.0.entries c.args.self.key passes c.in-Err.fault) c.deref.ensures.value
    c.in-Err.ensures.fault

pub returns-in-Err-clause-exact : goal.returns-in-Err-clause-exact
returns-in-Err-clause-exact g c =
    let journal = c.into_told-book.result.0.entries in
    let key = c.args.self.key in
    subst (λ (passes : List Held). AreOf key passes → IsShuffle journal (receipts_of passes) → c.in-Err.fault ≡ Memory) c.deref.ensures.value
    c.in-Err.ensures.exact

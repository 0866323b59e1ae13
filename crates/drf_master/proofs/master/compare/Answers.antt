use Rattle.std.proofs.lemmas.Result.{IfErr-weaker}
use Rattle.drf_master.specs.Closing.{IsCloseFault}
use Rattle.drf_master.specs.Matching.{IsFault, receipts_of}
use Rattle.drf_master.proofs.Closing.{fault-own}
use Rattle.drf_master.proofs.master.compare.Goals as goal

pub returns-clause-fault : goal.returns-clause-fault
returns-clause-fault g c =
    let journal = c.args.book.now.entries in
    let passes = c.args.passes.now in
    let own = c.are_of.ensures.0 c.if-not-are_of.false in
    IfErr-weaker c.matches.result (IsFault journal (receipts_of passes)) (IsCloseFault journal c.args.key passes)
    (fault-own journal c.args.key passes own) c.matches.ensures.err

use Rattle.std.proofs.Common.{subst, sym}
use Rattle.drf_sorter.specs.Passed.{IsPassedPrefix}
use Rattle.drf_sorter.proofs.theorems.PassedLaws.{one_is_prefix}
use Rattle.drf_sorter.proofs.sorter.Sorter.pass_prefix.Goals as goal

pub returns-clause-queue : goal.returns-clause-queue
returns-clause-queue g c =
    let old = g.Self.Sorter.queue c.args.self.now in
    subst (IsPassedPrefix c.args.len old) (sym c.pass.ensures.queue) (one_is_prefix c.args.len old)

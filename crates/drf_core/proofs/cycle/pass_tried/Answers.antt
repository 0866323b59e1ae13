use Rattle.std.proofs.Common.{sym, subst}
use Rattle.drf_core.specs.cycle.Entitling.{IsPassedOver}
use Rattle.drf_core.proofs.drafting.Barred.{passed_alone}
use Rattle.drf_core.proofs.cycle.pass_tried.Goals as goal

pub returns-in-Barred-clause-queue : goal.returns-in-Barred-clause-queue
returns-in-Barred-clause-queue g c =
    subst (λ known. IsPassedOver known (g.S.Sorter.queue c.args.sorter.now) (g.S.Sorter.queue c.pass_prefix.new.self)) (sym c.in-Barred.is) c.pass_prefix.ensures.queue

pub returns-in_default-clause-queue : goal.returns-in_default-clause-queue
returns-in_default-clause-queue g c =
    passed_alone c.args.free.now.known (g.S.Sorter.queue c.args.sorter.now) (g.S.Sorter.queue c.pass.new.self) c.in_default.not-Barred c.pass.ensures.queue

use Rattle.std.proofs.Common.{Result, Ok, Err, sym, ap, ◌∙◌, arith}
use Rattle.std.specs.Result.{OnOk}
use Rattle.drf_rows.specs.Step.{effect}
use Rattle.drf_core.proofs.effects.Answered.{done}
use Rattle.drf_core.proofs.effects.Registered.{effect-report}
use Rattle.drf_laws.proofs.theorems.Kept.{few_agents_kept, few_offers_kept}
use Rattle.drf_core.proofs.cluster.Cluster.apply.Goals as goal

on_ok : {T E P : Type 0} (r : Result T E) → P → OnOk r P
on_ok (Ok x) fact = fact
on_ok (Err fault) fact = tt

pub report-requires-clause-consistent : goal.report-requires-clause-consistent
report-requires-clause-consistent g c = c.requires.kept.consistent

pub report-requires-clause-few_agents : goal.report-requires-clause-few_agents
report-requires-clause-few_agents g c =
    few_agents_kept c.args.limits.now c.args.self.now.rows c.requires.kept

pub report-requires-clause-few_offers : goal.report-requires-clause-few_offers
report-requires-clause-few_offers g c =
    omega (arith, few_offers_kept c.args.limits.now c.args.self.now.rows c.requires.kept)

pub returns-in_ok-report-in-Report-clause-ok : goal.returns-in_ok-report-in-Report-clause-ok
returns-in_ok-report-in-Report-clause-ok g c =
    on_ok c.of.result (effect-report c.args.self.now.rows ∙ ap (effect c.args.self.now.rows) (sym c.in-Report.is))

pub change-requires-clause-plain : goal.change-requires-clause-plain
change-requires-clause-plain g c =
    (done c.args.self.now.rows c.args.self.now.rows c.args.event c.in_default.not-Cycle c.in_default.not-Report).0

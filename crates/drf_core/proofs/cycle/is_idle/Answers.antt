use Rattle.std.proofs.Common.{[], sym, ◌∙◌, arith}
use Rattle.std.proofs.lemmas.Bool.{not-true}
use Rattle.drf_core.proofs.drafting.Closed.{no_turns-closed, no_turns-nobody}
use Rattle.drf_core.proofs.drafting.Turn.{sound_now}
use Rattle.drf_core.proofs.cycle.is_idle.Goals as goal

pub fix_order-requires : goal.fix_order-requires
fix_order-requires g c = sound_now (g.S.Sorter.content c.args.sorter.now) c.args.tables.now.rows [] c.requires.drafting (omega arith)

pub returns-then-not-has_open-clause-idle : goal.returns-then-not-has_open-clause-idle
returns-then-not-has_open-clause-idle g c = λ idle. no_turns-closed c.args.tables.now.rows (c.has_open.ensures c.if-not-has_open.true)

pub returns-clause-idle : goal.returns-clause-idle
returns-clause-idle g c = λ idle.
    no_turns-nobody (g.S.Sorter.content c.args.sorter.now) c.args.tables.now.rows (g.S.Sorter.queue c.fix_order.new.self) c.requires.drafting
    c.in_ok-fix_order.ensures.order (sym c.has_next.ensures ∙ not-true c.has_next.result idle)

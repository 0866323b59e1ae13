use Rattle.std.proofs.Common.{◌≡◌, ap, ◌∙◌, arith, length}
use Rattle.std.specs.Prelude.{max}
use Rattle.drf_rows.specs.declared.rows.Rows.{Rows}
use Rattle.drf_core.proofs.drafting.Cycle.{cycle-begins, drafting-begins}
use Rattle.drf_core.proofs.cycle.explain.begin.Goals as goal

pub set_clock-requires : goal.set_clock-requires
set_clock-requires g c = omega (arith, c.requires.kept.consistent.early, c.requires.early, c.max-timestamp.ensures, c.clock.ensures)

pub lend_consumption-requires : goal.lend_consumption-requires
lend_consumption-requires g c =
    let agents : c.settle.new.self.rows.agents ≡ c.args.tables.now.rows.agents = ap (λ (r : Rows). r.agents) (c.settle.ensures.same ∙ c.set_clock.ensures) in
    omega (arith, ap length agents, c.requires.kept.few.agents, c.requires.kept.few.ceilings.agents.1)

pub returns-clause-timestamp : goal.returns-clause-timestamp
returns-clause-timestamp g c =
    c.lend_consumption.ensures.same ∙ c.settle.ensures.same ∙ c.set_clock.ensures
    ∙ ap (λ n. record c.args.tables.now.rows { clock = n }) (c.max-timestamp.ensures ∙ ap (λ n. max n c.args.at) c.clock.ensures)

pub returns-clause-cycle : goal.returns-clause-cycle
returns-clause-cycle g c =
    let content = g.S.Sorter.content c.args.sorter.now in
    cycle-begins content c.lend_consumption.new.tables c.settle.new.self.rows (record { offers = c.new.result; lefts = c.new-2.result; consumption = c.in_ok-consumption.consumption }) c.lend_consumption.ensures.same
    (drafting-begins content c.args.limits.now c.args.tables.now.rows c.settle.new.self.rows c.max-timestamp.result c.new.result.items c.requires.sorted c.requires.kept
    (omega (arith, c.requires.kept.consistent.early, c.requires.early, c.max-timestamp.ensures, c.clock.ensures)) (c.settle.ensures.same ∙ c.set_clock.ensures) c.new.ensures.items)
    (c.lend_consumption.ensures.settled ∙ c.in_ok-settle.ensures.settled) c.new.ensures.items c.new-2.ensures.items c.in_ok-consumption.ensures.quota

use Rattle.std.proofs.Common.{◌≡◌, ◌+◌, Some, sym, ap, ◌∙◌, subst, map, length, refl}
use Rattle.std.specs.List.{AllByRecursion}
use Rattle.drf_tables.proofs.tables.Names.{set_value_at, are_settled, agent_row, IsKnown, Agent}
use Rattle.drf_holdings.specs.Stored.{holdings_in}
use Rattle.drf_tables.proofs.registry.Entries.{value_at}
use Rattle.drf_tables.proofs.registry.Known.{length-free_at, rows-free_at, settled-more, settled-set, known-set}
use Rattle.drf_tables.proofs.registry.Slots.{Entry, written_free}
use Rattle.drf_tables.proofs.registry.settling.settle_at.Goals as goal

pub returns-then-is_some-clause-settled : goal.returns-then-is_some-clause-settled
returns-then-is_some-clause-settled c =
    let entries = c.args.agents.now.entries in
    let place = c.args.place in
    let e : Entry Agent = c.at-entry.result.now in
    settled-more entries place e.1 c.requires.settled (value_at entries place e c.at-entry.ensures) (sym c.is_some.ensures ∙ c.if-is_some.true)

pub returns-clause-rows : goal.returns-clause-rows
returns-clause-rows c = ap (map agent_row) c.set_free_at.ensures ∙ rows-free_at c.args.agents.now.entries c.args.place c.new.result

pub returns-clause-known : goal.returns-clause-known
returns-clause-known c =
    let entries = c.args.agents.now.entries in
    let place = c.args.place in
    let free = c.new.result in
    let e : Entry Agent = c.at-entry.result.now in
    let reported : set_value_at entries place (record e.1 { free = Some free }) ≡ c.set_free_at.new.self.entries =
    written_free entries place e free c.at-entry.ensures ∙ sym c.set_free_at.ensures in
    subst (AllByRecursion (IsKnown (holdings_in c.args.holdings.now))) reported
    (known-set (holdings_in c.args.holdings.now) entries place e free c.at-entry.ensures c.requires.known (c.new.ensures ∙ c.in_ok-free.ensures))

pub returns-clause-settled : goal.returns-clause-settled
returns-clause-settled c =
    let entries = c.args.agents.now.entries in
    let place = c.args.place in
    let free = c.new.result in
    let e : Entry Agent = c.at-entry.result.now in
    let reported : set_value_at entries place (record e.1 { free = Some free }) ≡ c.set_free_at.new.self.entries =
    written_free entries place e free c.at-entry.ensures ∙ sym c.set_free_at.ensures in
    ap (are_settled (place + 1)) (sym reported)
    ∙ settled-set entries place e.1 (record e.1 { free = Some free }) c.requires.settled (value_at entries place e c.at-entry.ensures) refl

pub returns-clause-number : goal.returns-clause-number
returns-clause-number c = ap length c.set_free_at.ensures ∙ length-free_at c.args.agents.now.entries c.args.place c.new.result

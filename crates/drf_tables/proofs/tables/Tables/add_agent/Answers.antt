use Rattle.std.proofs.Common.{◌≡◌, ◌<◌, ◌&&◌, Bool, List, [], ◌∷◌, ◌++◌, Some, is_some, true, false, length, sym, ap, ◌∙◌, subst, refl, arith}
use Rattle.std.specs.Map.{lookup}
use Rattle.std.proofs.lemmas.List.Folds.{list_all-append}
use Rattle.drf_tables.proofs.tables.Names.{Text, same_text, amount_of, plus, Entry, Resource, quantities_of, IsAgent, has_agent, reserved_in, Rows, CountsAll, Stored, Agent}
use Rattle.drf_row_laws.proofs.RegistrationLaws.{new_agent, agent_added}
use Rattle.drf_rows.specs.declared.limits.TheConstants.{LARGEST_AMOUNT}
use Rattle.drf_tables.specs.Inside.{AreDerived, is_settled, rows_in, rows_of}
use Rattle.drf_tables.proofs.tables.Fields.{has_agent-rows_in, rows_of-agent, sums_fit}
use Rattle.drf_tables.proofs.tables.Kept.{AreDerived-agent_added}
use Rattle.drf_tables.proofs.limits.Running.{counts-alike, kept-still}
use Rattle.drf_tables.proofs.limits.Recounted.{adds_counted, consumption-agent_added, counts-consumed, counts-still, reserved_le}
use Rattle.drf_tables.proofs.tables.Tables.add_agent.Goals.{After-add}
use Rattle.drf_tables.proofs.tables.Tables.add_agent.Goals as goal

pub plus-requires : goal.plus-requires
plus-requires c = λ label.
    let kept = c.self.invariant.kept in
    let few = ap (λ (s : Stored). length s.rows.agents) c.self.view_is in
    let fits =
    sums_fit (rows_in c.self.inside).agents label (amount_of (quantities_of c.args.total) label) kept.consistent.agents.each
    (omega (arith, few, c.requires.few)) (c.requires.small label) in
    let sum = ap (λ es. amount_of es label) kept.total in
    let mine = ap (λ (es : List Entry). amount_of es label) c.quantities.ensures.value in
    omega (arith, fits, sum, mine)

pub consume_total-requires : goal.consume_total-requires
consume_total-requires c =
    let t = c.self.inside in
    adds_counted (rows_in t) t.consumption c.self.invariant.consumed (λ test label. reserved_in test label c.args.total)
    c.self.invariant.kept.consistent c.self.invariant.kept.few (λ test label. reserved_le c.args.total test label LARGEST_AMOUNT (c.requires.small label))

pub invariant_of-self-in_err-consume_total : goal.invariant_of-self-in_err-consume_total
invariant_of-self-in_err-consume_total c =
    let t = c.self.inside in
    let entries = c.reserve.new.self.entries in
    record {
      kept = kept-still t entries c.reserve.ensures.same c.self.invariant.kept;
      consumed = counts-alike t entries c.reserve.ensures.same c.consume_total.new.consumption
          (counts-still (rows_in t) t.consumption c.self.invariant.consumed c.consume_total.new.consumption c.in_err-consume_total.ensures.err);
    }

pub add-requires-clause-new : goal.add-requires-clause-new
add-requires-clause-new c =
    let t = c.self.inside in
    let name = c.args.name in
    (λ i. is_some (lookup (same_text (c.in_ok-named.ensures i)) (c.reserve.ensures.same i)))
    ∙ sym (has_agent-rows_in t name) ∙ ap (λ (s : Stored). has_agent s.rows name) c.self.view_is ∙ c.requires.new

-- it comes last
abbrev agent_of : List Resource → List Resource → Agent
agent_of total free = record { total = total; active = true; free = Some free }

last_at : (c : After-add) → c.add.new.self.entries ≡ c.self.inside.agents.entries ++ (c.args.name, agent_of c.args.total c.new.result) ∷ []
last_at c = c.add.ensures ∙ (λ i. c.reserve.ensures.same i ++ (c.in_ok-named.ensures i, agent_of c.args.total c.new.result) ∷ [])

pub invariant_of-self-2 : goal.invariant_of-self-2
invariant_of-self-2 c =
    let t = c.self.inside in
    let name = c.args.name in
    let total : List Resource = c.args.total in
    let agent = agent_of total c.new.result in
    let new : has_agent (rows_in t) name ≡ false =
    ap (λ (s : Stored). has_agent s.rows name) c.self.view_is ∙ c.requires.new in
    let few : length (rows_in t).agents < 4096 = subst (λ (s : Stored). length s.rows.agents < 4096) (sym c.self.view_is) c.requires.few in
    let last = last_at (goal.at.invariant_of-self-2 c).After-add in
    let entries = c.add.new.self.entries in
    let after = c.consume_total.new.consumption in
    let rows : Rows = rows_of entries t.frameworks.entries t.holdings t.filters t.weights.entries t.limits t.clock t.next_offer t.events in
    let reported : rows ≡ agent_added (rows_in t) name total = rows_of-agent t entries name agent last refl in
    let all : agent.free ≡ Some total = ap (λ (free : List Resource). Some free) (c.new.ensures ∙ c.in_ok-free.ensures.same) in
    let right : IsAgent (new_agent name total) = record {
      total = c.quantities.ensures.bundle;
      small = c.requires.small;
    } in
    let sum : c.in_ok-sum.sum ≡ plus t.total (quantities_of total) = c.in_ok-sum.ensures ∙ ap (plus t.total) c.quantities.ensures.value in
    let kept : AreDerived rows entries c.in_ok-sum.sum t.clients = rw (reported, last, sum) (
    AreDerived-agent_added (rows_in t) t.agents.entries t.total t.clients name agent c.self.invariant.kept few new right all
    ) in
    record {
      kept = kept;
      consumed = subst (λ (r : Rows). CountsAll r after) (sym reported)
          (counts-consumed (rows_in t) t.consumption c.self.invariant.consumed (agent_added (rows_in t) name total) after
          (λ test label. reserved_in test label total) c.in_ok-consume_total.ensures.ok (consumption-agent_added (rows_in t) name total));
    }

pub returns-clause-ok : goal.returns-clause-ok
returns-clause-ok c =
    let t = c.self.inside in
    let name = c.args.name in
    let last = last_at (goal.at.returns-clause-ok c).After-add in
    rows_of-agent t c.add.new.self.entries name (agent_of c.args.total c.new.result) last refl
    ∙ ap (λ (s : Stored). agent_added s.rows name c.args.total) c.self.view_is

pub returns-clause-settled : goal.returns-clause-settled
returns-clause-settled c =
    let t = c.self.inside in
    let name = c.args.name in
    let last = last_at (goal.at.returns-clause-settled c).After-add in
    ap is_settled last
    ∙ list_all-append (λ (e : Text × Agent). is_some e.1.free) t.agents.entries ((name, agent_of c.args.total c.new.result) ∷ [])
    ∙ by (is_settled t.agents.entries)
    ∙ ap (λ (s : Stored). s.settled) c.self.view_is
  where
    by : (b : Bool) → (b && true) ≡ b
    by true = refl
    by false = refl

use Rattle.std.proofs.Common.{◌≡◌, List, Option, count_by, length, ap, subst, sym, ◌∙◌}
use Rattle.std.proofs.lemmas.List.Sums.{length-filter}
use Rattle.drf_rows.specs.Filters.{is_in_force, number_in_force}
use Rattle.drf_rows.specs.declared.rows.FilterRow.{FilterRow}
use Rattle.drf_gates.specs.filters.Slots.{slot_passes, filters_in}
use Rattle.drf_gates.proofs.filters.FreeSlots.{count-filled}
use Rattle.drf_gates.proofs.filters.Held.{all_in_force}
use Rattle.drf_gates.proofs.filters.FilterTable.in_force.Goals as goal

pub returns-then-now-self : goal.returns-then-now-self
returns-then-now-self c =
    let t = c.self.inside in
    let all = all_in_force c.args.now t.soonest (filters_in t.slots) c.if-now-self.true c.self.invariant.none_before in
    subst (λ (rows : List FilterRow). t.slots.live ≡ number_in_force c.args.now rows) c.self.view_is
    (c.self.invariant.slots.live ∙ sym (ap length all) ∙ length-filter (is_in_force c.args.now) (filters_in t.slots))

pub returns : goal.returns
returns c =
    let t = c.self.inside in
    subst (λ (rows : List FilterRow). c.number_in_force.result ≡ number_in_force c.args.now rows) c.self.view_is
    (c.number_in_force.ensures ∙ ap (λ (rows : List (Option FilterRow)). count_by (slot_passes (is_in_force c.args.now)) rows) c.deref.ensures.value
    ∙ count-filled (is_in_force c.args.now) t.slots.rows.items)

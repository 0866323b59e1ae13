use Rattle.std.proofs.Common.{List, Option, Some, take, ap, refl, ◌∙◌}
use Rattle.std.specs.List.{take-map}
use Rattle.drf_rows.specs.declared.rows.FilterRow.{FilterRow}
use Rattle.drf_gates.specs.filters.Slots.{filters_in}
use Rattle.drf_gates.proofs.filters.Held.{closed-take, left-are, table-take}
use Rattle.drf_gates.proofs.filters.FilterTable.truncate.Goals as goal

pub find_again-requires : goal.find_again-requires
find_again-requires c =
    let s = c.self.inside.slots in
    let rows = c.truncate.ensures.items ∙ ap (λ (fs : List (Option FilterRow)). take c.args.number fs) c.keep_filled.ensures
    ∙ take-map (λ (f : FilterRow). Some f) c.args.number (filters_in s) in
    closed-take c.args.number s _ rows refl refl c.self.invariant.slots

pub invariant_of-self : goal.invariant_of-self
invariant_of-self c =
    let s = c.self.inside.slots in
    let rows = c.truncate.ensures.items ∙ ap (λ (fs : List (Option FilterRow)). take c.args.number fs) c.keep_filled.ensures
    ∙ take-map (λ (f : FilterRow). Some f) c.args.number (filters_in s) in
    let left = left-are (take c.args.number (filters_in s)) c.truncate.new.self.items c.find_again.new.self rows c.find_again.ensures.same in
    table-take c.args.number s c.find_again.new.self c.self.inside.soonest left c.find_again.ensures.slots c.self.invariant

pub returns : goal.returns
returns c =
    let s = c.self.inside.slots in
    let rows = c.truncate.ensures.items ∙ ap (λ (fs : List (Option FilterRow)). take c.args.number fs) c.keep_filled.ensures
    ∙ take-map (λ (f : FilterRow). Some f) c.args.number (filters_in s) in
    left-are (take c.args.number (filters_in s)) c.truncate.new.self.items c.find_again.new.self rows c.find_again.ensures.same
    ∙ ap (λ (fs : List FilterRow). take c.args.number fs) c.self.view_is

use Rattle.std.proofs.Common.{◌≡◌, ◌-◌, ℕ, List, ap, ◌∙◌}
use Rattle.drf_role.specs.Path.{Path}
use Rattle.drf_role.specs.Text.{Text}
use Rattle.drf_bundle.specs.Quantities.{known_amount, with_amount}
use Rattle.drf_bundle.specs.declared.quantities.Entry.{Entry}
use Rattle.drf_gates.specs.quota.Allowance.{Allowance, lesser, used_at}
use Rattle.drf_gates.proofs.quota.Room.{lessening_end, lessening_more, lessening_start}
use Rattle.drf_gates.proofs.quota.Quota.add_headroom.Goals as goal

pub loop-entry-init : goal.loop-entry-init
loop-entry-init c =
    lessening_start (used_at c.args.self.now.used) c.args.limited.now c.args.limit.now c.entries-entry-items.result.now c.args.room.now
    c.entries-entry-items.ensures.value c.entries-entry-items.ensures.in_order

pub loop-entry-preserved : goal.loop-entry-preserved
loop-entry-preserved c =
    let e : Entry = c.entry-item.result in
    let room : List Entry = c.loop-entry.room in
    let limited : Path = c.args.limited.now in
    let used : Text → ℕ = used_at c.args.self.now.used limited in
    let own : c.amount_at-used.result ≡ used c.text-label.result.now =
    c.amount_at-used.ensures ∙ ap (λ (a : Allowance). used_at a.used limited c.text-label.result.now) c.self.view_is in
    let left : c.saturating_sub-left.result ≡ e.amount - used e.label =
    c.saturating_sub-left.ensures
    ∙ (λ i. c.thousandths.ensures i - own i)
    ∙ ap (λ (n : Text). e.amount - used n) c.text-label.ensures.text in
    let known : c.known_amount_of.result ≡ known_amount room e.label = c.known_amount_of.ensures in
    let least : c.lesser-least.result ≡ lesser (known_amount room e.label) (e.amount - used e.label) =
    c.lesser-least.ensures ∙ (λ i. lesser (known i) (left i)) in
    let set : c.set.new.self ≡ with_amount room e.label (lesser (known_amount room e.label) (e.amount - used e.label)) =
    c.in_ok-set.ensures.ok ∙ (λ i. with_amount room (c.in_ok-copy.ensures i) (least i)) in
    lessening_more (used_at c.args.self.now.used) limited c.args.limit.now c.args.room.now room c.entries-entry-items.result.now
    c.loop-entry.entry-index e c.set.new.self c.loop-entry-test.true c.entry-item.is c.loop-entry.invariant set

pub returns : goal.returns
returns c =
    lessening_end (used_at c.args.self.now.used) c.args.limited.now c.args.limit.now c.args.room.now c.loop-entry.room
    c.entries-entry-items.result.now c.loop-entry.entry-index c.loop-entry-test.false c.loop-entry.invariant

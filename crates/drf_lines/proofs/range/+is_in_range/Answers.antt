use Rattle.std.proofs.Common.{◌≡◌, ◌<◌, ◌∙◌, false, length, sym, subst, arith, rules}
use Rattle.json.specs.Tree.{json_tokens, items_tokens, members_tokens}
use Rattle.json.specs.Value.{value_view, items_view, members_view}
use Rattle.json.proofs.Trees.{item_smaller, member_smaller}
use Rattle.drf_lines.specs.LineValue.{items_in_range, members_in_range}
use Rattle.drf_lines.proofs.Ranges.{item_out, item_in, member_out, member_in}
use Rattle.drf_lines.proofs.range.+is_in_range.Goals as goal

pub items_in_range-is_in_range-requires : goal.items_in_range-is_in_range-requires
items_in_range-is_in_range-requires t c =
    let xs = c.deref-item-items.result.now in
    let x = c.item-item.result in
    let smaller : length (json_tokens (value_view x)) < length (items_tokens (items_view c.args.items.now.items)) =
    subst (λ ys. length (json_tokens (value_view x)) < length (items_tokens (items_view ys))) c.deref-item-items.ensures.value
    (subst (λ y. length (json_tokens (value_view y)) < length (items_tokens (items_view xs))) (sym c.item-item.is) (item_smaller xs c.loop-item.item-index x (omega arith))) in
    search rules

pub items_in_range-returns-then-not-is_in_range : goal.items_in_range-returns-then-not-is_in_range
items_in_range-returns-then-not-is_in_range t c =
    let xs = c.deref-item-items.result.now in
    subst (λ ys. false ≡ items_in_range (items_view ys)) c.deref-item-items.ensures.value
    (item_out xs c.loop-item.item-index c.item-item.result c.loop-item-test.true c.item-item.is c.loop-item.invariant (sym c.is_in_range.ensures ∙ c.if-not-is_in_range.true))

pub items_in_range-loop-item-preserved : goal.items_in_range-loop-item-preserved
items_in_range-loop-item-preserved t c =
    let xs = c.deref-item-items.result.now in
    item_in xs c.loop-item.item-index c.item-item.result c.loop-item-test.true c.item-item.is c.loop-item.invariant (sym c.is_in_range.ensures ∙ c.if-not-is_in_range.false)

pub members_in_range-is_in_range-requires : goal.members_in_range-is_in_range-requires
members_in_range-is_in_range-requires t c =
    let xs = c.deref-member-items.result.now in
    let x = c.member-item.result in
    let smaller : length (json_tokens (value_view x.1)) < length (members_tokens (members_view c.args.members.now.items)) =
    subst (λ ys. length (json_tokens (value_view x.1)) < length (members_tokens (members_view ys))) c.deref-member-items.ensures.value
    (subst (λ y. length (json_tokens (value_view y.1)) < length (members_tokens (members_view xs))) (sym c.member-item.is) (member_smaller xs c.loop-member.member-index x (omega arith))) in
    search rules

pub members_in_range-returns-then-not-is_in_range : goal.members_in_range-returns-then-not-is_in_range
members_in_range-returns-then-not-is_in_range t c =
    let xs = c.deref-member-items.result.now in
    subst (λ ys. false ≡ members_in_range (members_view ys)) c.deref-member-items.ensures.value
    (member_out xs c.loop-member.member-index c.member-item.result c.loop-member-test.true c.member-item.is c.loop-member.invariant (sym c.is_in_range.ensures ∙ c.if-not-is_in_range.true))

pub members_in_range-loop-member-preserved : goal.members_in_range-loop-member-preserved
members_in_range-loop-member-preserved t c =
    let xs = c.deref-member-items.result.now in
    member_in xs c.loop-member.member-index c.member-item.result c.loop-member-test.true c.member-item.is c.loop-member.invariant (sym c.is_in_range.ensures ∙ c.if-not-is_in_range.false)

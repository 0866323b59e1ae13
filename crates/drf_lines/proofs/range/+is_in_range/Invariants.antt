use Rattle.std.proofs.Common.{◌≡◌, drop, length}
use Rattle.json.specs.Tree.{json_tokens, items_tokens, members_tokens}
use Rattle.json.specs.Value.{value_view, items_view, members_view}
use Rattle.drf_lines.specs.LineValue.{items_in_range, members_in_range}
use Rattle.drf_lines.proofs.range.+is_in_range.Given as goal

abbrev pub decreases-is_in_range : goal.decreases-is_in_range
decreases-is_in_range l = length (json_tokens (value_view l.value.now))

abbrev pub decreases-items_in_range : goal.decreases-items_in_range
decreases-items_in_range l = length (items_tokens (items_view l.items.now.items))

abbrev pub decreases-members_in_range : goal.decreases-members_in_range
decreases-members_in_range l = length (members_tokens (members_view l.members.now.items))

abbrev pub invariant-items_in_range-loop-item : goal.invariant-items_in_range-loop-item
invariant-items_in_range-loop-item l = items_in_range (items_view (drop l.item-index l.item-items)) ≡ items_in_range (items_view l.item-items)

abbrev pub invariant-members_in_range-loop-member : goal.invariant-members_in_range-loop-member
invariant-members_in_range-loop-member l =
    members_in_range (members_view (drop l.member-index l.member-items)) ≡ members_in_range (members_view l.member-items)

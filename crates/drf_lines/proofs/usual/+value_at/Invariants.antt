use Rattle.std.proofs.Common.{◌≡◌, ℕ, true, length, ◌+◌, ◌-◌, ◌*◌, ◌≤◌}
use Rattle.json.specs.Lex.{Place, may_begin}
use Rattle.json.specs.Value.{items_view, members_view}
use Rattle.drf_lines.specs.LineValue.{items_in_range, members_in_range}
use Rattle.drf_lines.proofs.UsualSteps.{HasItems, HasMembers}
use Rattle.drf_lines.proofs.usual.+value_at.Given as goal

abbrev pub decreases-value_at : goal.decreases-value_at
decreases-value_at l = 3 * l.depth

abbrev pub decreases-inner_at : goal.decreases-inner_at
decreases-inner_at l = 3 * l.depth + 1

abbrev pub decreases-items_at : goal.decreases-items_at
decreases-items_at l = 3 * l.depth + 2

abbrev pub decreases-members_at : goal.decreases-members_at
decreases-members_at l = 3 * l.depth + 2

abbrev pub invariant-items_at-loop-at : goal.invariant-items_at-loop-at
invariant-items_at-loop-at l = (before : Place) × (may_begin before ≡ true) × (n : ℕ) × HasItems l.depth l.text l.from l.found.items before l.at n × (l.from ≤ l.at)
    × (items_in_range (items_view l.found.items) ≡ true)

abbrev pub decreases-items_at-loop-at : goal.decreases-items_at-loop-at
decreases-items_at-loop-at l = length l.text - l.at

abbrev pub invariant-members_at-loop-at : goal.invariant-members_at-loop-at
invariant-members_at-loop-at l = (before : Place) × (may_begin before ≡ true) × (n : ℕ) × HasMembers l.depth l.text l.from l.found.items before l.at n × (l.from ≤ l.at)
    × (members_in_range (members_view l.found.items) ≡ true)

abbrev pub decreases-members_at-loop-at : goal.decreases-members_at-loop-at
decreases-members_at-loop-at l = length l.text - l.at

use Rattle.std.proofs.Common.{◌≡◌, ◌≤◌, [], length, map, take, drop}
use Rattle.json.specs.Strict.{keys}
use Rattle.json.specs.Value.{members_view}
use Rattle.drf_lines.proofs.KeyCounts.{count_after}
use Rattle.drf_lines.proofs.object.has_keys.Given as goal

abbrev pub invariant-loop-member : goal.invariant-loop-member
invariant-loop-member l =
    (length l.names ≡ 8) × (l.found ≤ l.count)
    × (count_after (map (λ name. name.now) (take l.found l.names)) (keys (members_view (drop l.member-index l.members)))
    ≡ count_after [] (keys (members_view l.members)))

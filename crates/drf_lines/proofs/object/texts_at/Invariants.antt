use Rattle.std.proofs.Common.{◌≡◌, map, drop, option_and_then}
use Rattle.drf_lines.specs.LineValue.{line_view}
use Rattle.serde_json.specs.Find.{get, as_array}
use Rattle.drf_lines.specs.Object.{texts_of}
use Rattle.drf_lines.proofs.Values.{texts_after}
use Rattle.drf_lines.proofs.object.texts_at.Given as goal

abbrev pub invariant-loop-item : goal.invariant-loop-item
invariant-loop-item l =
    texts_after (map (λ text. text.now) l.texts.items) (drop l.item-index l.item-items)
    ≡ option_and_then texts_of (option_and_then as_array (get l.key (line_view l.value)))

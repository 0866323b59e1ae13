use Rattle.std.proofs.Common.{◌≡◌, ◌++◌, drop}
use Rattle.serde_json.specs.Written.{compact_text}
use Rattle.drf_ask.specs.Answer.{list_value, listed, is_listed}
use Rattle.drf_ask.proofs.Texts.{left_text}
use Rattle.drf_ask.proofs.list.push_list.Given as goal

-- the text so far, followed by that of the remaining items, is the text of all items
abbrev pub invariant-loop-item : goal.invariant-loop-item
invariant-loop-item g l =
    l.text.items ++ left_text g.T.Listed.value (is_listed g.T.Listed.is_of l.framework) l.later (drop l.item-index l.items)
    ≡ l.fn.text.items ++ compact_text (list_value g.T.Listed.value (listed g.T.Listed.is_of l.framework l.items))

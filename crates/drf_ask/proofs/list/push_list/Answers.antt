use Rattle.std.proofs.Common.{◌++◌, sym, ◌∙◌}
use Rattle.serde_json.specs.Written.{compact_text}
use Rattle.drf_ask.specs.Answer.{list_value, listed, is_listed}
use Rattle.drf_ask.proofs.Texts.{list_begun, item_passed, item_added, list_ended}
use Rattle.drf_ask.proofs.list.push_list.Goals as goal
use Rattle.drf_ask.proofs.list.push_list.Goals.{then-is_listed+in_ok-put_comma+in_ok-push-2, else-is_listed}

pub loop-item-init : goal.loop-item-init
loop-item-init g c =
    list_begun g.T.Listed.value (is_listed g.T.Listed.is_of c.args.framework.now) c.args.items.now c.args.text.now.items c.push.new.self.items c.in_ok-push.ensures.items

pub loop-item-preserved : goal.loop-item-preserved
loop-item-preserved g c =
    let value = g.T.Listed.value in
    let test = is_listed g.T.Listed.is_of c.args.framework.now in
    let total = c.args.text.now.items ++ compact_text (list_value value (listed g.T.Listed.is_of c.args.framework.now c.args.items.now)) in
    elim c.if-is_listed.branch [
      | then-is_listed+in_ok-put_comma+in_ok-push-2 w ↦
          rw (w.later-is, w.text-is)
          (item_added value test c.args.items.now c.loop-item.item-index c.item-item.result total c.loop-item.text.items c.loop-item.later
          c.loop-item-test.true c.item-item.is c.loop-item.invariant _ _ (sym c.is_listed.ensures ∙ w.if-is_listed.true) w.in_ok-put_comma.ensures w.in_ok-push-2.ensures)
      | else-is_listed w ↦
          rw (w.later-is, w.text-is)
          (item_passed value test c.args.items.now c.loop-item.item-index c.item-item.result total c.loop-item.text.items c.loop-item.later
          c.loop-item-test.true c.item-item.is c.loop-item.invariant (sym c.is_listed.ensures ∙ w.if-is_listed.false))
    ]

pub returns : goal.returns
returns g c =
    let value = g.T.Listed.value in
    let test = is_listed g.T.Listed.is_of c.args.framework.now in
    let total = c.args.text.now.items ++ compact_text (list_value value (listed g.T.Listed.is_of c.args.framework.now c.args.items.now)) in
    list_ended value test c.args.items.now c.loop-item.item-index total c.loop-item.text.items _ c.loop-item.later
    c.loop-item-test.false c.loop-item.invariant c.in_ok-push-3.ensures.items

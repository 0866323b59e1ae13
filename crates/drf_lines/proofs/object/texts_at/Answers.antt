use Rattle.std.proofs.Common.{◌≡◌, ◌∙◌, ◌∷◌, ◌+◌, Some, None, map, drop, option_and_then, sym, ap}
use Rattle.std.proofs.lemmas.List.{at_drop_more, at_drop_all, map-append}
use Rattle.std.proofs.lemmas.Result.{err_from_is_err_and}
use Rattle.std.specs.Option.{ok_or}
use Rattle.drf_lines.specs.declared.fault.LineFault.TheVariants.{BadShape}
use Rattle.serde_json.specs.Find.{get, as_str, as_array}
use Rattle.drf_lines.specs.LineValue.{line_view}
use Rattle.drf_lines.specs.Object.{texts_of, texts_at}
use Rattle.drf_lines.proofs.Values.{texts_after, texts_after-nil, texts_after-end, texts_after-text, texts_after-none}
use Rattle.drf_lines.proofs.Exits.{fault_of_none}
use Rattle.drf_lines.proofs.object.texts_at.Goals as goal

pub returns-in_err-items : goal.returns-in_err-items
unfolding texts_at
returns-in_err-items c =
    let p = err_from_is_err_and c.from_residual.result c.from_residual.ensures.1 in
    let none = rw c.in_err-items.ensures.ok_part at c.items_at.ensures in
    rw (p.1, p.2, ← none, fault_of_none _ _ _ c.in_err-items.ensures.ok_part c.in_err-items.ensures.value)

pub loop-item-init : goal.loop-item-init
unfolding texts_at
loop-item-init c =
    let some = rw c.in_ok-items.ensures.ok_part at c.items_at.ensures in
    rw (c.new-texts.ensures.items, c.deref-item-items.ensures.value)
    (texts_after-nil c.in_ok-items.items.now.items ∙ ap (option_and_then texts_of) some)

pub returns-in_err-ok_or : goal.returns-in_err-ok_or
unfolding texts_at
returns-in_err-ok_or c =
    let p = err_from_is_err_and c.from_residual-in_err-ok_or.result c.from_residual-in_err-ok_or.ensures.1 in
    let items = c.deref-item-items.result.now in
    let i = c.loop-item.item-index in
    let texts = map (λ text. text.now) c.loop-item.texts.items in
    let item = c.item-item.result in
    let none : as_str (line_view item) ≡ None = sym (rw c.in_err-ok_or.ensures.ok_part at c.as_text.ensures) in
    let whole : option_and_then texts_of (option_and_then as_array (get c.args.key.now (line_view c.args.value.now)))
    ≡ None =
    sym c.loop-item.invariant ∙ at_drop_more (texts_after texts) items i item c.loop-item-test.true
    ∙ ap (λ x. texts_after texts (x ∷ drop (i + 1) items)) (sym c.item-item.is)
    ∙ texts_after-none texts item (drop (i + 1) items) none in
    rw (p.1, p.2, whole, fault_of_none _ _ _ c.in_err-ok_or.ensures.ok_part c.in_err-ok_or.ensures.value)

pub loop-item-preserved : goal.loop-item-preserved
loop-item-preserved c =
    let items = c.deref-item-items.result.now in
    let i = c.loop-item.item-index in
    let texts = map (λ text. text.now) c.loop-item.texts.items in
    let item = c.item-item.result in
    let text = c.in_ok-ok_or.field-0.now in
    let some : as_str (line_view item) ≡ Some text = sym (rw c.in_ok-ok_or.ensures.ok_part at c.as_text.ensures) in
    rw (c.in_ok-push.ensures.items, map-append) (sym (
    sym c.loop-item.invariant ∙ at_drop_more (texts_after texts) items i item c.loop-item-test.true
    ∙ ap (λ x. texts_after texts (x ∷ drop (i + 1) items)) (sym c.item-item.is)
    ∙ texts_after-text texts item (drop (i + 1) items) text some))

pub returns : goal.returns
unfolding texts_at
returns c =
    let items = c.deref-item-items.result.now in
    let texts = map (λ text. text.now) c.loop-item.texts.items in
    ap (λ o. ok_or o BadShape) (sym c.loop-item.invariant
    ∙ at_drop_all (texts_after texts) items c.loop-item.item-index c.loop-item-test.false ∙ texts_after-end texts)

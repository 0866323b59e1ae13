use Rattle.std.proofs.Common.{◌∷◌, [], map}
use Rattle.std.proofs.lemmas.List.{map-append}
use Rattle.std.proofs.lemmas.Result.{err_from_is_err_and}
use Rattle.drf_lines.specs.FrameworkRows as reported_as
use Rattle.drf_lines.specs.FrameworkRows.{client_text}
use Rattle.drf_lines.specs.LineValue.{line_view}
use Rattle.drf_lines.specs.declared.clients.ClientText.{ClientText}
use Rattle.drf_lines.proofs.EachIn.{each_after-refused, each_after-one, each_after-all}
use Rattle.drf_lines.proofs.clients.client_texts.Goals as goal

abbrev reported : ClientText → reported_as.ClientText
reported t = (t.role.now, t.count, t.suppressed)

pub returns-in_err-client_text : goal.returns-in_err-client_text
returns-in_err-client_text c =
    let p = err_from_is_err_and c.from_residual-in_err-client_text.result c.from_residual-in_err-client_text.ensures.1 in
    rw (p.1, p.2) (each_after-refused client_text line_view (map reported c.loop-value.clients.items) _ _ c.loop-value.invariant
    c.value-item.result _ c.loop-value-test.true c.value-item.is reported (map reported) c.in_err-client_text.field-0.0 c.in_err-client_text.ensures)

pub loop-value-preserved : goal.loop-value-preserved
loop-value-preserved c =
    rw (c.in_ok-push.ensures.items, map-append reported c.loop-value.clients.items (c.in_ok-client_text.field-0 ∷ []))
    (each_after-one client_text line_view _ _ _ c.loop-value.invariant _ _ c.loop-value-test.true c.value-item.is (reported c.in_ok-client_text.field-0) c.in_ok-client_text.ensures)

pub returns : goal.returns
returns c = rw c.from_vec.ensures (each_after-all client_text line_view _ _ _ c.loop-value.invariant c.loop-value-test.false)

use Rattle.std.proofs.Common.{[], List, false, refl}
use Rattle.std.proofs.lemmas.Result.{err_from_is_err_and}
use Rattle.drf_rows.specs.declared.rows.ClientRow.{ClientRow}
use Rattle.drf_lines.specs.FrameworkRows as reported_as
use Rattle.drf_lines.specs.FrameworkRows.{client_in}
use Rattle.drf_lines.specs.declared.clients.ClientText.{ClientText}
use Rattle.drf_lines.proofs.EachIn.{each_after-refused, each_after-one, each_after-all}
use Rattle.drf_lines.proofs.clients.read_clients.Goals as goal

abbrev reported : ClientText → reported_as.ClientText
reported t = (t.role.now, t.count, t.suppressed)

abbrev none : ClientText
none = record { role = record { ref_ptr = (0, 0); now = [] }; count = 0; suppressed = false }

pub returns-in_err-read_client : goal.returns-in_err-read_client
returns-in_err-read_client c =
    let p = err_from_is_err_and c.from_residual-in_err-read_client.result c.from_residual-in_err-read_client.ensures.1 in
    rw (p.1, p.2) (each_after-refused client_in reported c.loop-text.clients.items c.args.texts.now _ c.loop-text.invariant _ none c.loop-text-test.true refl
    (λ (r : ClientRow). r) (λ (rs : List ClientRow). rs) c.in_err-read_client.field-0.0 c.in_err-read_client.ensures)

pub loop-text-preserved : goal.loop-text-preserved
loop-text-preserved c =
    rw (c.in_ok-push.ensures.items)
    (each_after-one client_in reported c.loop-text.clients.items c.args.texts.now _ c.loop-text.invariant _ none c.loop-text-test.true refl c.in_ok-read_client.field-0 c.in_ok-read_client.ensures)

pub returns : goal.returns
returns c = rw c.from_vec.ensures (each_after-all client_in reported c.loop-text.clients.items c.args.texts.now _ c.loop-text.invariant c.loop-text-test.false)
